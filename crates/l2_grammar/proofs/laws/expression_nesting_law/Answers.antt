use Rattle.l2_grammar.proofs.Expressions.{nests_at, nests_so}
use Rattle.l2_grammar.proofs.laws.expression_nesting_law.Goals as goal

pub returns : goal.returns
returns c = (λ l n ts rest. (nests_at l n ts rest, nests_so l n ts rest))
