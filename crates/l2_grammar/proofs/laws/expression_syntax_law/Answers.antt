use Rattle.l2_grammar.proofs.Expressions.{breaks_at, breaks_so}
use Rattle.l2_grammar.proofs.laws.expression_syntax_law.Goals as goal

pub returns : goal.returns
returns c = (λ l n ts rest. (breaks_at l n ts rest, breaks_so l n ts rest))
