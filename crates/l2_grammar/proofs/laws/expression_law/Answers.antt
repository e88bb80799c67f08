use Rattle.l2_grammar.proofs.Expressions.{ends_before, ends_so}
use Rattle.l2_grammar.proofs.laws.expression_law.Goals as goal

pub returns : goal.returns
returns c = (λ l n ts r rest. (ends_before l n ts r rest, ends_so l n ts r rest))
