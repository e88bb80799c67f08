use Rattle.l2_grammar.proofs.Fed.{unique}
use Rattle.l2_grammar.proofs.laws.unique_law.Goals as goal

pub returns : goal.returns
returns c = unique
