use Rattle.l2_grammar.proofs.Limits.{nests_before}
use Rattle.l2_grammar.proofs.laws.nesting_law.Goals as goal

pub returns : goal.returns
returns c = nests_before
