use Rattle.l2_grammar.proofs.Limits.{stops_before}
use Rattle.l2_grammar.proofs.laws.syntax_law.Goals as goal

pub returns : goal.returns
returns c = stops_before
