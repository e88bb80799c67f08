use Rattle.l2_grammar.proofs.Reading.{stops}
use Rattle.l2_grammar.proofs.laws.stop_law.Goals as goal

pub returns : goal.returns
returns c = stops
