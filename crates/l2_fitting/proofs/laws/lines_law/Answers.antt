use Rattle.l2_fitting.proofs.Spelling.{said_spelt}
use Rattle.l2_fitting.proofs.laws.lines_law.Goals as goal

pub returns : goal.returns
returns c = said_spelt
