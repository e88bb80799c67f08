use Rattle.l2_front_laws.proofs.Raising.{raised}
use Rattle.l2_front_laws.proofs.laws.raised_law.Goals as goal

pub returns : goal.returns
returns c = raised
