use Rattle.l2_front_laws.proofs.Raising.{at_bottom}
use Rattle.l2_front_laws.proofs.laws.bottom_law.Goals as goal

pub returns : goal.returns
returns c = at_bottom
