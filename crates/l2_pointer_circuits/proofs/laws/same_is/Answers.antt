use Rattle.l2_pointer_circuits.proofs.Testing.{same_law as proved}
use Rattle.l2_pointer_circuits.proofs.laws.same_is.Goals as goal

pub returns : goal.returns
returns c = proved
