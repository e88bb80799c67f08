use Rattle.l2_pointer_circuits.proofs.Testing.{null_law as proved}
use Rattle.l2_pointer_circuits.proofs.laws.null_is.Goals as goal

pub returns : goal.returns
returns c = proved
