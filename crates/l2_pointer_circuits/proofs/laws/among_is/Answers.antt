use Rattle.l2_pointer_circuits.proofs.Testing.{among_law as proved}
use Rattle.l2_pointer_circuits.proofs.laws.among_is.Goals as goal

pub returns : goal.returns
returns c = proved
