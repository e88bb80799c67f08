use Rattle.l2_pointer_circuits.proofs.Testing.{invalid_law as proved}
use Rattle.l2_pointer_circuits.proofs.laws.invalid_is.Goals as goal

pub returns : goal.returns
returns c = proved
