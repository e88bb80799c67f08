use Rattle.l2_pointer_circuits.proofs.Testing.{cells_law as proved}
use Rattle.l2_pointer_circuits.proofs.laws.cells_are.Goals as goal

pub returns : goal.returns
returns c = proved
