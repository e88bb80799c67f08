use Rattle.l2_pointer_circuits.proofs.Codes.{sets_have_cells as proved}
use Rattle.l2_pointer_circuits.proofs.laws.sets_have_cells.Goals as goal

pub returns : goal.returns
returns c = proved
