use Rattle.l2_pointer_circuits.proofs.Moves.{moves_law as proved}
use Rattle.l2_pointer_circuits.proofs.laws.moves_are.Goals as goal

pub returns : goal.returns
returns c = proved
