use Rattle.l2_pointer_circuits.proofs.Moves.{moves_show as proved}
use Rattle.l2_pointer_circuits.proofs.laws.moves_show.Goals as goal

pub returns : goal.returns
returns c = proved
