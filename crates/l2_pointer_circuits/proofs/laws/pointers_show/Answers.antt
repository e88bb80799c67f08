use Rattle.l2_pointer_circuits.proofs.Shown.{pointers_show as proved}
use Rattle.l2_pointer_circuits.proofs.laws.pointers_show.Goals as goal

pub returns : goal.returns
returns c = proved
