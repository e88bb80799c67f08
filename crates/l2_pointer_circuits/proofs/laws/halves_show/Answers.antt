use Rattle.l2_pointer_circuits.proofs.Shown.{halves_show as proved}
use Rattle.l2_pointer_circuits.proofs.laws.halves_show.Goals as goal

pub returns : goal.returns
returns c = proved
