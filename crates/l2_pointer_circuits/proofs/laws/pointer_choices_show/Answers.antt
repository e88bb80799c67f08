use Rattle.l2_pointer_circuits.proofs.Shown.{pointer_choices_show as proved}
use Rattle.l2_pointer_circuits.proofs.laws.pointer_choices_show.Goals as goal

pub returns : goal.returns
returns c = proved
