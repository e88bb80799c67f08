use Rattle.l2_pointer_circuits.proofs.Shown.{picks_are as proved}
use Rattle.l2_pointer_circuits.proofs.laws.picks_are.Goals as goal

pub returns : goal.returns
returns c = proved
