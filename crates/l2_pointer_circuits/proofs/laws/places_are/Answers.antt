use Rattle.l2_pointer_circuits.proofs.Shown.{places_are as proved}
use Rattle.l2_pointer_circuits.proofs.laws.places_are.Goals as goal

pub returns : goal.returns
returns c = proved
