use Rattle.l2_pointer_circuits.proofs.Making.{constants_are_there as proved}
use Rattle.l2_pointer_circuits.proofs.laws.constants_are_there.Goals as goal

pub returns : goal.returns
returns c = proved
