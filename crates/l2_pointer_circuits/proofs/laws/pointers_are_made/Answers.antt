use Rattle.l2_pointer_circuits.proofs.Making.{pointers_are_made as proved}
use Rattle.l2_pointer_circuits.proofs.laws.pointers_are_made.Goals as goal

pub returns : goal.returns
returns c = proved
