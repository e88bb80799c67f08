use Rattle.l2_pointer_circuits.proofs.Making.{among_is_made as proved}
use Rattle.l2_pointer_circuits.proofs.laws.among_is_made.Goals as goal

pub returns : goal.returns
returns c = proved
