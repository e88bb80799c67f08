use Rattle.l2_pointer_circuits.proofs.Operators.{operators_show as proved}
use Rattle.l2_pointer_circuits.proofs.laws.operators_show.Goals as goal

pub returns : goal.returns
returns c = proved
