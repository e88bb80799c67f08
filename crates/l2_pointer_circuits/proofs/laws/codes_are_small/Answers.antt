use Rattle.l2_pointer_circuits.proofs.Codes.{codes_are_small as proved}
use Rattle.l2_pointer_circuits.proofs.laws.codes_are_small.Goals as goal

pub returns : goal.returns
returns c = proved
