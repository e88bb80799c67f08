use Rattle.l2_pointer_circuits.proofs.Testing.{live_law as proved}
use Rattle.l2_pointer_circuits.proofs.laws.live_is.Goals as goal

pub returns : goal.returns
returns c = proved
