use Rattle.l2_deref.proofs.Among.{candidates_law}
use Rattle.l2_deref.proofs.laws.candidates_hold.Goals as goal

pub returns : goal.returns
returns c = candidates_law
