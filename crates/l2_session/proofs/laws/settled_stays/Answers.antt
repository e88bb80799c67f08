use Rattle.l2_session.proofs.Asking.{stays}
use Rattle.l2_session.proofs.laws.settled_stays.Goals as goal

pub returns : goal.returns
returns c = stays
