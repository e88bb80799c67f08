use Rattle.l2_sat.proofs.Answered.{status_law}
use Rattle.l2_sat.proofs.laws.statuses.Goals as goal

pub returns : goal.returns
returns c = status_law
