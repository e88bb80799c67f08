use Rattle.l2_point_laws.proofs.Falling.{falling}
use Rattle.l2_point_laws.proofs.Reaching.{reaching}
use Rattle.l2_point_laws.proofs.laws.reach_law.Goals as goal

pub returns-clause-rows : goal.returns-clause-rows
returns-clause-rows c = falling

pub returns-clause-below : goal.returns-clause-below
returns-clause-below c = reaching
