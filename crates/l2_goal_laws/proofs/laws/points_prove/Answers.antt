use Rattle.l2_goal_laws.proofs.Programs.{points_prove as proved}
use Rattle.l2_goal_laws.proofs.laws.points_prove.Goals as goal

pub returns : goal.returns
returns c = proved c.programs.ensures
