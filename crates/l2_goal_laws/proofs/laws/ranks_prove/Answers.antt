use Rattle.l2_goal_laws.proofs.Programs.{ranks_prove as proved}
use Rattle.l2_goal_laws.proofs.laws.ranks_prove.Goals as goal

pub returns : goal.returns
returns c = proved c.programs.ensures
