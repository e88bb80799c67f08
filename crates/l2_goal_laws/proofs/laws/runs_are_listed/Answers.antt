use Rattle.l2_goal_laws.proofs.Programs.{runs_are_listed as proved}
use Rattle.l2_goal_laws.proofs.laws.runs_are_listed.Goals as goal

pub returns : goal.returns
returns c = proved c.programs.ensures
