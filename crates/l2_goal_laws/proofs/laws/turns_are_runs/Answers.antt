use Rattle.l2_goal_laws.proofs.Programs.{turns_are_runs as proved}
use Rattle.l2_goal_laws.proofs.laws.turns_are_runs.Goals as goal

pub returns : goal.returns
returns c = proved c.programs.ensures
