use Rattle.l2_goal_laws.proofs.Models.{supplies_are_solutions as proved}
use Rattle.l2_goal_laws.proofs.laws.supplies_are_solutions.Goals as goal

pub returns : goal.returns
returns c = proved c.below.ensures
