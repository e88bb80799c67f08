use Rattle.l2_goal_laws.proofs.Models.{models_are_solutions as proved}
use Rattle.l2_goal_laws.proofs.laws.models_are_solutions.Goals as goal

pub returns : goal.returns
returns c = proved c.below.ensures
