use Rattle.l2_short_goal_laws.proofs.Finding.{runs_have_models as proved}
use Rattle.l2_short_goal_laws.proofs.laws.runs_have_models.Goals as goal

pub returns : goal.returns
returns c = proved c.below.ensures
