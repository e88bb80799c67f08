use Rattle.l2_short_goal_laws.proofs.Finding.{models_find as proved}
use Rattle.l2_short_goal_laws.proofs.laws.models_find.Goals as goal

pub returns : goal.returns
returns c = proved c.below.ensures
