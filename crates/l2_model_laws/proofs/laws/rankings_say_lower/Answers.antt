use Rattle.l2_goal_laws.proofs.Points.{forms_lower}
use Rattle.l2_model_laws.proofs.laws.rankings_say_lower.Goals as goal

pub returns : goal.returns
returns c = forms_lower
