use Rattle.l2_goal_laws.proofs.Starts.{first_true}
use Rattle.l2_model_laws.proofs.laws.first_is_true.Goals as goal

pub returns : goal.returns
returns c = first_true
