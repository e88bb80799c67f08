use Rattle.l2_goal_laws.proofs.Starts.{first_true}
use Rattle.l2_short_goal_laws.proofs.laws.below.Goals as goal

pub returns : goal.returns
returns c = record {
  in_order = c.steps_in_order.ensures;
  typed = c.steps_are_typed.ensures;
  choices_match = c.choices_match.ensures;
  choices_have_models = c.choices_have_models.ensures;
  models_solve = c.models_solve.ensures;
  fills_hold = c.fills_hold.ensures;
  literals_show = c.literals_show.ensures;
  first_true = first_true;
}
