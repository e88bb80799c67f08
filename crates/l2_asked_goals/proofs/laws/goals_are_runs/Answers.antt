use Rattle.l2_asked_goals.proofs.Runs.{goals_are_runs as proved}
use Rattle.l2_asked_goals.proofs.laws.goals_are_runs.Goals as goal

pub returns : goal.returns
returns c = proved (record {
  in_order = c.steps_in_order.ensures;
  typed = c.steps_are_typed.ensures;
  choices_match = c.choices_match.ensures;
  models_solve = c.models_solve_behind.ensures;
  open_made = c.open_rows_have_models.ensures.made;
  open_models = c.open_rows_have_models.ensures.models;
  said_hold = c.open_rows_have_models.ensures.rows;
  makes = c.blasting_makes_behind.ensures;
  show_same = c.agreed_show_same.ensures;
  runs = c.grown_law.ensures.runs;
})
