use Rattle.l2_grown_models.proofs.Models.{questions_are_models}
use Rattle.l2_grown_models.proofs.Gates.{gates_ask}
use Rattle.l2_grown_models.proofs.laws.questions_are_models.Goals as goal

pub returns-clause-models : goal.returns-clause-models
returns-clause-models c = questions_are_models (record {
  in_order = c.steps_in_order.ensures;
  typed = c.steps_are_typed.ensures;
  choices_match = c.choices_match.ensures;
  models_solve = c.models_solve_behind.ensures;
  open_made = c.open_rows_have_models.ensures.made;
  open_models = c.open_rows_have_models.ensures.models;
  said_hold = c.open_rows_have_models.ensures.rows;
  makes = c.blasting_makes_behind.ensures;
  show_same = c.agreed_show_same.ensures;
  questions = c.grown_law.ensures.questions;
  said_rows = c.said_rows.ensures;
  some_event = c.some_event_is.ensures;
})

pub returns-clause-gates : goal.returns-clause-gates
returns-clause-gates c = gates_ask (record {
  in_order = c.steps_in_order.ensures;
  typed = c.steps_are_typed.ensures;
  choices_match = c.choices_match.ensures;
  models_solve = c.models_solve_behind.ensures;
  open_made = c.open_rows_have_models.ensures.made;
  open_models = c.open_rows_have_models.ensures.models;
  said_hold = c.open_rows_have_models.ensures.rows;
  makes = c.blasting_makes_behind.ensures;
  show_same = c.agreed_show_same.ensures;
  questions = c.grown_law.ensures.questions;
  said_rows = c.said_rows.ensures;
  some_event = c.some_event_is.ensures;
})
