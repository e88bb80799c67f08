use Rattle.l2_asked_goals.proofs.Literals.{base_is_made, rows_say', events_show}
use Rattle.l2_asked_goals.proofs.laws.literals_say.Goals as goal

pub returns-clause-rows : goal.returns-clause-rows
returns-clause-rows c = rows_say' (record {
  in_order = c.steps_in_order.ensures;
  typed = c.steps_are_typed.ensures;
  made = c.fills_mean.ensures.made;
  mean = c.fills_mean.ensures.mean;
})

pub returns-clause-events : goal.returns-clause-events
returns-clause-events c = events_show (record {
  in_order = c.steps_in_order.ensures;
  typed = c.steps_are_typed.ensures;
  made = c.fills_mean.ensures.made;
  mean = c.fills_mean.ensures.mean;
})

pub returns-clause-base : goal.returns-clause-base
returns-clause-base c = base_is_made
