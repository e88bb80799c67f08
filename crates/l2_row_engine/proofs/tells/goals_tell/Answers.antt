use Rattle.l2_row_engine.proofs.Formulas.{tells}
use Rattle.l2_row_engine.proofs.tells.goals_tell.Goals as goal

pub returns : goal.returns
returns c = tells c.formulas_are_runs.ensures c.runs_are_listed.ensures
