use Rattle.std.proofs.Common.{ℕ, ◌<◌, get_or}
use Rattle.l2_templates.specs.declared.form.Row.{Row}
use Rattle.l2_goal_laws.specs.Fits.{IsRowOf}
use Rattle.l2_row_engine.proofs.fitting.are_rows.Given as goal

abbrev pub invariant-loop-row : goal.invariant-loop-row
invariant-loop-row l = (k : ℕ) (d : Row) → k < l.row-index → IsRowOf l.vars (get_or l.rows k d)
