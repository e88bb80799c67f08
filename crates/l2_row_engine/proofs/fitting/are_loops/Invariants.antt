use Rattle.std.proofs.Common.{◌≡◌, ℕ, ◌<◌, Some}
use Rattle.std.specs.Prelude.{slice_get}
use Rattle.l2_templates.specs.Points.{loop_at}
use Rattle.l2_code.specs.declared.code.CodeLoop.{CodeLoop}
use Rattle.l2_goal_laws.specs.Fits.{IsLoopOf}
use Rattle.l2_row_engine.proofs.fitting.are_loops.Given as goal

abbrev pub invariant-loop-i : goal.invariant-loop-i
invariant-loop-i l = (j : ℕ) (info : CodeLoop) → j < l.i → slice_get l.loops j ≡ Some info → IsLoopOf info.vars (loop_at l.point j)
