-- Points whose rows are over the variables of a code's loops, loop by loop.
use Rattle.std.specs.Prelude.{◌≡◌, ℕ, List, length, slice_get, Some}
use Rattle.l2_templates.specs.declared.point.LoopPoint.{LoopPoint}
use Rattle.l2_templates.specs.Points.{loop_at}
use Rattle.l2_code.specs.declared.code.CodeLoop.{CodeLoop}
use Rattle.l2_goal_laws.specs.Fits.{IsLoopOf}

pub record AreLoops (loops : List CodeLoop) (q : List LoopPoint) : Type 0 where
  pub count : length loops ≡ length q
  pub each : (i : ℕ) (info : CodeLoop) → slice_get loops i ≡ Some info → IsLoopOf info.vars (loop_at q i)
