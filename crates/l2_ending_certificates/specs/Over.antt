-- Rankings over the variables of a code's loops, loop by loop.
use Rattle.std.specs.Prelude.{◌≡◌, ℕ, List, [], length, slice_get, slice_index_or, Some}
use Rattle.std.specs.List.{All}
use Rattle.l2_templates.specs.declared.form.Form.{Form}
use Rattle.l2_code.specs.declared.code.CodeLoop.{CodeLoop}
use Rattle.l2_goal_laws.specs.Fits.{IsFormOf}

-- forms over these variables
pub record AreOver (vars : List ℕ) (forms : List Form) : Type 0 where
  pub each : All (IsFormOf vars) forms

pub record AreOverLoops (loops : List CodeLoop) (ranks : List (List Form)) : Type 0 where
  pub count : length loops ≡ length ranks
  pub each : (i : ℕ) (info : CodeLoop) → slice_get loops i ≡ Some info → AreOver info.vars (slice_index_or ranks i [])
