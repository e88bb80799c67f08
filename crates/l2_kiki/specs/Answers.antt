-- What is answered of a program, by what is known of it at k = 1, 2, .. up to a limit.
use Rattle.std.specs.Prelude.{◌≡◌, ℕ, ◌<◌, ◌≤◌, List, Option, Some, None}
use Rattle.l2_templates.specs.declared.form.Form.{Form}
use Rattle.l2_templates.specs.declared.infer.Found.{Found}
use Rattle.l2_templates.specs.declared.point.LoopPoint.{LoopPoint}
use Rattle.l2_kiki.specs.declared.decision.Mode.{Mode}
use Rattle.l2_kiki.specs.declared.decision.Mode.TheVariants.{Safety, Termination}
use Rattle.l2_kiki.specs.declared.decision.Decision.{Decision}
use Rattle.l2_kiki.specs.declared.decision.Decision.TheVariants.{Safe, Unsafe, Terminating, Unwind, Size}

-- at each k: whether it is too large, whether a short run breaks a check, and which executions are such; which point is the
-- strongest, which prove, and which rankings they have
module _ (IsTooLarge Breaks : ℕ → Type 0) (IsBreak : ℕ → Found → Type 0) (IsStrongest Proves : ℕ → List LoopPoint → Type 0) (RanksAre : ℕ → List LoopPoint → Option (List (List Form)) → Type 0) where
  -- at this k there is no answer
  abbrev pub IsOpen : Mode → ℕ → Type 0
  IsOpen Safety k = (¬ IsTooLarge k) × (¬ Breaks k) × ((p : List LoopPoint) × IsStrongest k p × (¬ Proves k p))
  IsOpen Termination k = (¬ IsTooLarge k) × ((p : List LoopPoint) × IsStrongest k p × RanksAre k p None)

  -- this k is the first one with an answer
  pub record IsFirst (mode : Mode) (limit k : ℕ) : Type 0 where
    pub some : 1 ≤ k
    pub within : k ≤ limit
    pub before : (j : ℕ) → 1 ≤ j → j < k → IsOpen mode j

  abbrev pub IsAnswer : Mode → ℕ → Decision → Type 0
  IsAnswer mode limit (Safe k point) = (mode ≡ Safety) × IsFirst mode limit k × (¬ IsTooLarge k) × (¬ Breaks k) × IsStrongest k point × Proves k point
  IsAnswer mode limit (Unsafe k found) = (mode ≡ Safety) × IsFirst mode limit k × (¬ IsTooLarge k) × Breaks k × IsBreak k found
  IsAnswer mode limit (Terminating k point ranks) = (mode ≡ Termination) × IsFirst mode limit k × (¬ IsTooLarge k) × IsStrongest k point × RanksAre k point (Some ranks)
  IsAnswer mode limit (Unwind k) = (k ≡ limit) × ((j : ℕ) → 1 ≤ j → j ≤ limit → IsOpen mode j)
  IsAnswer mode limit (Size k) = IsFirst mode limit k × IsTooLarge k
