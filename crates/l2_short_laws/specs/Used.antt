-- The choices and turns of a solution's short run.
use Rattle.std.specs.Prelude.{◌≡◌, ℕ, suc, ◌≤◌, ℤ, true, List, [], ◌∷◌, if◌then◌else◌}
use Rattle.l2_bits.specs.Values.{IsValue}
use Rattle.l2_runs.specs.declared.outcome.Outcome.TheVariants.{Broken}
use Rattle.l2_runs.specs.Runs.{Over, Result, Go, Halt}
use Rattle.l2_code.specs.declared.action.Operand.{Operand}
use Rattle.l2_code.specs.Trees.{CodeTree}
use Rattle.l2_code.specs.Sets.{Family, IsResolved}
use Rattle.l2_code.specs.WellFormed.{IsWellFormed}
use Rattle.l2_ssa.specs.Steps.{Step, Take, Names, on, number_in}
use Rattle.l2_ssa.specs.Walks.{CheckGoal}
use Rattle.l2_ssa.specs.Law.{RowsOf, RanksOf, HasEvent}
use Rattle.l2_short_laws.specs.Shorts.{short_ssa, SolvesShort, short_run}

-- the values that choices took on true paths, in order: from a name on
abbrev pub used : Names → ℕ → List Step → List ℤ
used s n [] = []
used s n (Take g ty ∷ xs) = if on s g then number_in (s n) ∷ used s (suc n) xs else used s (suc n) xs
used s n (x ∷ xs) = used s (suc n) xs

-- each is a value of its type
abbrev pub AreValues : Names → ℕ → List Step → Type 0
AreValues s n [] = Unit {0}
AreValues s n (Take g ty ∷ xs) = (on s g ≡ true → IsValue ty (number_in (s n))) × AreValues s (suc n) xs
AreValues s n (x ∷ xs) = AreValues s (suc n) xs

-- so many arrivals, and one more for each of these paths that is true
abbrev pub arrivals : Names → ℕ → List Operand → ℕ
arrivals s n [] = n
arrivals s n (p ∷ ps) = arrivals s (if on s p then suc n else n) ps

-- a run that breaks this check, where no choice is left, and so many arrivals were made
abbrev pub BreaksAt : ℕ → ℕ → Result (Unit {0}) → Type 0
BreaksAt i n (Go u s) = ⊥
BreaksAt i n (Halt e s) = (e ≡ Over (Broken i)) × (s.choices ≡ []) × (s.arrivals ≡ n)

-- where names solve the equations and an event of a check is true, the values that choices took on true paths are those of a short
-- run that breaks the check; it uses all of them, and arrives at heads as often as paths of arrivals are true
abbrev pub SolutionsBreak : Type 0
SolutionsBreak =
    (c : CodeTree) (f : Family) → IsWellFormed c → IsResolved c f → (k : ℕ) → 1 ≤ k → (row : RowsOf) (lower : RanksOf) (s : Names)
    → SolvesShort c f k row lower s → (i : ℕ) → HasEvent s (CheckGoal i) (short_ssa c f k).events
    → AreValues s 0 (short_ssa c f k).steps
    × ((turns : ℕ) → BreaksAt i (arrivals s 0 (short_ssa c f k).heads) (short_run c f k (used s 0 (short_ssa c f k).steps) turns))
