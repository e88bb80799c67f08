-- What the models of a program's short formulas find.
use Rattle.std.specs.Prelude.{◌≡◌, ℕ, suc, ◌<◌, ◌≤◌, Bool, ℤ, List, [], ◌∷◌, ◌++◌, length, map, Option, slice_index_or}
use Rattle.l2_bits.specs.Values.{IsValue}
use Rattle.l2_runs.specs.declared.outcome.Outcome.TheVariants.{Broken}
use Rattle.l2_runs.specs.Runs.{Over}
use Rattle.l2_runs.specs.Loops.{Real, Short, no_tests}
use Rattle.l2_cnf.specs.Logic.{Satisfies}
use Rattle.l2_cnf.specs.Assignment.{IsSatisfied}
use Rattle.l2_program.specs.Programs.{ProgramTree}
use Rattle.l2_meaning.specs.Execution.{exec}
use Rattle.l2_meaning.specs.Lawful.{IsLawful}
use Rattle.l2_code.specs.Sets.{Family, IsResolved}
use Rattle.l2_code.specs.Sizes.{size}
use Rattle.l2_lower.specs.Code.{code}
use Rattle.l2_gates.specs.Gates.{literals_of}
use Rattle.l2_unwind.specs.Refused.{most_weight}
use Rattle.l2_found_laws.specs.Found.{breaking}
use Rattle.l2_short_goals.specs.declared.making.ShortGoals.{ShortGoals}
use Rattle.l2_short_goals.specs.Taken.{Choice, choice_of, AreShorts, values_of, shown, made_choices, count_true}

-- the formula of the check of an index, whose number is the next
abbrev pub check_formula : ShortGoals → ℕ → List (List ℤ)
check_formula s i = s.goals.base ++ slice_index_or s.goals.last i [] ∷ []

-- the execution on these choices and turns breaks the check and uses all of both, and so does the short run on these choices; the
-- turns are at most what code may weigh
pub record IsFound (p : ProgramTree) (k check : ℕ) (choices : List ℤ) (turns : ℕ) : Type 0 where
  pub real : exec p Real no_tests choices turns ≡ breaking check choices turns
  pub short : exec p (Short k) no_tests choices 0 ≡ breaking check choices turns
  pub few : turns ≤ most_weight

-- what an assignment shows that satisfies the formula of a check
abbrev pub ModelsFind : Type 0
ModelsFind =
    (p : ProgramTree) → IsLawful p → (f : Family) → IsResolved (code p) f → (s : ShortGoals) → 1 ≤ s.k → size (code p) f s.k [] ≤ most_weight → AreShorts s (code p) f
    → (a : List (Option Bool)) (i : ℕ) → i < length s.goals.last → IsSatisfied a (check_formula s i)
    → IsFound p s.k (suc i) (made_choices (values_of a) (map choice_of s.taken)) (count_true (values_of a) (literals_of s.heads))

-- each choice that is shown is a value of its type
abbrev pub ChoicesFit : Type 0
ChoicesFit = (v : ℕ → Bool) (x : Choice) → IsValue x.ty (shown v x)

-- where a short run breaks a check, its formula is listed and has a model
abbrev pub RunsHaveModels : Type 0
RunsHaveModels =
    (p : ProgramTree) → IsLawful p → (f : Family) → IsResolved (code p) f → (s : ShortGoals) → 1 ≤ s.k → AreShorts s (code p) f
    → (choices : List ℤ) (turns n : ℕ) → (exec p (Short s.k) no_tests choices turns).end ≡ Over (Broken n)
    → (i : ℕ) × (n ≡ suc i) × (i < length s.goals.last) × ((v : ℕ → Bool) × Satisfies v (check_formula s i))
