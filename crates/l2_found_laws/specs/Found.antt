-- What a solution of the equations finds in a program's short runs.
use Rattle.std.specs.Prelude.{◌≡◌, ℕ, ◌≤◌, ℤ, List, length}
use Rattle.l2_runs.specs.declared.outcome.Outcome.TheVariants.{Broken}
use Rattle.l2_runs.specs.Runs.{Over}
use Rattle.l2_runs.specs.Loops.{Real, Short, no_tests}
use Rattle.l2_program.specs.Programs.{ProgramTree}
use Rattle.l2_meaning.specs.Execution.{Execution, exec}
use Rattle.l2_meaning.specs.Lawful.{IsLawful}
use Rattle.l2_code.specs.Trees.{CodeTree}
use Rattle.l2_code.specs.Sets.{Family, IsResolved}
use Rattle.l2_code.specs.Sizes.{size}
use Rattle.l2_code.specs.Modes.{types_of}
use Rattle.l2_lower.specs.Code.{code}
use Rattle.l2_supply.specs.Supply.{Supply}
use Rattle.l2_ssa.specs.Steps.{Names}
use Rattle.l2_ssa.specs.Walks.{CheckGoal}
use Rattle.l2_ssa.specs.Law.{RowsOf, RanksOf, HasEvent, Matches}
use Rattle.l2_ssa_laws.specs.Entering.{Enters}
use Rattle.l2_short_laws.specs.Shorts.{short_ssa, SolvesShort}
use Rattle.l2_short_laws.specs.Used.{used, AreValues, arrivals}

-- the choices that a solution took on true paths, and its arrivals at heads
abbrev pub found_choices : CodeTree → Family → ℕ → Names → List ℤ
found_choices c f k s = used s 0 (short_ssa c f k).steps

abbrev pub found_turns : CodeTree → Family → ℕ → Names → ℕ
found_turns c f k s = arrivals s 0 (short_ssa c f k).heads

-- the execution breaks this check, and uses all of these choices and turns
abbrev pub breaking : ℕ → List ℤ → ℕ → Execution
breaking i choices turns = record { end = Over (Broken i); choices_used = length choices; turns_used = turns }

-- where an event of a check is true, the program's execution on the solution's choices and turns breaks the check and uses all of
-- both; so does the short run on these choices, and each of them is a value of its type
abbrev pub SolutionsFind : Type 0
SolutionsFind =
    (p : ProgramTree) → IsLawful p → (f : Family) → IsResolved (code p) f → (k : ℕ) → 1 ≤ k → (row : RowsOf) (lower : RanksOf) (s : Names)
    → SolvesShort (code p) f k row lower s → (i : ℕ) → HasEvent s (CheckGoal i) (short_ssa (code p) f k).events
    → (exec p Real no_tests (found_choices (code p) f k s) (found_turns (code p) f k s) ≡ breaking i (found_choices (code p) f k s) (found_turns (code p) f k s))
    × (exec p (Short k) no_tests (found_choices (code p) f k s) 0 ≡ breaking i (found_choices (code p) f k s) (found_turns (code p) f k s))
    × AreValues s 0 (short_ssa (code p) f k).steps

-- where a short run of a program breaks a check, some values of the names that choices give, which enter each loop, make an event of
-- the check true, in whatever way the equations are then solved
abbrev pub ShortsFound : Type 0
ShortsFound =
    (p : ProgramTree) → IsLawful p → (f : Family) → IsResolved (code p) f → (k : ℕ) → 1 ≤ k → (row : RowsOf) (lower : RanksOf) (choices : List ℤ) (turns i : ℕ)
    → (exec p (Short k) no_tests choices turns).end ≡ Over (Broken i)
    → (u : Supply) × Enters (types_of (code p)).objects (short_ssa (code p) f k).given u × ((s : Names) → SolvesShort (code p) f k row lower s → Matches (types_of (code p)).objects s (short_ssa (code p) f k).given u
    → HasEvent s (CheckGoal i) (short_ssa (code p) f k).events)

-- there are no more turns than the code weighs with k copies of each turn
abbrev pub TurnsFew : Type 0
TurnsFew = (c : CodeTree) (f : Family) (k : ℕ) (rows : List ℕ) (s : Names) → found_turns c f k s ≤ size c f k rows
