-- Short runs: the equations of a code where no loop has rows and none starts back, and the runs that are stopped where a loop's entry
-- would arrive at its head more often than a turn has copies.
use Rattle.std.specs.Prelude.{ℕ, ◌≤◌, ℤ, false, List}
use Rattle.l2_runs.specs.declared.outcome.Outcome.TheVariants.{Broken}
use Rattle.l2_runs.specs.Runs.{Over, Result}
use Rattle.l2_runs.specs.Loops.{no_tests}
use Rattle.l2_code.specs.Trees.{CodeTree}
use Rattle.l2_code.specs.Sets.{Family, IsResolved}
use Rattle.l2_code.specs.Modes.{Short, types_of, limit_of, run_code, start}
use Rattle.l2_code.specs.WellFormed.{IsWellFormed}
use Rattle.l2_supply.specs.Supply.{Supply}
use Rattle.l2_ssa.specs.Steps.{Names, Solves}
use Rattle.l2_ssa.specs.Walks.{Plain, CheckGoal, Out}
use Rattle.l2_ssa.specs.Law.{RowsOf, RanksOf, ssa, HasEvent, EndsAt, Matches}
use Rattle.l2_ssa_laws.specs.Entering.{Enters}

-- the equations where each loop may be entered alone, and each turn may end
abbrev pub short_ssa : CodeTree → Family → ℕ → Out
short_ssa c f k = ssa c f k (λ l. Plain) false

-- the names solve them; rows and rankings aren't asked for
abbrev pub SolvesShort : CodeTree → Family → ℕ → RowsOf → RanksOf → Names → Type 0
SolvesShort c f k row lower s = Solves (record { types = types_of c; row = row; lower = lower }) s 0 (short_ssa c f k).steps

-- the run on these choices and turns of at most k arrivals an entry
abbrev pub short_run : CodeTree → Family → ℕ → List ℤ → ℕ → Result (Unit {0})
short_run c f k choices turns = run_code c (limit_of c f (Short k)) no_tests (start c choices turns)

-- where a short run breaks a check, some values of the names that choices give, which enter each loop, make an event of the check
-- true, in whatever way the equations are then solved
abbrev pub ShortsSolve : Type 0
ShortsSolve =
    (c : CodeTree) (f : Family) → IsWellFormed c → IsResolved c f → (k : ℕ) → 1 ≤ k → (row : RowsOf) (lower : RanksOf) (choices : List ℤ) (turns i : ℕ)
    → EndsAt (Over (Broken i)) (short_run c f k choices turns)
    → (u : Supply) × Enters (types_of c).objects (short_ssa c f k).given u × ((s : Names) → SolvesShort c f k row lower s → Matches (types_of c).objects s (short_ssa c f k).given u
    → HasEvent s (CheckGoal i) (short_ssa c f k).events)
