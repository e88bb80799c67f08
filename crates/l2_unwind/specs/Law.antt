-- Unwound code does what code does in cut runs, and weighs what is said of it.
use Rattle.std.specs.Prelude.{◌≡◌, ℕ, Bool, List, []}
use Rattle.l2_runs.specs.Store.{Store}
use Rattle.l2_runs.specs.Runs.{State}
use Rattle.l2_runs.specs.Loops.{Tests}
use Rattle.l2_code.specs.Trees.{CodeTree}
use Rattle.l2_code.specs.Sets.{Family}
use Rattle.l2_code.specs.Modes.{Cut, limit_of, run_code}
use Rattle.l2_code.specs.Sizes.{size}
use Rattle.l2_unwind.specs.Flat.{unwound, steps_of, weight_of}
use Rattle.l2_unwind.specs.Runs.{run_flat}

-- with k copies of each turn the runs are the cut runs, for all tests at heads and at ends of turns
abbrev pub RunsAreCutRuns : Type 0
RunsAreCutRuns =
    (c : CodeTree) (f : Family) (k : ℕ) (starts : ℕ → Store → Bool) (tests : Tests) (s : State)
    → run_flat c f k starts tests s ≡ run_code c (limit_of c f (Cut k starts)) tests s

-- a code's weight at k is that of the instructions of the code with k copies of each turn
abbrev pub SizesAreWeights : Type 0
SizesAreWeights = (c : CodeTree) (f : Family) (k : ℕ) (rows : List ℕ) → size c f k rows ≡ weight_of c f rows (steps_of [] (unwound k c.body))
