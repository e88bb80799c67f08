-- What stays where a code's labels are merged.
use Rattle.std.specs.Prelude.{◌≡◌, ℕ, List}
use Rattle.l2_runs.specs.Runs.{State}
use Rattle.l2_runs.specs.Loops.{Limit, Tests}
use Rattle.l2_code.specs.Trees.{CodeTree}
use Rattle.l2_code.specs.Sets.{Family, IsResolved}
use Rattle.l2_code.specs.Sizes.{size}
use Rattle.l2_code.specs.Modes.{run_code}
use Rattle.l2_code.specs.WellFormed.{IsWellFormed}
use Rattle.l2_labels.specs.Labels.{one_label}

-- it does the same, under all limits and tests
abbrev pub RunsAlike : Type 0
RunsAlike = (c : CodeTree) (limit : Limit) (tests : Tests) (s : State) → run_code (one_label c) limit tests s ≡ run_code c limit tests s

-- it is well formed where the code is
abbrev pub StaysWellFormed : Type 0
StaysWellFormed = (c : CodeTree) → IsWellFormed c → IsWellFormed (one_label c)

-- sets with which the code may be resolved are such of it
abbrev pub StaysResolved : Type 0
StaysResolved = (c : CodeTree) (f : Family) → IsResolved c f → IsResolved (one_label c) f

-- it weighs what the code does, with k copies of each turn, where a loop has so many rows
abbrev pub WeighsAlike : Type 0
WeighsAlike = (c : CodeTree) (f : Family) (k : ℕ) (rows : List ℕ) → size (one_label c) f k rows ≡ size c f k rows
