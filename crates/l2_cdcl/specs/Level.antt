-- The present level of a board.
use Rattle.std.specs.Prelude.{◌≡◌, ℕ, ◌+◌, ◌<◌, ◌≤◌, true, [], length, slice_index_or}
use Rattle.l2_watch.specs.Visit.{AreFalse}
use Rattle.l2_watch.specs.Board.{Board, start_of}

-- the last level begins at `start`, and `low` is at most where the first one begins
pub record IsPresent (b : Board) (low start : ℕ) : Type 0 where
  pub ready : b.ready ≡ true
  pub last : (n : ℕ) × (length b.levels ≡ n + 1) × (start ≡ start_of b.levels n)
  pub low_is : low ≤ start_of b.levels 0

-- the clause at this index is false though nothing was decided
pub record IsRootConflict (b : Board) (r : ℕ) : Type 0 where
  pub levels : b.levels ≡ []
  pub within : r < length b.clauses
  pub false_ones : AreFalse b.past.literals (slice_index_or b.clauses r [])
