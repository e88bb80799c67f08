-- The level to which the search goes back, and the literal that is watched beside the one that is asserted there.
use Rattle.std.specs.Prelude.{◌≡◌, ◌⊎◌, ℕ, ◌+◌, ◌<◌, ℤ, pos, neg_ℤ, List, [], length, take, Contains, slice_index_or}
use Rattle.l2_watch.specs.Board.{start_of}
use Rattle.l2_cdcl.specs.Analysis.{IsFalseBefore}

-- a literal stands last among some literals that are false
pub record IsLast (trail aside : List ℤ) (place : ℕ) (l : ℤ) : Type 0 where
  pub stands : Contains aside l
  pub within : place < length trail
  pub here : slice_index_or trail place (pos 0) ≡ neg_ℤ l
  pub all : (m : ℤ) → Contains aside m → IsFalseBefore trail (place + 1) m

-- At this level the literals that were put aside are false, and w became so there, if there are any.
pub record IsTarget (trail : List ℤ) (levels : List (ℕ × ℤ)) (aside : List ℤ) (u : ℤ) (level : ℕ) (w : ℤ) : Type 0 where
  pub within : level < length levels
  pub below : (m : ℤ) → Contains aside m → IsFalseBefore trail (start_of levels level) m
  pub late : (j : ℕ) → j < level → ¬ Contains (take (start_of levels j) trail) (neg_ℤ w)
  pub second : ((aside ≡ []) × (level ≡ 0) × (w ≡ u)) ⊎ Contains aside w
