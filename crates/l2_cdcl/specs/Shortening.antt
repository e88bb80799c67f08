-- Literals are taken out of a clause that is learnt, backwards over the trail.
use Rattle.std.specs.Prelude.{◌≡◌, ◌⊎◌, ℕ, ◌<◌, ◌≤◌, Bool, ℤ, pos, neg_ℤ, nat_abs, List, slice_index_or}
use Rattle.l2_cdcl.specs.Analysis.{IsMarked, IsFalseBefore}
use Rattle.l2_cdcl.specs.Chain.{IsLater}

-- what is left: the negation of the literal at k, what became false before `low` and needs no care, and what became false below
-- the present level, which begins at `start`, and is marked
abbrev pub IsKept : List ℤ → ℕ → ℕ → ℕ → List Bool → ℤ → Type 0
IsKept trail low start k marks m = (m ≡ neg_ℤ (slice_index_or trail k (pos 0))) ⊎ ((IsFalseBefore trail low m) ⊎ ((IsFalseBefore trail start m) × (IsMarked marks (nat_abs m))))

-- a literal became true behind k, or from a place on below the present level, and isn't marked
abbrev pub IsGone : List ℤ → ℕ → ℕ → ℕ → List Bool → ℤ → Type 0
IsGone trail from start k marks l = (IsLater trail k l) ⊎ ((j : ℕ) × (from ≤ j) × (j < start) × (slice_index_or trail j (pos 0) ≡ l) × (¬ IsMarked marks (nat_abs l)))
