-- The hints of a clause that is learnt, while a conflict is traced back: reasons, and then the clause of the conflict.
use Rattle.std.specs.Prelude.{◌≡◌, ◌≢◌, ◌⊎◌, ℕ, ◌<◌, ◌≤◌, ℤ, pos, neg_ℤ, nat_abs, Bool, List, Contains, length, slice_index_or}
use Rattle.l2_cnf.specs.Steps.{IsUnset, Leads}
use Rattle.l2_cdcl.specs.Analysis.{IsMarked, IsFalseBefore}

-- where these literals are false and those that were resolved have no value, the hints lead to a conflict
unfoldable pub Chain : List (List ℤ) → (ℤ → Type 0) → (ℤ → Type 0) → List ℕ → Type 0
Chain clauses literals resolved hints = (true_ones : List ℤ)
    → ((m : ℤ) → literals m → Contains true_ones (neg_ℤ m))
    → ((l : ℤ) → resolved l → IsUnset true_ones l)
    → Leads clauses true_ones hints

-- a literal became true behind this place
abbrev pub IsLater : List ℤ → ℕ → ℤ → Type 0
IsLater trail k l = (j : ℕ) × (k < j) × (j < length trail) × (slice_index_or trail j (pos 0) ≡ l)

-- a literal became true at this place or behind it
abbrev pub IsFrom : List ℤ → ℕ → ℤ → Type 0
IsFrom trail k l = (j : ℕ) × (k ≤ j) × (j < length trail) × (slice_index_or trail j (pos 0) ≡ l)

-- a literal became false before this place, and its variable is marked
abbrev pub IsMarkedBefore : List ℤ → ℕ → List Bool → ℤ → Type 0
IsMarkedBefore trail end marks m = (IsFalseBefore trail end m) × (IsMarked marks (nat_abs m))

-- a literal was resolved: it became true behind k, or before it, and no literal that was put aside has its variable
abbrev pub IsResolved : List ℤ → ℕ → List ℤ → ℤ → Type 0
IsResolved trail k aside l = (IsLater trail k l) ⊎ ((j : ℕ) × (j < k) × (slice_index_or trail j (pos 0) ≡ l) × ((m : ℤ) → Contains aside m → nat_abs m ≢ nat_abs l))
