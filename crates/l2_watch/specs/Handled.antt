-- What dealing with one clause does to the trail and to its pair.
use Rattle.std.specs.Prelude.{◌≡◌, ◌≢◌, ◌⊎◌, ℕ, ℤ, neg_ℤ, List, [], ◌∷◌, ◌++◌, ◌<◌, Contains, slice_index_or, length}
use Rattle.l2_watch.specs.declared.visit.Step.{Step}
use Rattle.l2_watch.specs.declared.visit.Step.TheVariants.{Keeps, Moved, Conflict}
use Rattle.l2_watch.specs.Visit.{pair_of}

-- the trail stays, or has one literal more, which the clause implies
abbrev pub Extends : List ℤ → List ℤ → List ℤ → Type 0
Extends clause old new = (new ≡ old) ⊎ ((l : ℤ) × (new ≡ old ++ l ∷ []) × (¬ Contains old l) × (¬ Contains old (neg_ℤ l)) × (Contains clause l) × ((m : ℤ) → Contains clause m → m ≢ l → Contains old (neg_ℤ m)))

abbrev pub IsHandled : List (List ℤ) → List ℤ → List ℤ → List (ℤ × ℤ) → List (ℤ × ℤ) → ℤ → ℕ → Step → Type 0
IsHandled clauses old new before after a r (Keeps b) = (after ≡ before) × (r < length clauses) × (Extends (slice_index_or clauses r []) old new)
    × (Contains (slice_index_or clauses r []) b) × (Contains new b)
IsHandled clauses old new before after a r Moved = (new ≡ old) × (length after ≡ length before) × ((q : ℕ) → q ≢ r → pair_of after q ≡ pair_of before q)
    × (r < length clauses → (pair_of after r).0 ≢ a) × (r < length clauses → (pair_of after r).1 ≢ a)
IsHandled clauses old new before after a r Conflict = (r < length clauses) × (new ≡ old) × (after ≡ before) × ((m : ℤ) → Contains (slice_index_or clauses r []) m → Contains old (neg_ℤ m))
