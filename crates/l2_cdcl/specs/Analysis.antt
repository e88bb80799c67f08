-- What is open while a conflict is analysed, backwards over the trail.
use Rattle.std.specs.Prelude.{◌≡◌, ◌⊎◌, ℕ, ◌<◌, ◌≤◌, ◌+◌, Bool, true, false, ℤ, pos, neg_ℤ, nat_abs, List, Contains, length, slice_index_or}
use Rattle.l2_cnf.specs.Trail.{AreApart}
use Rattle.l2_watch.specs.Watch.{Refutes}

-- a variable is marked
abbrev pub IsMarked : List Bool → ℕ → Type 0
IsMarked marks v = slice_index_or marks v false ≡ true

-- no literal from one place of the trail up to another is marked
abbrev pub AreUnmarked : List ℤ → List Bool → ℕ → ℕ → Type 0
AreUnmarked trail marks start end = (j : ℕ) → start ≤ j → j < end → ¬ IsMarked marks (nat_abs (slice_index_or trail j (pos 0)))

-- a literal became false before this place
abbrev pub IsFalseBefore : List ℤ → ℕ → ℤ → Type 0
IsFalseBefore trail end m = (j : ℕ) × (j < end) × (slice_index_or trail j (pos 0) ≡ neg_ℤ m)

-- A literal is open: it was put aside for the clause that is learnt, or it became false before `low` and needs no care, or it
-- became false at the present level, which begins at `start`, before `end`, and its variable is marked.
abbrev pub IsOpen : List ℤ → ℕ → ℕ → ℕ → List Bool → List ℤ → ℤ → Type 0
IsOpen trail low start end marks aside m = (Contains aside m) ⊎ ((IsFalseBefore trail low m) ⊎ ((j : ℕ) × (start ≤ j) × (j < end) × (slice_index_or trail j (pos 0) ≡ neg_ℤ m) × (IsMarked marks (nat_abs m))))

-- a variable stands in some clause
abbrev pub HasVariable : List (List ℤ) → ℕ → Type 0
HasVariable clauses v = (clause : List ℤ) × (Contains clauses clause) × ((m : ℤ) × (Contains clause m) × (nat_abs m ≡ v))

-- What was put aside became false below the present level, and so did each marked variable's literal that needs care. It is of
-- distinct variables, which are marked.
pub record IsAside (trail : List ℤ) (low start : ℕ) (marks : List Bool) (aside : List ℤ) : Type 0 where
  pub below : (m : ℤ) → Contains aside m → IsFalseBefore trail start m
  pub marked : (m : ℤ) → IsFalseBefore trail start m → IsMarked marks (nat_abs m) → (IsFalseBefore trail low m) ⊎ Contains aside m
  pub noted : (m : ℤ) → Contains aside m → IsMarked marks (nat_abs m)
  pub apart : AreApart aside

-- more is marked and put aside
pub record IsMore (marks marks' : List Bool) (aside aside' : List ℤ) : Type 0 where
  pub marked : (v : ℕ) → IsMarked marks v → IsMarked marks' v
  pub put : (m : ℤ) → Contains aside m → Contains aside' m

-- the analysis has come to this place
pub record IsTraced (clauses : List (List ℤ)) (trail : List ℤ) (low start k : ℕ) (marks : List Bool) (aside : List ℤ) : Type 0 where
  pub first : start ≤ k
  pub within : k < length trail
  pub put : IsAside trail low start marks aside
  pub refutes : Refutes clauses (IsOpen trail low start (k + 1) marks aside)
  pub here : IsMarked marks (nat_abs (slice_index_or trail k (pos 0)))
  pub known : (v : ℕ) → IsMarked marks v → HasVariable clauses v

-- what is left open at k: the negation of the literal there, what was put aside, and what needs no care
abbrev pub IsLeft : List ℤ → ℕ → ℕ → List ℤ → ℤ → Type 0
IsLeft trail low k aside m = (m ≡ neg_ℤ (slice_index_or trail k (pos 0))) ⊎ ((Contains aside m) ⊎ (IsFalseBefore trail low m))

-- The clause of what was put aside and of the negation of the literal at k, which is of the present level, is refuted. Its
-- variables are distinct and stand in the clauses.
pub record IsPoint (clauses : List (List ℤ)) (trail : List ℤ) (low start k : ℕ) (aside : List ℤ) : Type 0 where
  pub first : start ≤ k
  pub within : k < length trail
  pub below : (m : ℤ) → Contains aside m → IsFalseBefore trail start m
  pub refutes : Refutes clauses (IsLeft trail low k aside)
  pub apart : AreApart aside
  pub here : HasVariable clauses (nat_abs (slice_index_or trail k (pos 0)))
  pub known : (m : ℤ) → Contains aside m → HasVariable clauses (nat_abs m)
