-- Which clauses some model of shared ones makes true.
use Rattle.std.specs.Prelude.{ℕ, ◌≤◌, ◌<◌, Bool, ℤ, List, [], ◌∷◌, ◌++◌, slice_index_or}
use Rattle.l2_cnf.specs.Logic.{Satisfies}

-- some values of the variables make all clauses true
abbrev pub HasModel : List (List ℤ) → Type 0
HasModel clauses = (v : ℕ → Bool) × Satisfies v clauses

-- the shared clauses and the clause of this index
abbrev pub with_clause : List (List ℤ) → List (List ℤ) → ℕ → List (List ℤ)
with_clause shared clauses i = shared ++ slice_index_or clauses i [] ∷ []

-- some model of the shared clauses makes the clause of this index true
abbrev pub IsMet : List (List ℤ) → List (List ℤ) → ℕ → Type 0
IsMet shared clauses i = HasModel (with_clause shared clauses i)

-- none from one index up to another is met
abbrev pub NoneMet : List (List ℤ) → List (List ℤ) → ℕ → ℕ → Type 0
NoneMet shared clauses from to = (i : ℕ) → from ≤ i → i < to → ¬ IsMet shared clauses i

-- this one is met, and none before it
pub record IsFirstMet (shared clauses : List (List ℤ)) (from to i : ℕ) : Type 0 where
  pub low : from ≤ i
  pub high : i < to
  pub met : IsMet shared clauses i
  pub before : NoneMet shared clauses from i
