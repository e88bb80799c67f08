-- The clauses added and those learnt, and what may be learnt.
use Rattle.std.specs.Prelude.{◌≡◌, ◌⊎◌, ℕ, suc, cond, eqb, ℤ, List, [], ◌∷◌, ◌++◌, map, slice_index_or, Contains}
use Rattle.std.specs.List.{list_any}
use Rattle.l2_cnf.specs.Logic.{Follows, IsAbsorbed, Settles}

-- the clauses of some indices
abbrev pub learnt_of : List ℕ → List (List ℤ) → List (List ℤ)
learnt_of at clauses = map (λ i. slice_index_or clauses i []) at

-- the clauses from index i on whose indices aren't among these
abbrev pub others_from : ℕ → List ℕ → List (List ℤ) → List (List ℤ)
others_from i at [] = []
others_from i at (clause ∷ clauses) = cond (list_any (eqb i) at) (others_from (suc i) at clauses) (clause ∷ others_from (suc i) at clauses)

-- the clauses of the other indices
abbrev pub added_of : List ℕ → List (List ℤ) → List (List ℤ)
added_of at clauses = others_from 0 at clauses

-- A clause may be learnt beside those added and those learnt before: it follows from them by reverse unit propagation, and it
-- isn't absorbed by them, or it is the first empty one that is learnt.
pub record MayBeLearnt (added before : List (List ℤ)) (clause : List ℤ) : Type 0 where
  pub follows : Follows (added ++ before) clause
  pub new : ((clause ≡ []) × (¬ Contains before [])) ⊎ (¬ IsAbsorbed (added ++ before) clause)

-- each of these clauses may be learnt beside those added, those learnt before, and those before it
abbrev pub AreLearnt : List (List ℤ) → List (List ℤ) → List (List ℤ) → Type 0
AreLearnt added before [] = Unit {0}
AreLearnt added before (clause ∷ clauses) = (MayBeLearnt added before clause) × (AreLearnt added (before ++ clause ∷ []) clauses)

-- What was learnt while some assumptions were asked: clauses that may be learnt, and none but at most an empty one where the
-- assumptions were settled before.
pub record IsLearning (assumptions : List ℤ) (added old new : List (List ℤ)) : Type 0 where
  pub more : List (List ℤ)
  pub learnt : new ≡ old ++ more
  pub all : AreLearnt added old more
  pub settled : Settles (added ++ old) assumptions → (more ≡ []) ⊎ (more ≡ [] ∷ [])
