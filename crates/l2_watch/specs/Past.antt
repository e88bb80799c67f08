-- Literals that are true, in order, and what made each of them true.
use Rattle.std.specs.Prelude.{◌≡◌, ◌≢◌, ℕ, suc, zero, ◌<◌, ◌≤◌, ◌+◌, ◌*◌, ◌↔◌, IsTrue, Bool, false, ℤ, pos, neg_ℤ, nat_abs, List, length, take, Contains, slice_index_or, []}
use Rattle.l2_cnf.specs.Lit.{code_of}

-- the reason of a literal is 0 where it was decided, else the number of a clause, the first of which has 1
pub record Past : Type 0 where
  pub literals : List ℤ
  pub reasons : List ℕ
  pub variables : ℕ

-- where each variable's literal stands, and room for the reasons
pub record IsPlaced (literals : List ℤ) (reasons places : List ℕ) (variables : ℕ) : Type 0 where
  pub reasons_room : variables < length reasons
  pub places_room : variables < length places
  pub at : (k : ℕ) → k < length literals → slice_index_or places (nat_abs (slice_index_or literals k (pos 0))) 0 ≡ k

-- by their codes, which literals are true
pub record AreTold (literals : List ℤ) (truths : List Bool) (variables : ℕ) : Type 0 where
  pub room : 2 * variables + 2 ≤ length truths
  pub told : (l : ℤ) → IsTrue (slice_index_or truths (code_of l) false) ↔ Contains literals l

-- a clause made the literal at k true: its other literals were false before
pub record IsReason (literals : List ℤ) (k : ℕ) (clause : List ℤ) : Type 0 where
  pub stands : Contains clause (slice_index_or literals k (pos 0))
  pub others : (m : ℤ) → Contains clause m → m ≢ slice_index_or literals k (pos 0) → (j : ℕ) × (j < k) × (slice_index_or literals j (pos 0) ≡ neg_ℤ m)

-- a clause of this number made the literal at k true
abbrev pub IsImplied : List (List ℤ) → List ℤ → ℕ → ℕ → Type 0
IsImplied clauses literals k zero = ⊥
IsImplied clauses literals k (suc r) = (r < length clauses) × (IsReason literals k (slice_index_or clauses r []))

-- literals were added behind, each by a clause
pub record IsGrown (clauses : List (List ℤ)) (old new : Past) : Type 0 where
  pub variables : new.variables ≡ old.variables
  pub longer : length old.literals ≤ length new.literals
  pub literals : take (length old.literals) new.literals ≡ old.literals
  pub count : length new.reasons ≡ length new.literals
  pub reasons : take (length old.literals) new.reasons ≡ old.reasons
  pub caused : (k : ℕ) → length old.literals ≤ k → k < length new.literals → IsImplied clauses new.literals k (slice_index_or new.reasons k 0)
