-- Steps with hints: the rule by which one is accepted over some clauses, and derivations.
use Rattle.std.specs.Prelude.{◌≡◌, ◌≢◌, ℕ, ◌+◌, ◌-◌, ◌≤◌, ℤ, neg_ℤ, nat_abs, List, [], ◌∷◌, ◌++◌, length, map, slice_index_or, Contains}
use Rattle.l2_cnf.specs.Trail.{AreOver, AreApart}

-- a line of a derivation: its number, its clause and the numbers of the clauses by which it follows
pub record Step : Type 0 where
  pub number : ℕ
  pub clause : List ℤ
  pub hints : List ℕ

-- each literal is false where these are true
abbrev pub IsAllFalse : List ℤ → List ℤ → Type 0
IsAllFalse true_ones clause = (m : ℤ) → Contains clause m → Contains true_ones (neg_ℤ m)

-- no literal of the variable of l is true
abbrev pub IsUnset : List ℤ → ℤ → Type 0
IsUnset true_ones l = (m : ℤ) → Contains true_ones m → nat_abs m ≢ nat_abs l

-- l alone isn't false, and it is unset
pub record IsUnit (true_ones clause : List ℤ) (l : ℤ) : Type 0 where
  pub stands : Contains clause l
  pub unset : IsUnset true_ones l
  pub others : (m : ℤ) → Contains clause m → m ≢ l → Contains true_ones (neg_ℤ m)

-- a clause has this number; the first has 1
abbrev pub HasNumber : List (List ℤ) → ℕ → Type 0
HasNumber clauses number = (1 ≤ number) × (number ≤ length clauses)

-- the clause of a number
abbrev pub clause_of : List (List ℤ) → ℕ → List ℤ
clause_of clauses number = slice_index_or clauses (number - 1) []

-- each hint but the last names a clause with one literal that isn't false, which is unset and becomes true,
-- and the last a clause whose literals are all false
abbrev pub Leads : List (List ℤ) → List ℤ → List ℕ → Type 0
Leads clauses true_ones [] = ⊥
Leads clauses true_ones (hint ∷ []) = (HasNumber clauses hint) × (IsAllFalse true_ones (clause_of clauses hint))
Leads clauses true_ones (hint ∷ next ∷ hints) =
    (HasNumber clauses hint)
    × ((l : ℤ) × (IsUnit true_ones (clause_of clauses hint) l) × (Leads clauses (true_ones ++ l ∷ []) (next ∷ hints)))

-- A step is accepted over these clauses: it has the next number, its literals have distinct variables from 1 to
-- the last, and from the negation of its clause the hints lead to a clause whose literals are all false.
pub record IsStep (clauses : List (List ℤ)) (variables number : ℕ) (clause : List ℤ) (hints : List ℕ) : Type 0 where
  pub number_is : number ≡ length clauses + 1
  pub over : AreOver variables clause
  pub apart : AreApart clause
  pub leads : Leads clauses (map neg_ℤ clause) hints

-- each step is accepted over the formula and the steps before it
abbrev pub IsDerivation : List (List ℤ) → ℕ → List Step → Type 0
IsDerivation formula variables [] = Unit {0}
IsDerivation formula variables (step ∷ steps) =
    (IsStep formula variables step.number step.clause step.hints)
    × (IsDerivation (formula ++ step.clause ∷ []) variables steps)

-- the clauses of some steps
abbrev pub clauses_of : List Step → List (List ℤ)
clauses_of [] = []
clauses_of (step ∷ steps) = step.clause ∷ clauses_of steps

-- the last clause is the empty one
abbrev pub EndsEmpty : List (List ℤ) → Type 0
EndsEmpty clauses = (front : List (List ℤ)) × (clauses ≡ front ++ [] ∷ [])
