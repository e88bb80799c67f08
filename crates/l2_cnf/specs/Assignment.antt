-- Values of the variables 1, 2, .. in order, and what they make true.
use Rattle.std.specs.Prelude.{◌≡◌, ℕ, suc, Bool, false, Option, None, Some, ℤ, nat_abs, List, slice_index_or, unwrap_or, Contains}
use Rattle.std.proofs.Common.{zero}
use Rattle.l2_cnf.specs.Lit.{positive}

-- the value of a variable, if it has one
abbrev pub value_of : List (Option Bool) → ℕ → Option Bool
value_of values zero = None
value_of values (suc n) = slice_index_or values n None

-- these values make a literal true
abbrev pub MakesTrue : List (Option Bool) → ℤ → Type 0
MakesTrue values l = value_of values (nat_abs l) ≡ Some (positive l)

-- each clause has a literal that these values make true
abbrev pub IsSatisfied : List (Option Bool) → List (List ℤ) → Type 0
IsSatisfied values list = (clause : List ℤ) → Contains list clause → (l : ℤ) × (Contains clause l) × (MakesTrue values l)

-- values of all variables: a variable without a value is false
abbrev pub completed : List (Option Bool) → ℕ → Bool
completed values n = unwrap_or (value_of values n) false
