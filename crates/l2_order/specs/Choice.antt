-- Literals without a value.
use Rattle.std.specs.Prelude.{ℕ, ◌≤◌, ℤ, nat_abs, neg_ℤ, List, Contains}

-- a literal of these variables has no value
pub record IsFree (trail : List ℤ) (variables : ℕ) (l : ℤ) : Type 0 where
  pub some : 1 ≤ nat_abs l
  pub over : nat_abs l ≤ variables
  pub unset : ¬ Contains trail l
  pub live : ¬ Contains trail (neg_ℤ l)

-- some literal has no value
abbrev pub HasFree : List ℤ → ℕ → Type 0
HasFree trail variables = (l : ℤ) × IsFree trail variables l
