-- What a checker of steps holds.
use Rattle.std.specs.Prelude.{ℕ, ◌-◌, ℤ, List, [], ◌∷◌, ◌++◌, length}

-- clauses in memory that was taken beforehand, for how many more clauses there is room, and for how many literals
pub record Hold : Type 0 where
  pub clauses : List (List ℤ)
  pub lines : ℕ
  pub literals : ℕ

-- The formula is the base and its last clauses. The steps are the clauses accepted so far; there is room for this many
-- more of them, and for this many literals.
pub record Checked : Type 0 where
  pub base : List (List ℤ)
  pub last : List (List ℤ)
  pub steps : List (List ℤ)
  pub variables : ℕ
  pub lines : ℕ
  pub literals : ℕ

-- the formula over which steps are checked
abbrev pub formula_of : Checked → List (List ℤ)
formula_of checked = checked.base ++ checked.last

-- the clauses that a hint can name, the first with the number 1
abbrev pub known_of : Checked → List (List ℤ)
known_of checked = formula_of checked ++ checked.steps

-- a checker of this formula that has accepted nothing
abbrev pub fresh : List (List ℤ) → List (List ℤ) → ℕ → ℕ → ℕ → Checked
fresh base last variables lines literals = record { base = base; last = last; steps = []; variables = variables; lines = lines; literals = literals }

-- after one more clause was accepted
abbrev pub with_step : Checked → List ℤ → Checked
with_step checked clause = record { base = checked.base; last = checked.last; steps = checked.steps ++ clause ∷ []; variables = checked.variables; lines = checked.lines - 1; literals = checked.literals - length clause }
