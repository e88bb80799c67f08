-- The log of what was learnt: steps with hints.
use Rattle.std.specs.Prelude.{◌≡◌, ℕ, max, Bool, ℤ, nat_abs, List, [], ◌∷◌, ◌++◌}
use Rattle.l2_cnf.specs.Logic.{AllWithin}
use Rattle.l2_cnf.specs.Steps.{Step, IsDerivation, clauses_of}

-- the greatest variable of some literals, 0 if there are none
abbrev pub greatest_in : List ℤ → ℕ
greatest_in [] = 0
greatest_in (l ∷ literals) = max (nat_abs l) (greatest_in literals)

-- the greatest variable of some clauses
abbrev pub greatest_of : List (List ℤ) → ℕ
greatest_of [] = 0
greatest_of (clause ∷ clauses) = max (greatest_in clause) (greatest_of clauses)

-- the steps of a log, and whether it is kept at all
pub record Logged : Type 0 where
  pub kept : Bool
  pub steps : List Step

-- the numbers of the clauses by which a clause follows, last first, and whether they are kept at all
pub record Noted : Type 0 where
  pub kept : Bool
  pub numbers : List ℕ

-- A log of what was learnt: a derivation from the clauses added, over their variables, whose clauses are those learnt, in order.
pub record IsLog (added learnt : List (List ℤ)) (steps : List Step) : Type 0 where
  pub derived : IsDerivation added (greatest_of added) steps
  pub clauses : clauses_of steps ≡ learnt

-- the log of a search, whose clauses are those added and then those learnt, over the variables of those added
pub record IsKeptLog (added learnt clauses : List (List ℤ)) (steps : List Step) : Type 0 where
  pub log : IsLog added learnt steps
  pub whole : clauses ≡ added ++ learnt
  pub over : AllWithin (greatest_of added) clauses
