-- How many literals the clauses of steps have.
use Rattle.std.specs.Prelude.{ℕ, ◌+◌, List, [], ◌∷◌, length}
use Rattle.l2_cnf.specs.Steps.{Step}

abbrev pub literals_of : List Step → ℕ
literals_of [] = 0
literals_of (step ∷ steps) = length step.clause + literals_of steps
