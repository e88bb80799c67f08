-- Steps kept by their parts.
use Rattle.std.specs.Prelude.{ℕ, ℤ, List, [], ◌∷◌, slice_index_or}
use Rattle.l2_cnf.specs.Steps.{Step}

-- a step of its number, clause and hints
abbrev pub step_of : ℕ → List ℤ → List ℕ → Step
step_of number clause hints = record { number = number; clause = clause; hints = hints }

-- the steps of some numbers, clauses and hints, in order
abbrev pub steps_of : List ℕ → List (List ℤ) → List (List ℕ) → List Step
steps_of [] clauses hints = []
steps_of (number ∷ numbers) [] hints = []
steps_of (number ∷ numbers) (clause ∷ clauses) [] = []
steps_of (number ∷ numbers) (clause ∷ clauses) (hint ∷ hints) = step_of number clause hint ∷ steps_of numbers clauses hints

-- a step by its index
abbrev pub step_at : List Step → ℕ → Step
step_at steps i = slice_index_or steps i (step_of 0 [] [])
