-- Goals that are refuted by steps: which one isn't, and where it fails.
use Rattle.std.specs.Prelude.{◌≡◌, ℕ, ◌+◌, ◌<◌, ◌≤◌, ℤ, List, [], ◌∷◌, ◌++◌, length, slice_index_or}
use Rattle.l2_cnf.specs.Steps.{Step, IsStep, IsDerivation, EndsEmpty, clauses_of}

-- some goals: the clauses that all have, and for each its last clause and its steps
pub record Goals : Type 0 where
  pub base : List (List ℤ)
  pub variables : ℕ
  pub last : List (List ℤ)
  pub steps : List (List Step)

-- the formula of the goal of an index
abbrev pub formula_at : Goals → ℕ → List (List ℤ)
formula_at g i = g.base ++ slice_index_or g.last i [] ∷ []

abbrev pub steps_at : Goals → ℕ → List Step
steps_at g i = slice_index_or g.steps i []

-- its steps are a derivation over its formula, and the last is the empty clause
pub record IsRefuted (formula : List (List ℤ)) (variables : ℕ) (steps : List Step) : Type 0 where
  pub derived : IsDerivation formula variables steps
  pub empty : EndsEmpty (clauses_of steps)

abbrev pub Holds : Goals → ℕ → Type 0
Holds g i = IsRefuted (formula_at g i) g.variables (steps_at g i)

-- step s, counted from 1, is the first that isn't accepted
abbrev pub FailsAt : List (List ℤ) → ℕ → List Step → ℕ → Type 0
FailsAt formula variables steps s =
    (front : List Step) × (step : Step) × (rest : List Step)
    × (steps ≡ front ++ step ∷ rest)
    × (s ≡ length front + 1)
    × IsDerivation formula variables front
    × (¬ IsStep (formula ++ clauses_of front) variables step.number step.clause step.hints)

-- all steps are accepted, and the last isn't the empty clause
abbrev pub IsOpen : List (List ℤ) → ℕ → List Step → Type 0
IsOpen formula variables steps = IsDerivation formula variables steps × (¬ EndsEmpty (clauses_of steps))

-- goal n, counted from 1, has this fault, and those before it from an index on hold
abbrev pub IsFirst : Goals → ℕ → ℕ → ℕ → (ℕ → Type 0) → Type 0
IsFirst g from to n Fails = (i : ℕ) × (n ≡ i + 1) × (from ≤ i) × (i < to) × ((j : ℕ) → from ≤ j → j < i → Holds g j) × Fails i

-- from an index on and before another all hold
abbrev pub AllHold : Goals → ℕ → ℕ → Type 0
AllHold g from to = (i : ℕ) → from ≤ i → i < to → Holds g i

-- goal n is the first that fails, by its step s
abbrev pub BreaksAt : Goals → ℕ → ℕ → ℕ → ℕ → Type 0
BreaksAt g from to n s = IsFirst g from to n (λ i. FailsAt (formula_at g i) g.variables (steps_at g i) s)

-- goal n is the first that fails, by its end
abbrev pub StaysOpen : Goals → ℕ → ℕ → ℕ → Type 0
StaysOpen g from to n = IsFirst g from to n (λ i. IsOpen (formula_at g i) g.variables (steps_at g i))
