-- Goals whose formulas have no model, and steps that show it.
use Rattle.std.specs.Prelude.{◌≡◌, ⊤, ℕ, ◌<◌, Bool, true, false, ℤ, List, [], ◌∷◌, ◌++◌, length, slice_index_or, Contains}
use Rattle.std.specs.List.{All}
use Rattle.l2_cnf.specs.Logic.{IsAbsorbed, Satisfies}
use Rattle.l2_cnf.specs.Steps.{Step, clauses_of}
use Rattle.l2_cert.specs.Certificate.{IsGoal}
use Rattle.l2_derivations.specs.Goals.{Goals, IsRefuted, AllHold, formula_at, steps_at}

abbrev pub HasModel : List (List ℤ) → Type 0
HasModel formula = (v : ℕ → Bool) × Satisfies v formula

-- a formula is refuted: the empty clause was learnt; or it has a model
abbrev pub IsDecided : Bool → List (List ℤ) → List (List ℤ) → Type 0
IsDecided true formula learnt = Contains learnt []
IsDecided false formula learnt = HasModel formula

-- the formula of some goal has a model
abbrev pub SomeHasModel : List (List ℤ) → List (List ℤ) → Type 0
SomeHasModel base last = (i : ℕ) × (i < length last) × HasModel (base ++ slice_index_or last i [] ∷ [])

-- no clause of these but the last is absorbed by a formula and those before it
abbrev pub AreNew : List (List ℤ) → List (List ℤ) → Type 0
AreNew formula [] = ⊤
AreNew formula (clause ∷ []) = ⊤
AreNew formula (clause ∷ next ∷ more) = (¬ IsAbsorbed formula clause) × AreNew (formula ++ clause ∷ []) (next ∷ more)

-- steps that refute a formula over variables up to this, that a file can spell, and none of which but the last is absorbed
pub record Refute (variables : ℕ) (formula : List (List ℤ)) (steps : List Step) : Type 0 where
  pub refuted : IsRefuted formula variables steps
  pub spelt : IsGoal steps
  pub new : AreNew formula (clauses_of steps)

-- each goal has such steps
pub record AreRefuted (g : Goals) : Type 0 where
  pub each : length g.steps ≡ length g.last
  pub hold : AllHold g 0 (length g.steps)
  pub spelt : All IsGoal g.steps
  pub new : (i : ℕ) → i < length g.steps → AreNew (formula_at g i) (clauses_of (steps_at g i))
