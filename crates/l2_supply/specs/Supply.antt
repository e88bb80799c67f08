-- Runs whose choices are given in their own shape, a tree, in place of a list: what each part takes is its own branch.
use Rattle.std.specs.Prelude.{◌≡◌, ℕ, ℤ, pos, List, [], ◌++◌}
use Rattle.l2_runs.specs.declared.outcome.Outcome.TheVariants.{Ended, Stopped, Broken, OutOfChoices, OutOfTurns}
use Rattle.l2_runs.specs.Store.{Store}
use Rattle.l2_runs.specs.Runs.{State, End, Over, Fallen, Result, Go, Halt, Run}

pub data Supply : Type 0 where
  nil : Supply
  one : ℤ → Supply
  two : Supply → Supply → Supply

abbrev pub number_of : Supply → ℤ
number_of nil = pos 0
number_of (one z) = z
number_of (two u w) = pos 0

abbrev pub left : Supply → Supply
left nil = nil
left (one z) = nil
left (two u w) = u

abbrev pub right : Supply → Supply
right nil = nil
right (one z) = nil
right (two u w) = w

-- a state without choices and turns
pub record Place : Type 0 where
  pub store : Store
  pub arrivals : ℕ

abbrev pub place_of : State → Place
place_of s = record { store = s.store; arrivals = s.arrivals }

-- a place with these choices and turns
abbrev pub at : Place → List ℤ → ℕ → State
at p choices turns = record { store = p.store; choices = choices; turns = turns; arrivals = p.arrivals }

pub data Come (A : Type 0) : Type 0 where
  Goes : A → Place → Come A
  Ends : End → Place → Come A

-- a run by a supply
abbrev pub Supplied : Type 0 → Type 0
Supplied A = Supply → Place → Come A

abbrev pub on_goes : {A B : Type 0} → Come A → (A → Place → Come B) → Come B
on_goes (Goes a p) f = f a p
on_goes (Ends e p) f = Ends e p

-- one run, and then another, each with its branch
abbrev pub then_with : {A B : Type 0} → Supplied A → (A → Supplied B) → Supplied B
then_with r f u p = on_goes (r (left u) p) (λ a. f a (right u))

abbrev pub come_of : {A : Type 0} → Result A → Come A
come_of (Go a s) = Goes a (place_of s)
come_of (Halt e s) = Ends e (place_of s)

-- a run that takes no choice
abbrev pub without : {A : Type 0} → Run A → Supplied A
without r u p = come_of (r (at p [] 0))

abbrev pub with_choice : Supplied ℤ
with_choice u p = Goes (number_of u) p

-- where a run by a supply comes to, with these choices and turns left
abbrev pub result_of : {A : Type 0} → Come A → List ℤ → ℕ → Result A
result_of (Goes a p) rest turns = Go a (at p rest turns)
result_of (Ends e p) rest turns = Halt e (at p rest turns)

-- ---- agreement

-- choices with which a run comes to where a supply leads, whatever choices follow
pub record Chosen {A : Type 0} (r : Run A) (p : Place) (c : Come A) : Type 0 where
  pub choices : List ℤ
  pub comes : (rest : List ℤ) (turns : ℕ) → r (at p (choices ++ rest) turns) ≡ result_of c rest turns

-- an end that shows something: a check or a row that fails
abbrev pub IsFailure : End → Type 0
IsFailure (Over Ended) = ⊥
IsFailure (Over Stopped) = ⊥
IsFailure (Over (Broken c)) = Unit {0}
IsFailure (Over OutOfChoices) = ⊥
IsFailure (Over OutOfTurns) = ⊥
IsFailure (Fallen l row) = Unit {0}

-- where a run has come to, a supply leads too, unless the run was stopped or came to its own end
abbrev pub IsSupplied : {A : Type 0} → (Supply → Come A) → Result A → Type 0
IsSupplied f (Go a s) = (u : Supply) × (f u ≡ Goes a (place_of s))
IsSupplied f (Halt e s) = IsFailure e → (u : Supply) × (f u ≡ Ends e (place_of s))

-- a run on lists of choices and one by supplies do the same
pub record Agrees {A : Type 0} (r : Run A) (q : Supplied A) : Type 0 where
  pub by_supply : (p : Place) (u : Supply) → Chosen r p (q u p)
  pub by_choices : (s : State) → IsSupplied (λ u. q u (place_of s)) (r s)
