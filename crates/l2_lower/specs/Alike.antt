-- Runs that do the same.
use Rattle.std.specs.Prelude.{◌≡◌, ℕ, ℤ, List}
use Rattle.l2_runs.specs.declared.outcome.Outcome.TheVariants.{Ended, Stopped, Broken, OutOfChoices, OutOfTurns}
use Rattle.l2_runs.specs.Runs.{State, End, Over, Fallen, Result, Go, Halt}
use Rattle.l2_runs.specs.Loops.{Limit, Tests}
use Rattle.l2_meaning.specs.Execution.{Execution, report}
use Rattle.l2_code.specs.Trees.{CodeTree}
use Rattle.l2_code.specs.Modes.{start, run_code}

-- how a run is over, where a program that is left at its end has ended
abbrev pub end_of : {A : Type 0} → Result A → End
end_of (Go a s) = Over Ended
end_of (Halt e s) = e

abbrev pub state_of : {A : Type 0} → Result A → State
state_of (Go a s) = s
state_of (Halt e s) = s

-- the same choices, turns and arrivals were used
pub record AreUsedAlike (s t : State) : Type 0 where
  pub choices : s.choices ≡ t.choices
  pub turns : s.turns ≡ t.turns
  pub arrivals : s.arrivals ≡ t.arrivals

-- the states of two runs that are over so: the same ones, the store aside where the program has ended
abbrev pub AreAlike : End → State → State → Type 0
AreAlike (Over Ended) s t = AreUsedAlike s t
AreAlike (Over Stopped) s t = s ≡ t
AreAlike (Over (Broken c)) s t = s ≡ t
AreAlike (Over OutOfChoices) s t = s ≡ t
AreAlike (Over OutOfTurns) s t = s ≡ t
AreAlike (Fallen l row) s t = s ≡ t

-- two runs are over alike
pub record Agree {A B : Type 0} (x : Result A) (y : Result B) : Type 0 where
  pub end : end_of x ≡ end_of y
  pub states : AreAlike (end_of x) (state_of x) (state_of y)

-- the execution of a code under a limit and tests on these choices and turns
abbrev pub exec_code : CodeTree → Limit → Tests → List ℤ → ℕ → Execution
exec_code c limit tests choices turns = report choices turns (run_code c limit tests (start c choices turns))
