-- Runs that keep the types of cells, and break known checks alone.
use Rattle.std.specs.Prelude.{ℕ}
use Rattle.l2_runs.specs.declared.outcome.Outcome.TheVariants.{Ended, Stopped, Broken, OutOfChoices, OutOfTurns}
use Rattle.l2_runs.specs.Fits.{Layout, StoreFits}
use Rattle.l2_runs.specs.Runs.{State, End, Over, Fallen, Result, Go, Halt, Run}
use Rattle.l2_runs.specs.Loops.{Limit, Real, Short, Cut}

-- a check that is broken is one of these
abbrev pub EndFits : (ℕ → Type 0) → End → Type 0
EndFits IsCheck (Over Ended) = Unit {0}
EndFits IsCheck (Over Stopped) = Unit {0}
EndFits IsCheck (Over (Broken c)) = IsCheck c
EndFits IsCheck (Over OutOfChoices) = Unit {0}
EndFits IsCheck (Over OutOfTurns) = Unit {0}
EndFits IsCheck (Fallen l row) = Unit {0}

-- where a run has come to: a value that is so, or an end; and a store whose cells hold values of their types
abbrev pub ResultFits : {A : Type 0} → Layout → (ℕ → Type 0) → (A → Type 0) → Result A → Type 0
ResultFits layout IsCheck IsSo (Go a s) = IsSo a × StoreFits layout s.store
ResultFits layout IsCheck IsSo (Halt e s) = EndFits IsCheck e × StoreFits layout s.store

-- from each store whose cells hold values of their types the run comes to another
pub record Keeps {A : Type 0} (layout : Layout) (IsCheck : ℕ → Type 0) (IsSo : A → Type 0) (r : Run A) : Type 0 where
  pub by : (s : State) → StoreFits layout s.store → ResultFits layout IsCheck IsSo (r s)

abbrev pub Anything : {A : Type 0} → A → Type 0
Anything a = Unit {0}

-- a back start keeps the types
abbrev pub LimitKeeps : Layout → (ℕ → Type 0) → Limit → Type 0
LimitKeeps layout IsCheck Real = Unit {0}
LimitKeeps layout IsCheck (Short k) = Unit {0}
LimitKeeps layout IsCheck (Cut k back) = (l : ℕ) → Keeps layout IsCheck Anything (back l)
