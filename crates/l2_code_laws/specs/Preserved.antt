-- Runs that keep what holds of the store.
use Rattle.std.specs.Prelude.{ℕ}
use Rattle.l2_runs.specs.Store.{Store}
use Rattle.l2_runs.specs.Runs.{State, Result, Go, Halt, Run}
use Rattle.l2_runs.specs.Keeps.{Anything}
use Rattle.l2_runs.specs.Loops.{Limit, Real, Short, Cut}

-- where a run has come to: a value that is so, or an end; and a store of which the fact holds
abbrev pub ResultHolds : {A : Type 0} → (Store → Type 0) → (A → Type 0) → Result A → Type 0
ResultHolds Inv IsSo (Go a s) = IsSo a × Inv s.store
ResultHolds Inv IsSo (Halt e s) = Inv s.store

-- from each store of which the fact holds the run comes to another
pub record Preserves {A : Type 0} (Inv : Store → Type 0) (IsSo : A → Type 0) (r : Run A) : Type 0 where
  pub by : (s : State) → Inv s.store → ResultHolds Inv IsSo (r s)

-- a back start keeps the fact
abbrev pub LimitPreserves : (Store → Type 0) → Limit → Type 0
LimitPreserves Inv Real = Unit {0}
LimitPreserves Inv (Short k) = Unit {0}
LimitPreserves Inv (Cut k back) = (l : ℕ) → Preserves Inv Anything (back l)
