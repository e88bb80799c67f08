use Rattle.std.proofs.Common.{ℕ, ◌<◌, get_or, []}
use Rattle.std.specs.Prelude.{ℤ, Contains}
use Rattle.l2_cnf.specs.Assignment.{MakesTrue}
use Rattle.l2_cnf.proofs.assignment.satisfies.Given as goal

abbrev pub invariant-loop-i : goal.invariant-loop-i
invariant-loop-i l = (k : ℕ) → k < l.i → (m : ℤ) × (Contains (get_or l.list k []) m) × (MakesTrue l.a m)
