use Rattle.std.proofs.Common.{◌≤◌}
use Rattle.std.specs.Prelude.{ℤ, nat_abs}
use Rattle.l2_order.specs.Choice.{IsFree}
use Rattle.l2_order.proofs.order.first_free.Given as goal

abbrev pub invariant-loop-var : goal.invariant-loop-var
invariant-loop-var l = (m : ℤ) → nat_abs m ≤ l.var → ¬ IsFree l.watch.past.literals l.watch.variables m
