use Rattle.std.proofs.Common.{◌≡◌, ◌-◌, length}
use Rattle.l2_solver_trials.proofs.logged.holds.Given as goal

abbrev pub invariant-loop-i : goal.invariant-loop-i
invariant-loop-i l = record {
  literals : l.checker.literals ≡ l.left;
  lines : l.checker.lines ≡ length l.log - l.i;
}
