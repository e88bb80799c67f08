use Rattle.std.proofs.Common.{◌≡◌, false}
use Rattle.l2_solver_trials.proofs.planted.Given as goal

abbrev pub invariant-loop : goal.invariant-loop
invariant-loop l = l.solver.logged ≡ false
