use Rattle.std.proofs.Common.{◌≡◌, false}
use Rattle.l2_solver_trials.proofs.add_chain.Given as goal

abbrev pub invariant-loop-v : goal.invariant-loop-v
invariant-loop-v l = l.solver.logged ≡ false
