use Rattle.std.proofs.Common.{◌≡◌, false}
use Rattle.l2_solver_trials.proofs.add_all.Given as goal

abbrev pub invariant-loop-clause : goal.invariant-loop-clause
invariant-loop-clause l = record {
  next : (goal.iterator-loop-clause).can_next l.clause-iterator;
  finite : (goal.iterator-loop-clause).is_finite l.clause-iterator;
  logged : l.solver.logged ≡ false;
}
