use Rattle.l2_goals.proofs.Bounded.{AreSmall}
use Rattle.l2_goals.proofs.lists.check_clause.Given as goal

abbrev pub invariant-loop-i : goal.invariant-loop-i
invariant-loop-i l = AreSmall l.variables l.clause l.i
