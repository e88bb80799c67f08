use Rattle.l2_goals.proofs.Bounded.{AreFine}
use Rattle.l2_goals.proofs.lists.check_list.Given as goal

abbrev pub invariant-loop-i : goal.invariant-loop-i
invariant-loop-i l = AreFine l.variables l.list l.i
