use Rattle.std.proofs.Common.{arith}
use Rattle.l2_goals.proofs.Bounded.{list_same_at}
use Rattle.l2_goals.proofs.lists.check_list.Goals as goal

pub returns-clause-same : goal.returns-clause-same
returns-clause-same c = list_same_at c.args.variables c.args.list.now c.loop-i.i c.loop-i.invariant (omega (arith, c.loop-i-test.false, c.len-i-end.ensures.len))
