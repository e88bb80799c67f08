use Rattle.std.proofs.Common.{arith}
use Rattle.l2_goals.proofs.Bounded.{clause_same_at}
use Rattle.l2_goals.proofs.lists.check_clause.Goals as goal

pub returns-clause-same : goal.returns-clause-same
returns-clause-same c = clause_same_at c.args.variables c.args.clause.now c.loop-i.i c.loop-i.invariant (omega (arith, c.loop-i-test.false))
