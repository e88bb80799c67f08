use Rattle.l2_engine.proofs.Told.{infers_so, loops_so, ranks_so}
use Rattle.l2_engine.proofs.ranks.loop_ranks.Goals as goal

pub ranks_at-requires-clause-infers : goal.ranks_at-requires-clause-infers
ranks_at-requires-clause-infers c = infers_so c.args.task.now c.args.k c.cut-cut.result c.args.point.now c.cut-cut.ensures c.requires.strongest.infers

pub ranks_at-requires-clause-loops : goal.ranks_at-requires-clause-loops
ranks_at-requires-clause-loops c = loops_so c.args.task.now c.args.k c.cut-cut.result c.loops.result.now c.cut-cut.ensures c.loops.ensures

pub returns : goal.returns
returns c = ranks_so c.args.task.now c.args.k c.cut-cut.result c.args.point.now c.ranks_at.result c.cut-cut.ensures c.ranks_at.ensures
