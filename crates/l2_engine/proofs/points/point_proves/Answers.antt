use Rattle.l2_engine.proofs.Told.{breaks_so}
use Rattle.l2_engine.proofs.points.point_proves.Goals as goal

pub returns : goal.returns
returns c = breaks_so c.args.task.now c.args.k c.cut-cut.result c.args.point.now c.in_ok-breaks.breaks c.cut-cut.ensures c.requires.strongest.infers c.in_ok-breaks.ensures
