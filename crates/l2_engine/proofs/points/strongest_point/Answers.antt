use Rattle.std.proofs.Common.{◌∙◌}
use Rattle.l2_engine.proofs.Told.{strongest_so}
use Rattle.l2_engine.proofs.points.strongest_point.Goals as goal

pub returns : goal.returns
returns c = strongest_so c.args.task.now c.args.k c.new-engine.result.cut _ _ c.strongest.result (c.new-engine.ensures.cut ∙ c.cut-cut.ensures) c.forms.ensures c.bounds.ensures.is c.strongest.ensures.is
