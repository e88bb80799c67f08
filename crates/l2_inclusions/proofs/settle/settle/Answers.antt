use Rattle.l2_inclusions.proofs.Settled.{goes_on}
use Rattle.l2_inclusions.proofs.settle.settle.Goals as goal

pub loop-i-preserved : goal.loop-i-preserved
loop-i-preserved c = goes_on c.args.graph.now c.args.rows.now c.loop-i.rows _ c.loop-i.invariant c.in_ok-settle_part.ensures
