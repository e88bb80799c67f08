use Rattle.std.proofs.Common.{◌∙◌, arith}
use Rattle.l2_inclusions.proofs.Settled.{led_more}
use Rattle.l2_inclusions.proofs.settle.lead.Goals as goal

pub loop-node-preserved : goal.loop-node-preserved
loop-node-preserved c = record {
  sets = c.assign.ensures.sets ∙ c.loop-node.invariant.sets;
  led = λ q all n. led_more q c.args.rows.now c.loop-node.rows c.assign.new.self c.args.number _ n c.assign.ensures.at (all c.loop-node.node-index _ (omega arith)) (c.loop-node.invariant.led q all n);
}
