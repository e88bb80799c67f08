use Rattle.std.proofs.Common.{arith, ap, ◌∙◌}
use Rattle.l2_turn_engine.specs.Lists.{rank_count}
use Rattle.l2_turn_engine.proofs.Numbered.{before_none, before_step}
use Rattle.l2_turn_engine.proofs.indexes.ranks_before.Goals as goal

pub loop-i-init : goal.loop-i-init
loop-i-init c = before_none c.args.point.now

pub loop-i-preserved : goal.loop-i-preserved
loop-i-preserved c =
    before_step c.args.point.now c.loop-i.i c.loop-i.before c.rank_count-count.result c.in-Some.more (omega (arith, c.loop-i-test.true, c.requires)) c.loop-i.invariant (c.rank_count-count.ensures ∙ ap rank_count c.get.ensures) c.in-Some.ensures.1
