use Rattle.l2_inclusions.proofs.reach.spread.Goals as goal

pub loop-preserved : goal.loop-preserved
loop-preserved c = λ w leads node all. c.in_ok-step.ensures w leads node (c.loop.invariant w leads node all)
