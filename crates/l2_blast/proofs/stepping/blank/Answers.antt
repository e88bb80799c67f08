use Rattle.l2_blast.proofs.Lists.{blank_more}
use Rattle.l2_blast.proofs.stepping.blank.Goals as goal

pub loop-i-preserved : goal.loop-i-preserved
loop-i-preserved c = blank_more c.args.width c.loop-i.i c.loop-i.word.items _ _ _ c.loop-i-test.true c.in_ok-push.ensures.items c.falsity.ensures c.loop-i.invariant
