use Rattle.l2_blast.proofs.Lists.{fresh_more}
use Rattle.l2_blast.proofs.stepping.fresh_word.Goals as goal

pub loop-i-preserved : goal.loop-i-preserved
loop-i-preserved c =
    fresh_more c.args.width c.loop-i.i c.loop-i.word.items _ _ c.loop-i.gates _ _ c.loop-i-test.true c.in_ok-push.ensures.items c.in_ok-bit.ensures.is c.in_ok-bit.ensures.made c.loop-i.invariant
