use Rattle.l2_circuits.proofs.Bits.{resized_more}
use Rattle.l2_circuits.proofs.literals.resized.Goals as goal

pub loop-i-preserved : goal.loop-i-preserved
loop-i-preserved c =
    resized_more c.args.width c.loop-i.i c.args.fill c.bit_or.result c.args.a.now c.loop-i.word.items c.push.new.self.items _ c.loop-i-test.true c.in_ok-push.ensures.items c.bit_or.ensures c.loop-i.invariant
