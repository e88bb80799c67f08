use Rattle.l2_circuits.proofs.Bits.{digits_more}
use Rattle.l2_circuits.proofs.literals.digits.Goals as goal

pub loop-i-preserved : goal.loop-i-preserved
loop-i-preserved c = digits_more c.args.width c.loop-i.i c.loop-i.left c.literal_if.result c.loop-i.word.items c.push.new.self.items _ c.loop-i-test.true c.in_ok-push.ensures.items c.literal_if.ensures c.loop-i.invariant
