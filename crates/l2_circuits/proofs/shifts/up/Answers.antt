use Rattle.l2_circuits.proofs.Bits.{falses_more}
use Rattle.l2_circuits.proofs.shifts.up.Goals as goal

pub loop-i-preserved : goal.loop-i-preserved
loop-i-preserved c =
    falses_more c.args.k c.loop-i.i c.falsity.result c.loop-i.long.items c.push.new.self.items _ c.loop-i-test.true c.in_ok-push.ensures.items c.falsity.ensures c.loop-i.invariant
