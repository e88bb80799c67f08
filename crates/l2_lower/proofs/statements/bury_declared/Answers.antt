use Rattle.l2_lower.specs.Output.{output}
use Rattle.l2_lower.proofs.Lists.{bury_all_step, bury_all_end}
use Rattle.l2_lower.proofs.statements.bury_declared.Goals as goal

pub loop-s-preserved : goal.loop-s-preserved
loop-s-preserved c =
    bury_all_step (output c.args.out.now.items c.args.at.now) c.args.at.now.next c.args.all.now (output c.loop-s.out.items c.loop-s.at) (output c.bury_one.new.out.items c.bury_one.new.at) c.loop-s.s-index c.s-item.result c.loop-s-test.true c.s-item.is c.in_ok-bury_one.ensures.1 c.loop-s.invariant

pub returns : goal.returns
returns c = (tt, bury_all_end (output c.args.out.now.items c.args.at.now) c.args.at.now.next c.args.all.now (output c.loop-s.out.items c.loop-s.at) c.loop-s.s-index c.loop-s-test.false c.loop-s.invariant)
