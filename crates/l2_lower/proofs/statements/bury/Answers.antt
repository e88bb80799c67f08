use Rattle.l2_lower.specs.Output.{output}
use Rattle.l2_lower.proofs.Lists.{bury_step, bury_end}
use Rattle.l2_lower.proofs.statements.bury.Goals as goal

pub loop-o-preserved : goal.loop-o-preserved
loop-o-preserved c =
    bury_step (output c.args.out.now.items c.args.at.now) c.args.at.now.next c.args.objects.now (output c.loop-o.out.items c.loop-o.at) (output c.dead.new.out.items c.dead.new.at) c.loop-o.o-index _ c.loop-o-test.true c.in_ok-dead.ensures.1 c.loop-o.invariant

pub returns : goal.returns
returns c = (tt, bury_end (output c.args.out.now.items c.args.at.now) c.args.at.now.next c.args.objects.now (output c.loop-o.out.items c.loop-o.at) c.loop-o.o-index c.loop-o-test.false c.loop-o.invariant)
