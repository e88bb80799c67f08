use Rattle.l2_lower.specs.Output.{output}
use Rattle.l2_lower.proofs.Lists.{fill_step, fill_end}
use Rattle.l2_lower.proofs.statements.fill.Goals as goal

pub loop-i-preserved : goal.loop-i-preserved
loop-i-preserved c =
    fill_step (output c.args.out.now.items c.args.at.now) c.args.o c.args.types.now (output c.loop-i.out.items c.loop-i.at) (output c.fill_cell.new.out.items c.fill_cell.new.at) c.loop-i.i c.index-types-i.result c.loop-i-test.true c.index-types-i.is c.in_ok-fill_cell.ensures.1 c.loop-i.invariant

pub returns : goal.returns
returns c = (tt, fill_end (output c.args.out.now.items c.args.at.now) c.args.o c.args.types.now (output c.loop-i.out.items c.loop-i.at) c.loop-i.i c.loop-i-test.false c.loop-i.invariant)
