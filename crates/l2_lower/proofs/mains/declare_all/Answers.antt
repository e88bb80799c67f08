use Rattle.l2_program.specs.Programs.{program_tree}
use Rattle.l2_meaning.specs.Execution.{cells_of}
use Rattle.l2_lower.specs.Code.{declarations}
use Rattle.l2_lower.specs.Output.{output}
use Rattle.l2_lower.proofs.Lists.{declare_step, declare_end, declare_fails}
use Rattle.l2_lower.proofs.mains.declare_all.Goals as goal

pub loop-i-preserved : goal.loop-i-preserved
loop-i-preserved c =
    let cells = cells_of (program_tree c.args.p.now) in
    declare_step cells (output c.args.out.now.items c.args.at.now) (declarations cells c.args.at.now.next c.args.objects.now) (output c.loop-i.out.items c.loop-i.at) (output c.declare.new.out.items c.declare.new.at) c.args.objects.now c.loop-i.i _ c.loop-i-test.true c.in_ok-declare.ensures.1 c.loop-i.invariant

pub returns-in_err-declare : goal.returns-in_err-declare
returns-in_err-declare c =
    let cells = cells_of (program_tree c.args.p.now) in
    declare_fails _ cells (output c.args.out.now.items c.args.at.now) (declarations cells c.args.at.now.next c.args.objects.now) (output c.loop-i.out.items c.loop-i.at) (output c.declare.new.out.items c.declare.new.at) c.args.objects.now c.loop-i.i _ c.in_err-declare.field-0.0 c.from_residual.result c.loop-i-test.true c.from_residual.ensures.0 c.from_residual.ensures.1 c.loop-i.invariant c.in_err-declare.ensures

pub returns : goal.returns
returns c =
    let cells = cells_of (program_tree c.args.p.now) in
    (tt, declare_end cells (output c.args.out.now.items c.args.at.now) (declarations cells c.args.at.now.next c.args.objects.now) (output c.loop-i.out.items c.loop-i.at) c.args.objects.now c.loop-i.i c.loop-i-test.false c.loop-i.invariant)
