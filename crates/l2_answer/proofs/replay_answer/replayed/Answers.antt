use Rattle.l2_program.specs.Programs.{program_tree}
use Rattle.l2_answer.proofs.Executions.{executes, no_values}
use Rattle.l2_answer.proofs.replay_answer.replayed.Goals as goal

pub returns-in-Ok : goal.returns-in-Ok
returns-in-Ok c =
    executes c.args.values.now (program_tree c.args.program.now) c.in-Ok.read.turns c.in-Ok.read.choices
    c.in-Ok.ensures.ok.0 c.in-Ok.ensures.ok.1 c.executed.result c.executed.ensures

pub returns-in-Err-BadLine : goal.returns-in-Err-BadLine
returns-in-Err-BadLine c =
    no_values c.args.values.now (program_tree c.args.program.now)
    (λ turns choices range spelt. let no = c.in-Err-BadLine.ensures.exactly turns choices range spelt in let bad = c.in-Err-BadLine.field-0-is in cc)
    c.fixed.result c.fixed.ensures
