use Rattle.l2_program.specs.Programs.{program_tree}
use Rattle.l2_answer.specs.Replays.{ReplaysOn}
use Rattle.l2_status.proofs.Texts.{of_program, of_fault}
use Rattle.l2_answer.proofs.replay_answer.replay_answer.Goals as goal

pub returns-in-Ok : goal.returns-in-Ok
returns-in-Ok c = of_program c.args.text.now (ReplaysOn c.args.values.now) (program_tree c.in-Ok.program) c.in-Ok.ensures.ok c.replayed.result c.replayed.ensures

pub returns-in-Err : goal.returns-in-Err
returns-in-Err c = of_fault c.args.text.now (ReplaysOn c.args.values.now) c.in-Err.fault c.in-Err.ensures.refused c.refused.result c.refused.ensures
