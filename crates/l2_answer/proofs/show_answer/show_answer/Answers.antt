use Rattle.l2_program.specs.Programs.{program_tree}
use Rattle.l2_answer.specs.Shows.{ShowsProgram}
use Rattle.l2_status.proofs.Texts.{of_program, of_fault}
use Rattle.l2_answer.proofs.show_answer.show_answer.Goals as goal

pub returns-in-Ok : goal.returns-in-Ok
returns-in-Ok c = of_program c.args.text.now (ShowsProgram c.args.view) (program_tree c.in-Ok.program) c.in-Ok.ensures.ok c.shown.result c.shown.ensures

pub returns-in-Err : goal.returns-in-Err
returns-in-Err c = of_fault c.args.text.now (ShowsProgram c.args.view) c.in-Err.fault c.in-Err.ensures.refused c.refused.result c.refused.ensures
