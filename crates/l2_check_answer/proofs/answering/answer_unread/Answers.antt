use Rattle.l2_program.specs.Programs.{program_tree}
use Rattle.l2_status.proofs.Texts.{of_program, of_fault}
use Rattle.l2_check_answer.specs.Checks.{OfFile}
use Rattle.l2_check_answer.proofs.Files.{of_bad_line}
use Rattle.l2_check_answer.proofs.answering.answer_unread.Goals as goal

pub returns-in-Ok : goal.returns-in-Ok
returns-in-Ok c =
    let p = program_tree c.in-Ok._program in
    of_program c.args.text.now (OfFile c.args.file.now) p c.in-Ok.ensures.ok c.bad_file.result
    (of_bad_line c.args.file.now p c.args.line c.requires.bad c.bad_file.result c.bad_file.ensures)

pub returns-in-Err : goal.returns-in-Err
returns-in-Err c = of_fault c.args.text.now (OfFile c.args.file.now) c.in-Err.fault c.in-Err.ensures.refused c.refused.result c.refused.ensures
