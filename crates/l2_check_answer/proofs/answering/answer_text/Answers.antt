use Rattle.l2_program.specs.Programs.{program_tree}
use Rattle.l2_status.proofs.Texts.{of_program, of_fault}
use Rattle.l2_check_answer.specs.Checks.{OfCertificate}
use Rattle.l2_check_answer.proofs.answering.answer_text.Goals as goal

pub returns-in-Ok : goal.returns-in-Ok
returns-in-Ok g c =
    of_program c.args.text.now (OfCertificate c.args.cert.now) (program_tree c.in-Ok.loaded.program) c.in-Ok.ensures.ok
    c.answer_certificate.result c.answer_certificate.ensures

pub returns-in-Err : goal.returns-in-Err
returns-in-Err g c = of_fault c.args.text.now (OfCertificate c.args.cert.now) c.in-Err.fault c.in-Err.ensures.refused c.refused.result c.refused.ensures
