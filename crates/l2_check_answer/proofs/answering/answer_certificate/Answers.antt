use Rattle.std.proofs.Common.{refl}
use Rattle.l2_check_answer.specs.Checks.{refused}
use Rattle.l2_check_answer.proofs.answering.answer_certificate.Goals as goal

pub returns-in_ok-fault_line-in-Err : goal.returns-in_ok-fault_line-in-Err
returns-in_ok-fault_line-in-Err g c = refused c.in-Err.error c.in-Err.ensures.refused refl c.in_ok-fault_line-in-Err.ensures
