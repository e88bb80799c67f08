use Rattle.std.proofs.Common.{◌≡◌}
use Rattle.l2_cert.specs.declared.cert.CertError.TheVariants.{BadLine, NoMemory}
use Rattle.l2_check_answer.proofs.Files.{of_read, of_unread}
use Rattle.l2_check_answer.proofs.answering.check_answer.Goals as goal

pub returns-in-Ok : goal.returns-in-Ok
returns-in-Ok g c =
    of_read c.args.text.now c.args.file.now c.in-Ok.cert c.in-Ok.ensures.ok.0 c.in-Ok.ensures.ok.1 c.in-Ok.ensures.exactly c.if-cert.false
    c.answer_text.result c.answer_text.ensures

pub returns-in-Err-BadLine : goal.returns-in-Err-BadLine
returns-in-Err-BadLine g c =
    of_unread c.args.text.now c.args.file.now c.in-Err-BadLine.line
    (λ d grammar spelt. let e = c.in-Err-BadLine.ensures.exactly d grammar spelt in let is = c.in-Err-BadLine.field-0-is in cc)
    c.answer_unread.result c.answer_unread.ensures
