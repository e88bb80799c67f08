use Rattle.std.proofs.Common.{Err, ap, [], ◌∷◌}
use Rattle.l2_request.specs.Requests.{Check}
use Rattle.l2_inputs.specs.Inputs.{input_of}
use Rattle.l2_answer.proofs.Requests.{check_inputs, judged_check, unread}
use Rattle.l2_answer.proofs.answering.answer_check.Goals as goal

pub returns-in-Ok-clause-answers : goal.returns-in-Ok-clause-answers
returns-in-Ok-clause-answers g c = λ words asks.
    judged_check (g.H.Shelf.files c.args.shelf.now) (g.H.Shelf.read_faults c.args.shelf.now) (g.H.Shelf.read_faults c.read_two.new.shelf) words
    c.args.file.now c.args.certificate.now c.args.jobs (input_of c.text.result) (input_of c.certificate_file.result)
    c.in-Ok.text.items c.in-Ok.certificate.items c.deref.result.now c.deref-in-Ok.result.now asks c.text.ensures c.certificate_file.ensures
    c.in-Ok.ensures.ok c.deref.ensures.value c.deref-in-Ok.ensures.value c.check_answer.result c.check_answer.ensures

pub returns-in-Err-clause-answers : goal.returns-in-Err-clause-answers
returns-in-Err-clause-answers g c = λ words asks.
    unread (g.H.Shelf.files c.args.shelf.now) (g.H.Shelf.read_faults c.args.shelf.now) (g.H.Shelf.read_faults c.read_two.new.shelf) words
    (Check c.args.file.now c.args.certificate.now c.args.jobs) (input_of c.text.result ∷ input_of c.certificate_file.result ∷ []) c.in-Err.error asks
    (check_inputs c.args.file.now c.args.certificate.now c.args.jobs (input_of c.text.result) (input_of c.certificate_file.result) c.text.ensures c.certificate_file.ensures)
    (λ q. c.in-Err.ensures.fault (ap Err q)) (λ q. c.in-Err.ensures.too_long (ap Err q)) c.unread.result c.unread.ensures
