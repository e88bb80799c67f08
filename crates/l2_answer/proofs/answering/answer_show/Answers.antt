use Rattle.std.proofs.Common.{Err, ap, [], ◌∷◌}
use Rattle.l2_inputs.specs.Inputs.{input_of}
use Rattle.l2_request.specs.Requests.{Show}
use Rattle.l2_answer.proofs.Requests.{show_inputs, judged_show, unread}
use Rattle.l2_answer.proofs.answering.answer_show.Goals as goal

pub returns-in-Ok-clause-answers : goal.returns-in-Ok-clause-answers
returns-in-Ok-clause-answers g c = λ words asks.
    judged_show (g.H.Shelf.files c.args.shelf.now) (g.H.Shelf.read_faults c.args.shelf.now) (g.H.Shelf.read_faults c.read_one.new.shelf) words
    c.args.view c.args.file.now (input_of c.text.result) c.in-Ok.text.items c.deref.result.now asks c.text.ensures
    c.in-Ok.ensures.ok c.deref.ensures.value c.show_answer.result c.show_answer.ensures

pub returns-in-Err-clause-answers : goal.returns-in-Err-clause-answers
returns-in-Err-clause-answers g c = λ words asks.
    unread (g.H.Shelf.files c.args.shelf.now) (g.H.Shelf.read_faults c.args.shelf.now) (g.H.Shelf.read_faults c.read_one.new.shelf) words
    (Show c.args.view c.args.file.now) (input_of c.text.result ∷ []) c.in-Err.error asks
    (show_inputs c.args.view c.args.file.now (input_of c.text.result) c.text.ensures)
    (λ q. c.in-Err.ensures.fault (ap Err q)) (λ q. c.in-Err.ensures.too_long (ap Err q)) c.unread.result c.unread.ensures
