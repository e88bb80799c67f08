use Rattle.std.proofs.Common.{Err, ap, [], ◌∷◌, ◌∙◌}
use Rattle.l2_words.specs.Requests.{text_of}
use Rattle.l2_inputs.specs.Inputs.{input_of}
use Rattle.l2_request.specs.Requests.{Decide}
use Rattle.l2_answer.proofs.Requests.{decision_inputs, some_text, decided_so, unread, tells_alone}
use Rattle.l2_answer.proofs.deciding.answer_decision.Goals as goal

pub returns-in_ok-verdict-in-Ok-clause-answers : goal.returns-in_ok-verdict-in-Ok-clause-answers
returns-in_ok-verdict-in-Ok-clause-answers g c = λ words asks.
    decided_so (g.H.Shelf.files c.args.shelf.now) (g.H.Shelf.read_faults c.args.shelf.now) (g.H.Shelf.read_faults c.read_one.new.shelf) words c.args.mode
    c.args.file.now c.args.unwind c.args.domain (text_of c.args.out) (input_of c.text.result) c.in-Ok.text.items c.deref.result.now c.is_some.result
    c.in_ok-verdict-in-Ok.verdict c.told.result asks c.text.ensures c.in-Ok.ensures.ok c.deref.ensures.value (c.is_some.ensures ∙ some_text c.args.out)
    c.in_ok-verdict-in-Ok.ensures c.told.ensures.answer c.told.ensures.stored

pub returns-in-Err-clause-answers : goal.returns-in-Err-clause-answers
returns-in-Err-clause-answers g c = λ words asks.
    tells_alone (g.H.Shelf.files c.args.shelf.now) (g.H.Shelf.read_faults c.args.shelf.now) (g.H.Shelf.read_faults c.read_one.new.shelf) words c.unread.result c.alone.result c.alone.ensures
    (unread (g.H.Shelf.files c.args.shelf.now) (g.H.Shelf.read_faults c.args.shelf.now) (g.H.Shelf.read_faults c.read_one.new.shelf) words
    (Decide c.args.mode c.args.file.now c.args.unwind c.args.domain (text_of c.args.out)) (input_of c.text.result ∷ []) c.in-Err.error asks
    (decision_inputs c.args.mode c.args.file.now c.args.unwind c.args.domain (text_of c.args.out) (input_of c.text.result) c.text.ensures)
    (λ q. c.in-Err.ensures.fault (ap Err q)) (λ q. c.in-Err.ensures.too_long (ap Err q)) c.unread.result c.unread.ensures)
