use Rattle.std.proofs.Common.{Err, ap, [], ◌∷◌}
use Rattle.l2_inputs.specs.Inputs.{input_of}
use Rattle.l2_sat.specs.Commands.{Check}
use Rattle.l2_sat.proofs.Answered.{inputs_are, judged_check, unread_so}
use Rattle.l2_sat.proofs.run.answer_check.Goals as goal

pub returns-in-Ok-clause-answers : goal.returns-in-Ok-clause-answers
returns-in-Ok-clause-answers g c = λ words asks.
    judged_check (g.H.Shelf.files c.args.shelf.now) (g.H.Shelf.read_faults c.args.shelf.now) (g.H.Shelf.read_faults c.read_two.new.shelf) words
    c.args.file.now c.args.proof.now (input_of c.input.result) (input_of c.input-2.result)
    c.in-Ok.text.items c.in-Ok.bytes.items c.deref.result.now c.deref-in-Ok.result.now asks c.input.ensures c.input-2.ensures
    c.in-Ok.ensures.ok c.deref.ensures.value c.deref-in-Ok.ensures.value c.check_answer.result c.check_answer.ensures

pub returns-in-Err-clause-answers : goal.returns-in-Err-clause-answers
returns-in-Err-clause-answers g c = λ words asks.
    unread_so (g.H.Shelf.files c.args.shelf.now) (g.H.Shelf.read_faults c.args.shelf.now) (g.H.Shelf.read_faults c.read_two.new.shelf) words
    (Check c.args.file.now c.args.proof.now) (input_of c.input.result ∷ input_of c.input-2.result ∷ []) c.in-Err.error asks
    (inputs_are c.args.file.now c.args.proof.now (input_of c.input.result) (input_of c.input-2.result) c.input.ensures c.input-2.ensures)
    (λ q. c.in-Err.ensures.fault (ap Err q)) (λ q. c.in-Err.ensures.too_long (ap Err q)) c.unread.result c.unread.ensures
