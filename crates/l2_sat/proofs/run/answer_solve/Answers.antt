use Rattle.std.proofs.Common.{Err, ap, [], ◌∷◌}
use Rattle.l2_inputs.specs.Inputs.{input_of}
use Rattle.l2_sat.specs.Commands.{Solve}
use Rattle.l2_sat.proofs.Answered.{input_is, judged_solve, unread_so}
use Rattle.l2_sat.proofs.run.answer_solve.Goals as goal

pub returns-in-Ok-clause-answers : goal.returns-in-Ok-clause-answers
returns-in-Ok-clause-answers g c = λ words asks.
    judged_solve (g.H.Shelf.files c.args.shelf.now) (g.H.Shelf.read_faults c.args.shelf.now) (g.H.Shelf.read_faults c.read_one.new.shelf) words
    c.args.file.now c.args.proof.now (input_of c.input.result) c.in-Ok.text.items c.deref.result.now asks c.input.ensures
    c.in-Ok.ensures.ok c.deref.ensures.value c.solve_answer.result c.solve_answer.ensures

pub returns-in-Err-clause-answers : goal.returns-in-Err-clause-answers
returns-in-Err-clause-answers g c = λ words asks.
    unread_so (g.H.Shelf.files c.args.shelf.now) (g.H.Shelf.read_faults c.args.shelf.now) (g.H.Shelf.read_faults c.read_one.new.shelf) words
    (Solve c.args.file.now c.args.proof.now) (input_of c.input.result ∷ []) c.in-Err.error asks
    (input_is c.args.file.now (input_of c.input.result) c.input.ensures c.args.proof.now)
    (λ q. c.in-Err.ensures.fault (ap Err q)) (λ q. c.in-Err.ensures.too_long (ap Err q)) c.unread.result c.unread.ensures
