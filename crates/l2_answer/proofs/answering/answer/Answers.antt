use Rattle.std.proofs.Common.{Some, ap, ◌∙◌}
use Rattle.l2_words.specs.Line.{texts}
use Rattle.l2_request.specs.Requests.{asked}
use Rattle.l2_answer.proofs.Requests.{judged_generate, tells_alone}
use Rattle.l2_answer.proofs.answering.answer.Goals as goal

pub returns-in-Ok-Generate-clause-answers : goal.returns-in-Ok-Generate-clause-answers
returns-in-Ok-Generate-clause-answers g c =
    tells_alone (g.H.Shelf.files c.args.shelf.now) (g.H.Shelf.read_faults c.args.shelf.now) (g.H.Shelf.read_faults c.args.shelf.now) (texts c.args.words.now)
    c.generate_answer.result c.alone-in-Ok-Generate.result c.alone-in-Ok-Generate.ensures
    (judged_generate (g.H.Shelf.files c.args.shelf.now) (g.H.Shelf.read_faults c.args.shelf.now) (g.H.Shelf.read_faults c.args.shelf.now) (texts c.args.words.now)
    c.in-Ok-Generate.seed c.in-Ok-Generate.loops (c.in-Ok-Generate.ensures.ok ∙ ap (λ r. Some (asked r)) c.in-Ok-Generate.field-0-is)
    c.generate_answer.result c.generate_answer.ensures)
