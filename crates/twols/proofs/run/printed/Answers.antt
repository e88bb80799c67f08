use Rattle.std.proofs.Common.{◌⊎◌, subst, sym}
use Rattle.l2_outside.specs.Outside.{Rose}
use Rattle.l2_words.specs.Line.{texts}
use Rattle.l2_answer.specs.Answers.{Prints, Tells}
use Rattle.l2_answer.specs.Stores.{stored_of}
use Rattle.twols.proofs.run.printed.Goals as goal

pub returns-clause-prints : goal.returns-clause-prints
returns-clause-prints g c =
    let files = g.H.Shelf.files c.args.shelf.now in
    let after = g.H.Shelf.files c.deliver.new.shelf in
    let before = g.H.Shelf.read_faults c.args.shelf.now in
    let now = g.H.Shelf.read_faults c.answer.new.shelf in
    let words = texts c.args.words.now in
    let status = c.deliver.result in
    let old = g.K.Sink.written c.args.out.now in
    let new = g.K.Sink.written c.deliver.new.out in
    subst (λ n. Prints files after before n words status old new) (sym c.deliver.ensures.read_faults)
    (subst (λ f. Prints f after before now words status old new) c.in-Ok.ensures.files
    (c.deliver.ensures.prints before now words (subst (λ f. Tells f before now words c.in-Ok.told) (sym c.in-Ok.ensures.files) c.in-Ok.ensures.answers)))

pub returns-clause-write_fault : goal.returns-clause-write_fault
returns-clause-write_fault g c e =
    let law = c.status_law.ensures (g.H.Shelf.files c.args.shelf.now) (g.H.Shelf.read_faults c.args.shelf.now) (g.H.Shelf.read_faults c.answer.new.shelf) (texts c.args.words.now) c.in-Ok.told.answer.status c.in-Ok.told.answer.output.items (stored_of c.in-Ok.told.stored) c.in-Ok.ensures.answers in
    subst (λ n. Rose n (g.H.Shelf.write_faults c.deliver.new.shelf) ⊎ Rose (g.K.Sink.faults c.args.out.now) (g.K.Sink.faults c.deliver.new.out)) c.in-Ok.ensures.write_faults (c.deliver.ensures.write_fault e law.0)
