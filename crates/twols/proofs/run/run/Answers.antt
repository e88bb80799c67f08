use Rattle.std.proofs.Common.{subst}
use Rattle.l2_words.specs.Line.{texts}
use Rattle.l2_answer.specs.Answers.{Prints}
use Rattle.twols.proofs.run.run.Goals as goal

pub returns-clause-checked : goal.returns-clause-checked
returns-clause-checked g c = λ file certificate jobs asks fine.
    let files = g.H.Shelf.files c.args.shelf.now in
    let after = g.H.Shelf.files c.printed.new.shelf in
    let before = g.H.Shelf.read_faults c.args.shelf.now in
    let now = g.H.Shelf.read_faults c.printed.new.shelf in
    let words = texts c.args.words.now in
    let old = g.K.Sink.written c.args.out.now in
    let new = g.K.Sink.written c.printed.new.out in
    c.checked_law.ensures files after before now words old new file certificate jobs asks
    (subst (λ s. Prints files after before now words s old new) fine c.printed.ensures.prints)

pub returns-clause-verified : goal.returns-clause-verified
returns-clause-verified g c = λ file unwind domain certificate asks decided.
    let files = g.H.Shelf.files c.args.shelf.now in
    let after = g.H.Shelf.files c.printed.new.shelf in
    let before = g.H.Shelf.read_faults c.args.shelf.now in
    let now = g.H.Shelf.read_faults c.printed.new.shelf in
    let words = texts c.args.words.now in
    let old = g.K.Sink.written c.args.out.now in
    let new = g.K.Sink.written c.printed.new.out in
    c.verified_law.ensures files after before now words c.printed.result old new file unwind domain certificate asks c.printed.ensures.prints decided

pub returns-clause-terminated : goal.returns-clause-terminated
returns-clause-terminated g c = λ file unwind domain certificate asks fine.
    let files = g.H.Shelf.files c.args.shelf.now in
    let after = g.H.Shelf.files c.printed.new.shelf in
    let before = g.H.Shelf.read_faults c.args.shelf.now in
    let now = g.H.Shelf.read_faults c.printed.new.shelf in
    let words = texts c.args.words.now in
    let old = g.K.Sink.written c.args.out.now in
    let new = g.K.Sink.written c.printed.new.out in
    c.terminated_law.ensures files after before now words old new file unwind domain certificate asks
    (subst (λ s. Prints files after before now words s old new) fine c.printed.ensures.prints)
