use Rattle.std.proofs.Common.{◌∙◌, Err, refl, sym, ap, subst}
use Rattle.l2_outside.specs.Outside.{GrewByPrefix, KeepsOthers, Rose, grown}
use Rattle.l2_sat.specs.Commands.{texts}
use Rattle.l2_sat.specs.Answers.{Answers, cut_off, file_of, unwritten, whole, with_written}
use Rattle.l2_sat.proofs.run.sat_run.Goals as goal

pub returns-in-Ok-write_text-clause-runs : goal.returns-in-Ok-write_text-clause-runs
returns-in-Ok-write_text-clause-runs g c =
    let a = c.in-Ok.answer in
    let w = file_of a.written in
    whole a.output.items w
    (subst (λ n. Answers (g.H.Shelf.files c.args.shelf.now) (g.H.Shelf.read_faults c.args.shelf.now) n (texts c.args.words.now) a.status a.output.items w) (sym c.keep.ensures.read_faults) c.in-Ok.ensures.answers)
    (c.in-Ok-keep.ensures.ok ∙ ap (λ files. with_written files w) c.in-Ok.ensures.files)
    (c.in-Ok-write_text.ensures.ok ∙ ap (λ bytes. grown (g.K.Sink.written c.args.out.now) bytes) c.as_slice.ensures.value)

pub returns-in-Ok-keep-clause-runs : goal.returns-in-Ok-keep-clause-runs
returns-in-Ok-keep-clause-runs g c =
    let a = c.in-Ok.answer in
    let w = file_of a.written in
    cut_off a.status a.output.items w
    (subst (λ n. Answers (g.H.Shelf.files c.args.shelf.now) (g.H.Shelf.read_faults c.args.shelf.now) n (texts c.args.words.now) a.status a.output.items w) (sym c.keep.ensures.read_faults) c.in-Ok.ensures.answers)
    refl c.in-Err.ensures.failed
    (c.in-Ok-keep.ensures.ok ∙ ap (λ files. with_written files w) c.in-Ok.ensures.files)
    (subst (λ text. GrewByPrefix (g.K.Sink.written c.args.out.now) (g.K.Sink.written c.write_text.new.out) text) c.as_slice.ensures.value c.in-Err.ensures.prefix)

pub returns-in-Err-Failed-clause-runs : goal.returns-in-Err-Failed-clause-runs
returns-in-Err-Failed-clause-runs g c =
    let a = c.in-Ok.answer in
    let (rose, (w, is, keeps)) = c.in-Err-Failed.ensures.failed (ap Err c.in-Err-Failed.field-0-is) in
    unwritten a.status a.output.items w
    (subst (Answers (g.H.Shelf.files c.args.shelf.now) (g.H.Shelf.read_faults c.args.shelf.now) (g.H.Shelf.read_faults c.keep.new.shelf) (texts c.args.words.now) a.status a.output.items) is
    (subst (λ n. Answers (g.H.Shelf.files c.args.shelf.now) (g.H.Shelf.read_faults c.args.shelf.now) n (texts c.args.words.now) a.status a.output.items (file_of a.written)) (sym c.keep.ensures.read_faults) c.in-Ok.ensures.answers))
    refl
    (subst (λ n. Rose n (g.H.Shelf.write_faults c.keep.new.shelf)) c.in-Ok.ensures.write_faults rose)
    (subst (λ files. KeepsOthers files (g.H.Shelf.files c.keep.new.shelf) w.name) c.in-Ok.ensures.files keeps)
    refl
