use Rattle.std.proofs.Common.{Err, ap, ◌∙◌, refl, subst}
use Rattle.l2_outside.specs.Outside.{grown, GrewByPrefix}
use Rattle.l2_answer.specs.Stores.{stored_of}
use Rattle.l2_answer.specs.Answers.{whole, cut_off, unstored}
use Rattle.twols.proofs.run.deliver.Goals as goal

pub returns-in-Ok-write_text-clause-prints : goal.returns-in-Ok-write_text-clause-prints
returns-in-Ok-write_text-clause-prints g c = λ before now words tells.
    whole c.args.told.now.answer.output.items (stored_of c.args.told.now.stored) tells c.in-Ok.ensures.ok
    (c.in-Ok-write_text.ensures.ok ∙ ap (λ bytes. grown (g.K.Sink.written c.args.out.now) bytes) c.as_slice.ensures.value)

pub returns-in-Err-clause-prints : goal.returns-in-Err-clause-prints
returns-in-Err-clause-prints g c = λ before now words tells.
    cut_off c.args.told.now.answer.status c.args.told.now.answer.output.items (stored_of c.args.told.now.stored) tells refl c.in-Ok.ensures.ok
    (subst (λ text. GrewByPrefix (g.K.Sink.written c.args.out.now) (g.K.Sink.written c.write_text.new.out) text) c.as_slice.ensures.value c.in-Err.ensures.prefix)

pub returns-in-Err-Failed-clause-prints : goal.returns-in-Err-Failed-clause-prints
returns-in-Err-Failed-clause-prints g c = λ before now words tells.
    unstored c.args.told.now.answer.status c.args.told.now.answer.output.items (stored_of c.args.told.now.stored) tells refl
    (c.in-Err-Failed.ensures.others (ap Err c.in-Err-Failed.field-0-is)) refl
