use Rattle.std.proofs.Common.{◌∙◌, ap, map}
use Rattle.l2_verdicts.specs.Verdicts.{forms_of}
use Rattle.l2_engine.proofs.Told.{verdict_of}
use Rattle.l2_engine.proofs.verdicts.verdict.Goals as goal

pub returns : goal.returns
returns g c =
    verdict_of c.new-engine.result.task c.args.program.now c.args.code.now c.args.sets.now _ _ (g.D.Domain.family c.args.domain.now) (g.D.Domain.bounds c.args.domain.now) c.strongest_law.ensures c.args.mode c.args.limit c.decide.result
    (c.new-engine.ensures.task ∙ c.new-task.ensures)
    (ap (map (λ f. f.items)) c.as_slice-3.ensures.value ∙ c.in_ok-forms.ensures ∙ ap (forms_of (g.D.Domain.family c.args.domain.now)) c.as_slice.ensures)
    c.thresholds.ensures c.decide.ensures.is
