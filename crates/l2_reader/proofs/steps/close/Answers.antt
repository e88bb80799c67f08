use Rattle.std.proofs.Common.{◌∙◌}
use Rattle.l2_reader.proofs.Turning.{closed_on, spelt_on}
use Rattle.l2_reader.proofs.steps.close.Goals as goal

pub loop-run-preserved : goal.loop-run-preserved
loop-run-preserved c =
    let i = c.loop-run.invariant in
    let leads = c.in-Ok.ensures.ok in (
      i.0 ∙ closed_on c.loop-run.run c.in-Ok.outer c.loop-run.stack c.in-Ok.rest leads.0,
      (leads.1, leads.2),
      spelt_on c.loop-run.run c.in-Ok.outer c.loop-run.stack c.in-Ok.rest leads.0 ∙ i.2,
    )
