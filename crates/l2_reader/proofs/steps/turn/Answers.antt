use Rattle.std.proofs.Common.{◌∙◌, sym}
use Rattle.l2_reader.proofs.Turning.{turned_on, closed_on, spelt_on}
use Rattle.l2_reader.proofs.steps.turn.Goals as goal

pub loop-alloc-preserved : goal.loop-alloc-preserved
loop-alloc-preserved c =
    let i = c.loop-alloc.invariant in
    let leads = c.in-Ok-ended.ensures.ok in
    let run = c.loop-alloc.run in
    let stack = c.loop-alloc.stack in
    let outer = c.in-Ok-ended.outer in
    let rest = c.in-Ok-ended.rest in (
      i.0 ∙ turned_on run outer stack rest c.args.token i.2 (sym c.goes_on.ensures ∙ c.if-goes_on.false) (sym c.has_begin.ensures ∙ c.if-has_begin.false) leads.0,
      i.1 ∙ closed_on run outer stack rest leads.0,
      (leads.1, leads.2),
      spelt_on run outer stack rest leads.0 ∙ i.3,
    )
