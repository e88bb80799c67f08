use Rattle.std.proofs.Common.{length, sym, ap, ◌∙◌, arith}
use Rattle.std.specs.Prelude.{slice_get}
use Rattle.l2_strategy.proofs.Rows.{rows_step}
use Rattle.l2_strategy.proofs.places.Place.point.Goals as goal

pub loop-i-preserved : goal.loop-i-preserved
loop-i-preserved c =
    rows_step c.args.bounds.now c.self.inside.forms.items c.self.inside.indexes.items c.loop-i.i c.loop-i.rows c.push.new.self _ c.index-form.result.now c.bound_at-bound.result c.index-form.result.now c.index.result.now (omega (arith, c.loop-i-test.true, c.len-i-end.ensures))
    (ap (λ v. length v.indexes) c.self.view_is ∙ c.requires ∙ sym (ap (λ v. length v.forms) c.self.view_is)) c.index-form.ensures (c.bound_at-bound.ensures ∙ ap (λ j. slice_get c.args.bounds.now j) c.index.ensures) c.in_ok-push.ensures.ok c.loop-i.invariant
