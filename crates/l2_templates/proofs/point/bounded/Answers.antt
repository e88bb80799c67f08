use Rattle.std.proofs.Common.{◌≡◌, ◌∙◌, ◌<◌, ◌+◌, suc, ap, get_or, set, length, arith}
use Rattle.l2_templates.specs.Points.{bounded_loop}
use Rattle.l2_templates.proofs.Holding.{changed, changed_more}
use Rattle.l2_templates.proofs.point.bounded.Goals as goal

pub loop-at-preserved : goal.loop-at-preserved
loop-at-preserved c =
    let loops = c.deref_mut-at-items.result.now in
    let i = c.loop-at.at-index in
    let at = c.at-item.result in
    let inside : i < length loops = omega arith in
    let count : suc i ≡ i + 1 = omega arith in
    ap (set c.loop-at.at-items i) c.keep_bounded.ensures
    ∙ ap (λ items. set items i (bounded_loop (get_or items i at))) c.loop-at.invariant
    ∙ changed_more bounded_loop loops i at inside
    ∙ ap (λ n. changed bounded_loop n loops) count
