use Rattle.std.proofs.Common.{ap, ◌∙◌, arith}
use Rattle.std.proofs.lemmas.List.{drop_all}
use Rattle.l2_code.specs.Trees.{tree_of, items_of}
use Rattle.l2_code.specs.Sizes.{node_count, instructions}
use Rattle.l2_code.proofs.Items.{tree_of-Loop}
use Rattle.l2_listing.proofs.counting.+counts.Goals as goal

pub count_of-returns-in-Loop : goal.count_of-returns-in-Loop
count_of-returns-in-Loop t c =
    let e = ap (λ x. node_count x) (ap tree_of c.in-Loop.is ∙ tree_of-Loop c.in-Loop.field-0 c.in-Loop.items) in
    let d = ap (λ xs. instructions (items_of xs)) c.deref-in-Loop.ensures.value in
    omega arith

pub count-returns : goal.count-returns
count-returns t c =
    let e = ap (λ xs. instructions (items_of xs)) (drop_all c.loop-item.item-index c.args.items.now (omega arith)) in
    omega arith
