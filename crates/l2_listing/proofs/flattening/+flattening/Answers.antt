use Rattle.std.proofs.Common.{◌≡◌, ℕ, suc, ◌-◌, ◌<◌, ◌++◌, sym, ap, ◌∙◌, arith, length}
use Rattle.l2_code.specs.Trees.{tree_of, items_of}
use Rattle.l2_code.specs.Sizes.{node_count, instructions}
use Rattle.l2_code.proofs.Items.{tree_of-Loop}
use Rattle.l2_listing.specs.Flat.{flat, flat_of}
use Rattle.l2_listing.proofs.Items.{weight, weights, weight_at, counts_behind}
use Rattle.l2_listing.proofs.Loops.{made}
use Rattle.l2_listing.proofs.flattening.+flattening.Goals as goal

pub flatten-flatten_item-requires : goal.flatten-flatten_item-requires
flatten-flatten_item-requires t c =
    let left : ℕ = length c.args.items.now - c.loop-i.i in
    let q : left ≡ suc (left - 1) = omega arith in
    let h : left - 1 < length c.args.items.now = omega arith in
    let w = weight_at c.args.items.now (left - 1) c.index-items-left.result h c.index-items-left.is in
    let n = counts_behind c.args.items.now left (left - 1) c.index-items-left.result q h c.index-items-left.is in
    (omega arith, omega (arith, c.loop-i.invariant.0))

pub flatten_item-flatten-requires-in-Loop : goal.flatten_item-flatten-requires-in-Loop
flatten_item-flatten-requires-in-Loop t c =
    let e = ap (λ x. node_count x) (ap tree_of c.in-Loop.is ∙ tree_of-Loop c.in-Loop.l c.in-Loop.items) in
    let w = ap (λ x. weight x) (ap tree_of c.in-Loop.is ∙ tree_of-Loop c.in-Loop.l c.in-Loop.items) in
    let d = ap (λ xs. instructions (items_of xs)) c.deref-in-Loop.ensures.value in
    let v = ap (λ xs. weights (items_of xs)) c.deref-in-Loop.ensures.value in
    (omega arith, omega (arith, c.in_ok-put-in-Loop.ensures.at))

pub flatten_item-put-requires-in-Loop : goal.flatten_item-put-requires-in-Loop
flatten_item-put-requires-in-Loop t c =
    let e = ap (λ x. node_count x) (ap tree_of c.in-Loop.is ∙ tree_of-Loop c.in-Loop.l c.in-Loop.items) in
    let d = ap (λ xs. instructions (items_of xs)) c.deref-in-Loop.ensures.value in
    omega (arith, c.in_ok-put-in-Loop.ensures.at, c.in_ok-flatten-in-Loop.ensures.at)

pub flatten_item-returns-in_ok-put-in-Loop-2-clause-at : goal.flatten_item-returns-in_ok-put-in-Loop-2-clause-at
flatten_item-returns-in_ok-put-in-Loop-2-clause-at t c =
    let e = ap (λ x. node_count x) (ap tree_of c.in-Loop.is ∙ tree_of-Loop c.in-Loop.l c.in-Loop.items) in
    let d = ap (λ xs. instructions (items_of xs)) c.deref-in-Loop.ensures.value in
    omega (arith, c.in_ok-put-in-Loop.ensures.at, c.in_ok-flatten-in-Loop.ensures.at, c.in_ok-put-in-Loop-2.ensures.at)

pub flatten_item-returns-in_ok-put-in-Loop-2-clause-later : goal.flatten_item-returns-in_ok-put-in-Loop-2-clause-later
flatten_item-returns-in_ok-put-in-Loop-2-clause-later t c =
    let at = c.put-in-Loop.new.self.at in
    let next = c.flatten-in-Loop.new.f.at in
    let ends = c.args.f.now.ends in
    let old = c.args.f.now.later in
    let closed = c.put.new.self.later in
    made c.in-Loop.l at next ends (items_of c.in-Loop.items.items) old closed c.flatten-in-Loop.new.f.later c.put-in-Loop.new.self.later
    c.in_ok-put-in-Loop-2.ensures.at c.in_ok-put-in-Loop.ensures.later
    (c.in_ok-flatten-in-Loop.ensures.later ∙ ap (λ e. flat next e (items_of c.deref-in-Loop.result.now) ++ closed) c.in_ok-put-in-Loop.ensures.ends ∙ ap (λ xs. flat next ends (items_of xs) ++ closed) c.deref-in-Loop.ensures.value)
    c.in_ok-put-in-Loop-2.ensures.later
    ∙ ap (λ x. flat_of at ends x ++ old) (sym (ap tree_of c.in-Loop.is ∙ tree_of-Loop c.in-Loop.l c.in-Loop.items))
