use Rattle.std.proofs.Common.{arith, ap, sym, ◌∙◌, ◌+◌, ◌∷◌, drop, true, false}
use Rattle.std.proofs.lemmas.List.{drop_more}
use Rattle.l2_code.specs.Trees.{Loop, tree_of, items_of}
use Rattle.l2_code.proofs.Items.{tree_of-Block, tree_of-Loop}
use Rattle.l2_labels.specs.Spliced.{singles}
use Rattle.l2_labels.specs.Labels.{single, merged}
use Rattle.l2_labels.proofs.Steps.{loop_step, finish, block_end, one_end, do_stays, loop_stays, block_stays, rest_done}
use Rattle.l2_labels.proofs.labels.+labels.Goals as goal
use Rattle.l2_labels.proofs.labels.+labels.Goals.{merged-in-Block+then-inside+in_ok-around-in-Block+in_ok-rest-in-Block+in_ok-append-in-Block, merged-in-Block+else-inside+in_ok-single-in-Block+in_ok-push-in-Block, merged-in-Do+in_ok-single-in-Do+in_ok-push-in-Do, merged-in-Loop+in_ok-single-in-Loop+in_ok-push-in-Loop}

pub merged-loop-item-preserved : goal.merged-loop-item-preserved
merged-loop-item-preserved t c =
    let i = c.loop-item.item-index in
    let xs = c.in-Some.before.now in
    let x = c.item-item.result in
    let dx = drop_more xs i x (omega arith) ∙ (λ j. sym c.item-item.is j ∷ drop (i + 1) xs) in
    loop_step c.args.stays.now c.loop-item.all.items c.push.new.self.items x c.in_ok-single.field-0 (drop i xs) (drop (i + 1) xs) (singles c.args.stays.now (items_of xs))
    c.loop-item.invariant c.in_ok-push.ensures.items c.in_ok-single.ensures dx

pub merged-returns : goal.merged-returns
merged-returns t c =
    let stays = c.args.stays.now in
    let inside = c.args.inside in
    let old = c.loop-item.all.items in
    let all = c.match-last.all.items in
    let last = tree_of c.in-Some.last.now in
    finish stays inside c.args.items.now c.in-Some.before.now old all c.in-Some.last.now c.in-Some.ensures.cases.0
    (rest_done stays old c.in-Some.before.now c.loop-item.item-index c.loop-item-test.false c.loop-item.invariant)
    (elim c.match-last.branch [
      | merged-in-Block+then-inside+in_ok-around-in-Block+in_ok-rest-in-Block+in_ok-append-in-Block w ↦
          block_end stays inside old all w.in_ok-rest-in-Block.rest.items w.in-Block.items.items w.in_ok-around-in-Block.around.items last
          (ap (λ v. v.items) w.all-is ∙ w.in_ok-append-in-Block.ensures.items) w.if-inside.true (ap tree_of w.in-Block.is ∙ tree_of-Block w.in-Block.items)
          w.in_ok-around-in-Block.ensures (w.in_ok-rest-in-Block.ensures ∙ (λ j. merged (w.deref-then-inside.ensures.value j) true (items_of (w.deref.ensures.value j))))
      | merged-in-Block+else-inside+in_ok-single-in-Block+in_ok-push-in-Block w ↦
          one_end stays inside old all w.in_ok-single-in-Block.field-0 last (ap (λ v. v.items) w.all-is ∙ w.in_ok-push-in-Block.ensures.items) w.in_ok-single-in-Block.ensures
          (block_stays stays inside last (items_of w.in-Block.items.items) w.if-inside.false (ap tree_of w.in-Block.is ∙ tree_of-Block w.in-Block.items))
      | merged-in-Do+in_ok-single-in-Do+in_ok-push-in-Do w ↦
          one_end stays inside old all w.in_ok-single-in-Do.field-0 last (ap (λ v. v.items) w.all-is ∙ w.in_ok-push-in-Do.ensures.items) w.in_ok-single-in-Do.ensures
          (do_stays stays inside last w.in-Do.field-0.value (ap tree_of w.in-Do.is))
      | merged-in-Loop+in_ok-single-in-Loop+in_ok-push-in-Loop w ↦
          one_end stays inside old all w.in_ok-single-in-Loop.field-0 last (ap (λ v. v.items) w.all-is ∙ w.in_ok-push-in-Loop.ensures.items) w.in_ok-single-in-Loop.ensures
          (loop_stays stays inside last w.in-Loop.field-0 (items_of w.in-Loop.field-1.items) (ap tree_of w.in-Loop.is ∙ tree_of-Loop w.in-Loop.field-0 w.in-Loop.field-1))
    ])

pub single-returns-in_ok-all-in-Loop : goal.single-returns-in_ok-all-in-Loop
single-returns-in_ok-all-in-Loop t c =
    let l = c.in-Loop.number in
    let stays = c.args.stays.now in
    tree_of-Loop l c.in_ok-all-in-Loop.all
    ∙ ap (λ xs. Loop l xs) (c.in_ok-all-in-Loop.ensures ∙ ap (λ xs. merged stays false (items_of xs)) c.deref-in-Loop.ensures.value)
    ∙ ap (λ x. single stays x) (sym (ap tree_of c.in-Loop.is ∙ tree_of-Loop l c.in-Loop.items))
