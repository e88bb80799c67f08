use Rattle.std.proofs.Common.{arith, ◌≡◌, ◌∙◌, ap, sym, ◌++◌, ◌+◌, ◌∷◌, [], drop}
use Rattle.std.proofs.lemmas.List.{append-nil, drop_all, drop_more}
use Rattle.l2_ssa.specs.Walks.{merge_slots}
use Rattle.l2_walk_turns.specs.Labels.{cells_merged}
use Rattle.l2_walker.specs.Made.{state_of, setting, extended}
use Rattle.l2_walk_turns.proofs.Stepping.{object_step, no_objects, no_object_steps}
use Rattle.l2_walk_turns.proofs.merges.all_cells.Goals as goal
use Rattle.l2_walk_turns.proofs.merges.all_cells.Goals.{then-loop-i-test+else-i-own, else-loop-i-test}

pub loop-i-preserved : goal.loop-i-preserved
loop-i-preserved c =
    let inv = c.loop-i.invariant in
    let s = state_of c.loop-i.walker in
    let g = setting (state_of c.args.walker.now) in
    let i = c.loop-i.i in
    let o = c.loop-i.object in
    let xs = c.args.brought.now in
    let ys = c.args.own.now in
    let dx = drop_more xs i c.index-brought-i.result (omega arith) ∙ (λ j. sym c.index-brought-i.is j ∷ drop (i + 1) xs) in
    let dy = drop_more ys i c.index-own-i.result (omega arith) ∙ (λ j. sym c.index-own-i.is j ∷ drop (i + 1) ys) in
    let r = object_step g s (state_of c.merged_cells.new.walker) c.loop-i.all.items _ _ _ _ c.in_ok-cells.cells.items (state_of c.args.walker.now).walk.path s.walk.path c.args.entry o
    c.types-types.result.now c.cells.result.now c.cells-in-loop-i.result.now c.index-brought-i.result c.index-own-i.result (drop (i + 1) xs) (drop (i + 1) ys) (drop i xs) (drop i ys) inv dx dy
    (c.types-types.ensures ∙ ap (λ k. k.types.objects o) inv.3) c.cells.ensures c.cells-in-loop-i.ensures (ap (λ w. w.path) inv.2) c.in_ok-cells.ensures.cells c.in_ok-cells.ensures.steps in
    (ap (λ t. t ++ cells_merged g (state_of c.args.walker.now).walk.path c.args.entry (state_of c.merged_cells.new.walker).names (o + 1) (drop (i + 1) xs) (drop (i + 1) ys)) (c.in_ok-push.ensures.items ∙ ap (λ t. c.loop-i.all.items ++ t ∷ []) c.new.ensures) ∙ r.0, r.1, r.2, r.3)

pub returns-clause-cells : goal.returns-clause-cells
returns-clause-cells c =
    let g = setting (state_of c.args.walker.now) in
    let p = (state_of c.args.walker.now).walk.path in
    let n = (state_of c.loop-i.walker).names in
    let i = c.loop-i.i in
    let none : cells_merged g p c.args.entry n c.loop-i.object (drop i c.args.brought.now) (drop i c.args.own.now) ≡ [] = elim c.loop-i-test.branch [
      | then-loop-i-test+else-i-own w ↦ ap (λ ys. cells_merged g p c.args.entry n c.loop-i.object (drop i c.args.brought.now) ys) (drop_all i c.args.own.now (omega arith)) ∙ no_objects g p c.args.entry n c.loop-i.object (drop i c.args.brought.now)
      | else-loop-i-test w ↦ ap (λ xs. cells_merged g p c.args.entry n c.loop-i.object xs (drop i c.args.own.now)) (drop_all i c.args.brought.now (omega arith))
    ] in
    sym (append-nil c.loop-i.all.items) ∙ ap (λ t. c.loop-i.all.items ++ t) (sym none) ∙ c.loop-i.invariant.0

pub returns-clause-steps : goal.returns-clause-steps
returns-clause-steps c =
    let g = setting (state_of c.args.walker.now) in
    let p = (state_of c.args.walker.now).walk.path in
    let i = c.loop-i.i in
    let none : merge_slots g p c.args.entry c.loop-i.object (drop i c.args.brought.now) (drop i c.args.own.now) ≡ [] = elim c.loop-i-test.branch [
      | then-loop-i-test+else-i-own w ↦ ap (λ ys. merge_slots g p c.args.entry c.loop-i.object (drop i c.args.brought.now) ys) (drop_all i c.args.own.now (omega arith)) ∙ no_object_steps g p c.args.entry c.loop-i.object (drop i c.args.brought.now)
      | else-loop-i-test w ↦ ap (λ xs. merge_slots g p c.args.entry c.loop-i.object xs (drop i c.args.own.now)) (drop_all i c.args.brought.now (omega arith))
    ] in
    ap (λ t. extended (state_of c.loop-i.walker) t) (sym none) ∙ c.loop-i.invariant.1
