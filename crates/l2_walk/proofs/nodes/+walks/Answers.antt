use Rattle.std.proofs.Common.{arith, ◌≡◌, ◌∙◌, ap, sym, refl, ◌+◌, ◌∷◌, drop, Some}
use Rattle.std.proofs.lemmas.List.{drop_all, drop_more}
use Rattle.l2_code.specs.Trees.{Loop, tree_of, items_of}
use Rattle.l2_code.proofs.Items.{tree_of-Block, tree_of-Loop}
use Rattle.l2_ssa.specs.Views.{kind_of}
use Rattle.l2_walker.specs.Made.{state_of, setting, temps_of}
use Rattle.l2_walk.specs.Nodes.{after_node, after_nodes, turns_left}
use Rattle.l2_walk.proofs.Coding.{nodes_more}
use Rattle.l2_walk.proofs.Turning.{loop_is, copy_step, entered_copies}
use Rattle.l2_walk.proofs.Blocks.{block_steps}
use Rattle.l2_walk.proofs.nodes.+walks.Goals as goal

pub node-loop-left-init : goal.node-loop-left-init
node-loop-left-init t c =
    let s = state_of c.args.walker.now in
    let l = c.in-Loop.number in
    let all = items_of c.in-Loop.items.items in
    let w = c.in_ok-turns-in-Loop.ensures.turns in
    let state = c.in_ok-turns-in-Loop.ensures.state in
    let kind = (setting s).kind l in
    let copies = c.copies-left.ensures ∙ ap (λ t. t.copies) state ∙ entered_copies s kind l in
    (λ i. turns_left (state i) (w.number i) all (w.kind i) (w.back i) (w.counting i) (w.temps i) (copies i))
    ∙ loop_is s l all c.args.counting kind refl
    ∙ (λ i. after_node s c.args.counting (Loop (sym w.number i) all))

pub node-loop-left-preserved : goal.node-loop-left-preserved
node-loop-left-preserved t c =
    let s = state_of c.loop-left.walker in
    let s1 = state_of c.enter_turn.new.walker in
    let u = c.in_ok-turns-in-Loop.turns in
    let e2 = c.in_ok-nodes-in-Loop.ensures ∙ ap (λ xs. after_nodes s1 c.in_ok-turn-in-Loop.turn.counting (items_of xs)) c.deref-in-loop-left.ensures.value in
    copy_step s s1 (state_of c.nodes-in-loop-left.new.walker) (state_of c.leave_turn.new.walker) u.number (items_of c.in-Loop.items.items) (kind_of (Some u.kind)) u.back u.counting c.in_ok-turn-in-Loop.turn.counting
    (temps_of u.temps.items) c.in_ok-turn-in-Loop.turn.old.items c.loop-left.left _ (omega (arith, c.loop-left-test.true)) refl
    c.in_ok-turn-in-Loop.ensures.state c.in_ok-turn-in-Loop.ensures.counting c.in_ok-turn-in-Loop.ensures.old e2 c.in_ok-leave_turn-in-Loop.ensures
    ∙ c.loop-left.invariant

pub node-returns-in_ok-label-in-Block : goal.node-returns-in_ok-label-in-Block
node-returns-in_ok-label-in-Block t c =
    let s = state_of c.args.walker.now in
    let s2 = state_of c.push_frame.new.self in
    let e3 = c.in_ok-nodes-in-Block.ensures ∙ ap (λ xs. after_nodes s2 c.args.counting (items_of xs)) c.deref-in-Block.ensures.value in
    block_steps s (state_of c.take_entries-outer.new.self) s2 (state_of c.nodes.new.walker) (state_of c.pop_frame.new.self) (state_of c.put_entries-inner.new.self) (state_of c.label.new.walker) (state_of c.set_temps.new.self)
    c.args.counting (items_of c.in-Block.items.items) c.take_entries-outer.result.items c.put_entries-inner.result.items (temps_of c.in_ok-temps-in-Block.temps.items)
    c.take_entries-outer.ensures.state c.take_entries-outer.ensures.entries c.in_ok-temps-in-Block.ensures c.in_ok-push_frame-in-Block.ensures e3 c.pop_frame.ensures c.put_entries-inner.ensures.entries
    c.put_entries-inner.ensures.state c.in_ok-label-in-Block.ensures c.set_temps.ensures
    ∙ ap (λ x. after_node s c.args.counting x) (sym (ap tree_of c.in-Block.is ∙ tree_of-Block c.in-Block.items))

pub node-returns-after-loop-left : goal.node-returns-after-loop-left
node-returns-after-loop-left t c =
    let s = state_of c.loop-left.walker in
    let u = c.in_ok-turns-in-Loop.turns in
    let all = items_of c.in-Loop.items.items in
    let none : c.loop-left.left ≡ 0 = omega (arith, c.loop-left-test.false) in
    c.set_path.ensures
    ∙ ap (λ n. turns_left s u.number all (kind_of (Some u.kind)) u.back u.counting (temps_of u.temps.items) n) (sym none)
    ∙ c.loop-left.invariant
    ∙ ap (λ x. after_node (state_of c.args.walker.now) c.args.counting x)
    (ap (λ l. Loop l all) c.in_ok-turns-in-Loop.ensures.turns.number ∙ sym (ap tree_of c.in-Loop.is ∙ tree_of-Loop c.in-Loop.number c.in-Loop.items))

pub nodes-loop-item-preserved : goal.nodes-loop-item-preserved
nodes-loop-item-preserved t c =
    let s = state_of c.loop-item.walker in
    let i = c.loop-item.item-index in
    let xs = c.args.items.now in
    let x = c.item-item.result in
    let dx = drop_more xs i x (omega arith) ∙ (λ j. sym c.item-item.is j ∷ drop (i + 1) xs) in
    let k = c.in_ok-node.ensures in
    (λ j. after_nodes (k j) c.args.counting (items_of (drop (i + 1) xs)))
    ∙ sym (nodes_more s c.args.counting (tree_of x) (items_of (drop (i + 1) xs)))
    ∙ (λ j. after_nodes s c.args.counting (items_of (sym dx j)))
    ∙ c.loop-item.invariant

pub nodes-returns : goal.nodes-returns
nodes-returns t c =
    ap (λ xs. after_nodes (state_of c.loop-item.walker) c.args.counting (items_of xs)) (sym (drop_all c.loop-item.item-index c.args.items.now (omega arith)))
    ∙ c.loop-item.invariant
