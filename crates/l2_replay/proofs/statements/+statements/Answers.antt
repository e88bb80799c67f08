use Rattle.std.proofs.Common.{true, None, ◌+◌, drop, sym, ap, ◌∙◌, arith, subst}
use Rattle.l2_runs.specs.Runs.{Run, on_go, done}
use Rattle.l2_program.specs.declared.checked.Checked.{Checked}
use Rattle.l2_program.specs.Checked.{Block, typed_tree, checked_tree, checked_trees}
use Rattle.l2_program.proofs.Trees.{checked_tree-Block}
use Rattle.l2_meaning.specs.Meaning.{Ending, Next, value, or_rest, while_turn, tree_loop, act, act_all}
use Rattle.l2_replay.specs.Reach.{value_of, setting, Does}
use Rattle.l2_replay.proofs.Results.{does_from, does_err, does_residual, does_then, does_else}
use Rattle.l2_replay.proofs.Weights.{weight_at, typed_at, items_from}
use Rattle.l2_replay.proofs.statements.+statements.Goals as goal

pub act-returns-in-Block-clause-does : goal.act-returns-in-Block-clause-does
act-returns-in-Block-clause-does t c =
    let g = setting c.args.p.now in
    does_from (λ u. Next) (act g true (checked_tree c.args.s.now)) (act g true (Block (checked_trees c.deref.result.now))) c.args.m.now c.args.m.now c.block.new.m c.block.result
    (ap (λ x. act g true (checked_tree x) c.args.m.now) c.in-Block.is ∙ ap (λ x. act g true x c.args.m.now) (checked_tree-Block c.in-Block.all) ∙ ap (λ xs. act g true (Block (checked_trees xs)) c.args.m.now) (sym c.deref.ensures.value))
    c.block.ensures.does

pub act-returns-then-holds-clause-does : goal.act-returns-then-holds-clause-does
act-returns-then-holds-clause-does t c =
    let g = setting c.args.p.now in
    does_then (λ u. Next) (act g true (checked_tree c.args.s.now)) (act g true (checked_tree c.in-If.s.value)) (done Next) (value g true (typed_tree c.in-If.e) c.args.m.now)
    c.args.m.now c.eval-in-If.new.m c.act.new.m (value_of c.in_ok-v-in-If.v) c.act.result
    (ap (λ x. act g true (checked_tree x) c.args.m.now) c.in-If.is) c.in_ok-v-in-If.ensures.does (sym c.holds.ensures ∙ c.if-holds.true)
    (subst (λ x. Does (λ u. Next) (act g true (checked_tree x)) c.eval-in-If.new.m c.act.new.m c.act.result) c.deref-then-holds.ensures c.act.ensures.does)

pub act-returns-then-holds-2-clause-does : goal.act-returns-then-holds-2-clause-does
act-returns-then-holds-2-clause-does t c =
    let g = setting c.args.p.now in
    does_then (λ u. Next) (act g true (checked_tree c.args.s.now)) (act g true (checked_tree c.in-IfElse.s.value)) (act g true (checked_tree c.in-IfElse.t.value)) (value g true (typed_tree c.in-IfElse.e) c.args.m.now)
    c.args.m.now c.eval-in-IfElse.new.m c.act-then-holds-2.new.m (value_of c.in_ok-v-in-IfElse.v) c.act-then-holds-2.result
    (ap (λ x. act g true (checked_tree x) c.args.m.now) c.in-IfElse.is) c.in_ok-v-in-IfElse.ensures.does (sym c.holds-in-IfElse.ensures ∙ c.if-holds-2.true)
    (subst (λ x. Does (λ u. Next) (act g true (checked_tree x)) c.eval-in-IfElse.new.m c.act-then-holds-2.new.m c.act-then-holds-2.result) c.deref-then-holds-2.ensures c.act-then-holds-2.ensures.does)

pub act-returns-else-holds-2-clause-does : goal.act-returns-else-holds-2-clause-does
act-returns-else-holds-2-clause-does t c =
    let g = setting c.args.p.now in
    does_else (λ u. Next) (act g true (checked_tree c.args.s.now)) (act g true (checked_tree c.in-IfElse.s.value)) (act g true (checked_tree c.in-IfElse.t.value)) (value g true (typed_tree c.in-IfElse.e) c.args.m.now)
    c.args.m.now c.eval-in-IfElse.new.m c.act-else-holds-2.new.m (value_of c.in_ok-v-in-IfElse.v) c.act-else-holds-2.result
    (ap (λ x. act g true (checked_tree x) c.args.m.now) c.in-IfElse.is) c.in_ok-v-in-IfElse.ensures.does (sym c.holds-in-IfElse.ensures ∙ c.if-holds-2.false)
    (subst (λ x. Does (λ u. Next) (act g true (checked_tree x)) c.eval-in-IfElse.new.m c.act-else-holds-2.new.m c.act-else-holds-2.result) c.deref-else-holds-2.ensures c.act-else-holds-2.ensures.does)

pub act-returns-in-While-clause-does : goal.act-returns-in-While-clause-does
act-returns-in-While-clause-does t c =
    let g = setting c.args.p.now in
    let loop : Checked → Run Ending = λ x. tree_loop g c.in-While.l (λ b. while_turn (value g b (typed_tree c.in-While.e)) (act g b (checked_tree x))) true in
    does_from (λ u. Next) (act g true (checked_tree c.args.s.now)) (loop c.deref-in-While.result.now) c.args.m.now c.args.m.now c.repeat.new.m c.repeat.result
    (ap (λ x. act g true (checked_tree x) c.args.m.now) c.in-While.is ∙ ap (λ x. loop x c.args.m.now) (sym c.deref-in-While.ensures)) c.repeat.ensures.does

pub act_each-act-requires : goal.act_each-act-requires
act_each-act-requires t c =
    let w = weight_at c.args.all.now c.loop-s.s-index c.s-item.result c.loop-s-test.true c.s-item.is in
    (omega arith, (c.loop-s.invariant.1, typed_at c.args.p.now c.args.all.now c.loop-s.s-index c.s-item.result c.loop-s-test.true c.s-item.is c.requires.typed))

pub act_each-returns-in_err-act-clause-does : goal.act_each-returns-in_err-act-clause-does
act_each-returns-in_err-act-clause-does t c =
    let g = setting c.args.p.now in
    let f = c.in_err-act.field-0.0 in
    let whole = act_all g true None (checked_trees c.args.all.now) in
    let rest = or_rest (λ from. act_all g true from (checked_trees (drop (c.loop-s.s-index + 1) c.args.all.now))) in
    does_residual (λ u. Next) whole c.args.m.now c.act.new.m c.from_residual.result f c.from_residual.ensures.0 c.from_residual.ensures.1
    (does_err {A = Unit {0}} {C = Unit {0}} (λ u. Next) (λ u. Next) whole (act g true (checked_tree c.s-item.result)) rest c.args.m.now c.loop-s.m c.act.new.m f
    (sym c.loop-s.invariant.0 ∙ ap (λ all. act_all g true None (checked_trees all) c.loop-s.m) (items_from c.args.all.now c.loop-s.s-index c.s-item.result c.loop-s-test.true c.s-item.is)) c.in_err-act.ensures.does)

pub act_each-loop-s-preserved : goal.act_each-loop-s-preserved
act_each-loop-s-preserved t c =
    let g = setting c.args.p.now in
    let rest = or_rest (λ from. act_all g true from (checked_trees (drop (c.loop-s.s-index + 1) c.args.all.now))) in
    let here = ap (λ all. act_all g true None (checked_trees all) c.loop-s.m) (items_from c.args.all.now c.loop-s.s-index c.s-item.result c.loop-s-test.true c.s-item.is) in
    (sym (sym c.loop-s.invariant.0 ∙ here ∙ ap (λ x. on_go x rest) c.in_ok-act.ensures.does), c.act.ensures.fits)
