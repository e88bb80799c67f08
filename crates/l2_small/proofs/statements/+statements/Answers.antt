use Rattle.std.proofs.Common.{◌≡◌, ◌+◌, suc, arith, sym, ap, ◌∙◌, Some, drop}
use Rattle.l2_tree.specs.Trees.{no_stmts}
use Rattle.l2_tree.specs.Units.{stmt_tree, stmts_onto, branches_tree}
use Rattle.l2_small.specs.SmallTrees.{none, also, small_stmt_tree, small_stmts_onto}
use Rattle.l2_small.specs.SmallForm.{small_stmts, small_block, small_branch}
use Rattle.l2_small.proofs.SmallTrees.{small_stmt_tree-Block, small_stmts_onto-end, made_as}
use Rattle.l2_small.proofs.Steps.{some_then, none_then, some_map, none_map}
use Rattle.l2_small.proofs.Lists.{small_block-Block, small_stmt-If, small_stmt-IfElse}
use Rattle.l2_small.proofs.Rows.{items_after, items_onto, item_fails, item_follows}
use Rattle.l2_small.proofs.statements.+statements.Goals as goal

pub statements-loop-s-init : goal.statements-loop-s-init
statements-loop-s-init t c = rw c.new-out.ensures.items (sym (items_onto c.args.names.now no_stmts c.args.all.now))

pub statements-loop-s-preserved : goal.statements-loop-s-preserved
statements-loop-s-preserved t c =
    let n : c.loop-s.s-index + 1 ≡ suc c.loop-s.s-index = omega arith in
    let more = ap (small_stmts_onto none) c.in_ok-push.ensures.items ∙ small_stmts_onto-end none c.loop-s.out.items c.in_ok-next.next in
    ap (λ r. items_after c.args.names.now (Some r) (drop (c.loop-s.s-index + 1) c.args.all.now)) more
    ∙ ap (λ k. items_after c.args.names.now (Some (also (small_stmts_onto none c.loop-s.out.items) (small_stmt_tree c.in_ok-next.next))) (drop k c.args.all.now)) n
    ∙ item_follows _ _ _ _ _ _ _ c.loop-s.invariant c.loop-s-test.true c.s-item.is c.in_ok-next.ensures.ok

pub statements-returns-in_err-next-clause-not_small : goal.statements-returns-in_err-next-clause-not_small
statements-returns-in_err-next-clause-not_small t c = λ h. item_fails _ _ _ _ _ _ c.loop-s.invariant c.loop-s-test.true c.s-item.is (c.in_err-next.ensures.not_small (grind arith))

pub block-returns-in_err-items-in-Block-clause-not_small : goal.block-returns-in_err-items-in-Block-clause-not_small
block-returns-in_err-items-in-Block-clause-not_small t c = λ h.
    small_block-Block _ _ _ _ c.in-Block.is
    ∙ none_map _ _ (ap (λ xs. small_stmts c.args.names.now (stmts_onto no_stmts xs)) (sym c.deref.ensures.value) ∙ c.in_err-items-in-Block.ensures.not_small (grind arith))

pub block-returns-in_ok-items-in-Block-clause-ok : goal.block-returns-in_ok-items-in-Block-clause-ok
block-returns-in_ok-items-in-Block-clause-ok t c =
    small_block-Block _ _ _ _ c.in-Block.is
    ∙ some_map _ _ _ (ap (λ xs. small_stmts c.args.names.now (stmts_onto no_stmts xs)) (sym c.deref.ensures.value) ∙ c.in_ok-items-in-Block.ensures.ok)
    ∙ ap Some (sym (small_stmt_tree-Block c.in_ok-items-in-Block.items))

pub statement-returns-in_err-first-in-If-clause-not_small : goal.statement-returns-in_err-first-in-If-clause-not_small
statement-returns-in_err-first-in-If-clause-not_small t c = λ h.
    small_stmt-If _ _ _ _ c.in-If.is
    ∙ none_map _ _ (ap (λ xs. small_branch c.args.names.now (branches_tree c.in-If.only xs)) (sym c.deref-in-If.ensures.value) ∙ c.in_err-first-in-If.ensures.not_small (grind arith))

pub statement-returns-in_ok-first-in-If-clause-ok : goal.statement-returns-in_ok-first-in-If-clause-ok
statement-returns-in_ok-first-in-If-clause-ok t c = made_as c.if_then.result _ _
    (small_stmt-If _ _ _ _ c.in-If.is
    ∙ some_map _ _ _ (ap (λ xs. small_branch c.args.names.now (branches_tree c.in-If.only xs)) (sym c.deref-in-If.ensures.value) ∙ c.in_ok-first-in-If.ensures.ok))
    c.if_then.ensures.ok

pub statement-returns-in_err-first-in-IfElse-clause-not_small : goal.statement-returns-in_err-first-in-IfElse-clause-not_small
statement-returns-in_err-first-in-IfElse-clause-not_small t c = λ h.
    small_stmt-IfElse _ _ _ _ _ c.in-IfElse.is
    ∙ none_then _ _ (ap (λ xs. small_branch c.args.names.now (branches_tree c.in-IfElse.only xs)) (sym c.deref-in-IfElse.ensures.value) ∙ c.in_err-first-in-IfElse.ensures.not_small (grind arith))

pub statement-returns-in_ok-last-in-IfElse-clause-ok : goal.statement-returns-in_ok-last-in-IfElse-clause-ok
statement-returns-in_ok-last-in-IfElse-clause-ok t c = made_as c.if_else.result _ _
    (small_stmt-IfElse _ _ _ _ _ c.in-IfElse.is
    ∙ some_then _ _ _ (ap (λ xs. small_branch c.args.names.now (branches_tree c.in-IfElse.only xs)) (sym c.deref-in-IfElse.ensures.value) ∙ c.in_ok-first-in-IfElse.ensures.ok)
    ∙ some_map _ _ _ (ap (λ s. small_block c.args.names.now (stmt_tree s)) (sym c.deref-in-IfElse-2.ensures) ∙ c.in_ok-last-in-IfElse.ensures.ok))
    c.if_else.ensures.ok
