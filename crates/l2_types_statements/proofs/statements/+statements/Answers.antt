use Rattle.std.proofs.Common.{◌≤◌, arith}
use Rattle.l2_tree.specs.Trees.{no_stmts, first_branch}
use Rattle.l2_tree.specs.Units.{stmt_tree, stmts_onto, branch_tree, branches_tree}
use Rattle.l2_types_statements.specs.Trees.{checked_tree, checked_onto, no_statements}
use Rattle.l2_types_statements.proofs.Rows.{more_items, more_branches, block_seen}
use Rattle.l2_types_statements.proofs.Weights.{weight, weights, weight_at, branch_weight, branches_weight, first_weight, branch_at}
use Rattle.l2_types_statements.proofs.statements.+statements.Goals as goal

pub branches-branch-alloc-requires : goal.branches-branch-alloc-requires
branches-branch-alloc-requires t c =
    let w : branch_weight (branch_tree c.args.first.now) ≤ branches_weight (branches_tree c.args.first.now c.args.rest.now) = first_weight c.args.first.now c.args.rest.now in
    (omega arith, tt)

pub branches-branch-alloc-requires-in-loop-b : goal.branches-branch-alloc-requires-in-loop-b
branches-branch-alloc-requires-in-loop-b t c =
    let w : branch_weight (branch_tree c.b-item.result) ≤ branches_weight (branches_tree c.args.first.now c.args.rest.now)
    = branch_at (first_branch (branch_tree c.args.first.now)) c.args.rest.now c.loop-b.b-index c.b-item.result c.loop-b-test.true c.b-item.is in
    (omega arith, tt)

pub branches-loop-b-preserved : goal.branches-loop-b-preserved
branches-loop-b-preserved t c =
    rw c.in_ok-push-2.ensures.items (more_branches c.args.w c.loop-b.b-index c.args.rest.now c.b-item.result c.loop-b.arms.items c.in_ok-arm-2.arm c.loop-b.table c.branch-alloc-in-loop-b.new.table _
    c.loop-b-test.true c.b-item.is c.in_ok-arm-2.ensures.ok c.loop-b.invariant)

pub items-statement-requires : goal.items-statement-requires
items-statement-requires t c =
    let w : weight (stmt_tree c.s-item.result) ≤ weights (stmts_onto no_stmts c.args.all.now) = weight_at no_stmts c.args.all.now c.loop-s.s-index c.s-item.result c.loop-s-test.true c.s-item.is in
    (omega arith, tt)

pub items-loop-s-preserved : goal.items-loop-s-preserved
items-loop-s-preserved t c =
    rw c.in_ok-push.ensures.items (more_items c.args.w c.loop-s.s-index c.args.all.now c.s-item.result c.loop-s.out.items c.in_ok-x.x c.loop-s.table c.statement.new.table _
    c.loop-s-test.true c.s-item.is c.in_ok-x.ensures.ok c.loop-s.invariant)

pub statement-returns-in_ok-inner-in-Block : goal.statement-returns-in_ok-inner-in-Block
statement-returns-in_ok-inner-in-Block t c = record {
  ok = block_seen c.args.w c.inside.result c.args.s.now c.in-Block.field-0 c.in-Block.all c.deref.result.now c.args.table.now c.enter.new.self c.items.new.table c.leave.new.self
      (checked_onto no_statements c.in_ok-inner-in-Block.inner.items) (checked_tree c.block.result) c.in_ok-outer-in-Block.outer.names c.in_ok-outer-in-Block.outer.tags c.in_ok-outer-in-Block.outer.level
      c.in-Block.is c.inside.ensures c.deref.ensures.value c.in_ok-outer-in-Block.ensures.ok c.in_ok-inner-in-Block.ensures.ok c.block.ensures
      c.in_ok-outer-in-Block.ensures.names c.in_ok-outer-in-Block.ensures.tags c.in_ok-outer-in-Block.ensures.level c.leave.ensures;
}
