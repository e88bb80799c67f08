use Rattle.std.proofs.Common.{◌≡◌, ◌+◌, ◌*◌, Some, map, drop}
use Rattle.l2_small.specs.SmallTrees.{none, small_stmt_tree, small_stmts_onto}
use Rattle.l2_program.specs.Checked.{checked_tree}
use Rattle.l2_small_check.specs.Elaboration.{items}
use Rattle.l2_small_check.specs.Tables.{elaborated, Keeps}
use Rattle.l2_small_check.proofs.Rows.{items_after}
use Rattle.l2_small_check.proofs.Weights.{weight, weights}
use Rattle.l2_small_check.proofs.statements.+statements.Given as goal

abbrev pub decreases-item : goal.decreases-item
decreases-item l = 3 * weight (small_stmt_tree l.s.now)

abbrev pub decreases-body : goal.decreases-body
decreases-body l = 3 * weight (small_stmt_tree l.s.now) + 1

abbrev pub decreases-items : goal.decreases-items
decreases-items l = 3 * weights (small_stmts_onto none l.all.now) + 1

abbrev pub decreases-block : goal.decreases-block
decreases-block l = 3 * weights (small_stmts_onto none l.all.now) + 2

abbrev pub invariant-items-loop-s : goal.invariant-items-loop-s
invariant-items-loop-s l = record {
  keeps : Keeps l.initial.table.scope l.table.scope;
  so_far : items_after (Some (elaborated (map checked_tree l.out.items) l.table)) (drop l.s-index l.all)
      ≡ items l.initial.table.scope l.initial.table.found (small_stmts_onto none l.initial.all);
}
