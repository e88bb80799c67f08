use Rattle.std.proofs.Common.{◌≡◌, Some, drop}
use Rattle.l2_tree.specs.Trees.{no_stmts}
use Rattle.l2_tree.specs.Units.{stmts_onto}
use Rattle.l2_small.specs.SmallTrees.{none, small_stmts_onto}
use Rattle.l2_small.specs.SmallForm.{small_stmts}
use Rattle.l2_small.proofs.Rows.{items_after}
use Rattle.l2_small.proofs.statements.+statements.Given as goal

abbrev pub invariant-statements-loop-s : goal.invariant-statements-loop-s
invariant-statements-loop-s l = items_after l.names (Some (small_stmts_onto none l.out.items)) (drop l.s-index l.all) ≡ small_stmts l.names (stmts_onto no_stmts l.initial.all)
