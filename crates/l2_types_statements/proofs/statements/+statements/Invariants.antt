use Rattle.std.proofs.Common.{◌≡◌, ◌+◌, ◌*◌, drop}
use Rattle.l2_tree.specs.Trees.{no_stmts}
use Rattle.l2_tree.specs.Units.{stmt_tree, stmts_onto, branch_tree, branches_tree}
use Rattle.l2_types.specs.States.{saw}
use Rattle.l2_types_statements.specs.Trees.{checked_onto, no_statements, arms_onto, no_arms}
use Rattle.l2_types_statements.specs.Statements.{items, branches}
use Rattle.l2_types_statements.proofs.Rows.{items_from, branches_from}
use Rattle.l2_types_statements.proofs.Weights.{weight, weights, branch_weight, branches_weight}
use Rattle.l2_types_statements.proofs.statements.+statements.Given as goal

abbrev pub decreases-statement : goal.decreases-statement
decreases-statement l = 8 * weight (stmt_tree l.s.now)

abbrev pub decreases-body : goal.decreases-body
decreases-body l = 8 * weight (stmt_tree l.x.now) + 1

abbrev pub decreases-branch : goal.decreases-branch
decreases-branch l = 8 * branch_weight (branch_tree l.b.now) + 2

abbrev pub decreases-branches : goal.decreases-branches
decreases-branches l = 8 * branches_weight (branches_tree l.first.now l.rest.now) + 3

abbrev pub decreases-if_alone : goal.decreases-if_alone
decreases-if_alone l = 8 * branches_weight (branches_tree l.first.now l.rest.now) + 4

abbrev pub decreases-if_and_else : goal.decreases-if_and_else
decreases-if_and_else l = 8 * (branches_weight (branches_tree l.first.now l.rest.now) + weight (stmt_tree l.other.now)) + 4

abbrev pub decreases-while_loop : goal.decreases-while_loop
decreases-while_loop l = 8 * weight (stmt_tree l.x.now) + 4

abbrev pub decreases-do_loop : goal.decreases-do_loop
decreases-do_loop l = 8 * weight (stmt_tree l.x.now) + 4

abbrev pub decreases-for_loop : goal.decreases-for_loop
decreases-for_loop l = 8 * weight (stmt_tree l.x.now) + 4

abbrev pub decreases-switch : goal.decreases-switch
decreases-switch l = 8 * weight (stmt_tree l.x.now) + 4

abbrev pub decreases-case : goal.decreases-case
decreases-case l = 8 * weight (stmt_tree l.x.now) + 4

abbrev pub decreases-items : goal.decreases-items
decreases-items l = 8 * weights (stmts_onto no_stmts l.all.now) + 3

abbrev pub invariant-items-loop-s : goal.invariant-items-loop-s
invariant-items-loop-s l = items_from l.w (drop l.s-index l.all) (saw (checked_onto no_statements l.out.items) l.table) ≡ items l.w (stmts_onto no_stmts l.all) l.initial.table

abbrev pub invariant-branches-loop-b : goal.invariant-branches-loop-b
invariant-branches-loop-b l = branches_from l.w (drop l.b-index l.rest) (saw (arms_onto no_arms l.arms.items) l.table) ≡ branches l.w (branches_tree l.first l.rest) l.fn.table
