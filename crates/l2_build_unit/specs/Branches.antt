-- How an `if` goes on behind a branch.
use Rattle.std.specs.Prelude.{ℕ, Bool, true, false, Option, Some, None}
use Rattle.l2_tree.specs.declared.statement.Branch.{Branch}
use Rattle.l2_tree.specs.Trees.{BranchTrees, StmtTree, If, IfElse, first_branch, and_branch}
use Rattle.l2_tree.specs.Units.{stmt_tree, branch_tree}
use Rattle.l2_tree.specs.Build.{behind_branch}
use Rattle.l2_build.specs.Parts.{parts_of, size_of}
use Rattle.l2_build_unit.specs.declared.branches.Further.{Further}
use Rattle.l2_build_unit.specs.declared.branches.Further.TheVariants as further

abbrev pub with_branch : Option BranchTrees → Branch → BranchTrees
with_branch None b = first_branch (branch_tree b)
with_branch (Some bs) b = and_branch bs (branch_tree b)

abbrev pub goes_further : BranchTrees → Further → Option StmtTree
goes_further bs further.End = Some (If bs)
goes_further bs (further.Otherwise t) = Some (IfElse bs (stmt_tree t.value))
goes_further bs (further.Branch b rest) = behind_branch (and_branch bs (branch_tree b)) (parts_of rest.now)

abbrev pub is_further : Further → Bool
is_further (further.Branch b rest) = true
is_further f = false

abbrev pub further_size : Further → ℕ
further_size (further.Branch b rest) = size_of rest.now
further_size f = 0
