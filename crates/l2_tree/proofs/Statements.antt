-- Lists of statements and of branches: how they grow, and the trees of the statements that hold them.
use Rattle.std.proofs.Common.{◌≡◌, List, [], ◌∷◌, ◌++◌, refl, ap, ◌∙◌}
use Rattle.std.specs.declared.vec.Vec.{Vec}
use Rattle.std.specs.declared.boxed.Box.{Box}
use Rattle.std.specs.declared.alloc.Global.{Global}
use Rattle.l2_syntax.specs.declared.place.Place.{Place}
use Rattle.l2_tree.specs.declared.statement.Stmt as stmt
use Rattle.l2_tree.specs.declared.statement.Stmt.{Stmt, Row_of-Stmt, end_of-Stmt, more_of-Stmt, items-the_row-Stmt, items_hidden-the_row-Stmt-0, Row_of-Branch, end_of-Branch, more_of-Branch, items-the_row-Branch, items_hidden-the_row-Branch-1}
use Rattle.l2_tree.specs.declared.statement.Stmt.TheBlock as all
use Rattle.l2_tree.specs.declared.statement.Branch.{Branch}
use Rattle.l2_tree.specs.Trees.{StmtTrees, no_stmts, and_stmt, BranchTrees, Branch as a_branch, first_branch, and_branch, Block, If, IfElse}
use Rattle.l2_tree.specs.Units.{expr_tree, stmt_tree, stmts_row, branches_row, stmts_onto, branch_tree, branches_onto, branches_tree}

pub stmts_onto-end : (ss : StmtTrees) (xs : List Stmt) (x : Stmt) → stmts_onto ss (xs ++ (x ∷ [])) ≡ and_stmt (stmts_onto ss xs) (stmt_tree x)
stmts_onto-end ss [] x = refl
stmts_onto-end ss (y ∷ xs) x = stmts_onto-end (and_stmt ss (stmt_tree y)) xs x

pub branches_onto-end : (bs : BranchTrees) (xs : List Branch) (x : Branch) → branches_onto bs (xs ++ (x ∷ [])) ≡ and_branch (branches_onto bs xs) (branch_tree x)
branches_onto-end bs [] x = refl
branches_onto-end bs (y ∷ xs) x = branches_onto-end (and_branch bs (branch_tree y)) xs x

stmts_row_is : {m : _} (ss : StmtTrees) (row : Row_of-Stmt m) → stmts_row ss row ≡ stmts_onto ss (items-the_row-Stmt m row)
stmts_row_is ss end_of-Stmt = refl
stmts_row_is ss (more_of-Stmt x rest) = stmts_row_is (and_stmt ss (stmt_tree x)) rest

branches_row_is : {m : _} (bs : BranchTrees) (row : Row_of-Branch m) → branches_row bs row ≡ branches_onto bs (items-the_row-Branch m row)
branches_row_is bs end_of-Branch = refl
branches_row_is bs (more_of-Branch p q e a t rest) = branches_row_is (and_branch bs (a_branch p q (expr_tree e.value) (stmt_tree t))) rest

branches_of : (b : Branch) (bs : Vec Branch Global) → branches_row (first_branch (branch_tree b)) (all.hidden-the_row-Branch-1 bs) ≡ branches_tree b bs.items
branches_of b bs = branches_row_is (first_branch (branch_tree b)) (all.hidden-the_row-Branch-1 bs) ∙ ap (branches_onto (first_branch (branch_tree b))) (items_hidden-the_row-Branch-1 bs)

pub stmt_tree-Block : (p : Place) (ss : Vec Stmt Global) → stmt_tree (stmt.Block p ss) ≡ Block p (stmts_onto no_stmts ss.items)
stmt_tree-Block p ss = ap (Block p) (stmts_row_is no_stmts (all.hidden-the_row-Stmt-0 ss) ∙ ap (stmts_onto no_stmts) (items_hidden-the_row-Stmt-0 ss))

pub stmt_tree-If : (b : Branch) (bs : Vec Branch Global) → stmt_tree (stmt.If b bs) ≡ If (branches_tree b bs.items)
stmt_tree-If b bs = ap If (branches_of b bs)

pub stmt_tree-IfElse : (b : Branch) (bs : Vec Branch Global) (t : Box Stmt Global) → stmt_tree (stmt.IfElse b bs t) ≡ IfElse (branches_tree b bs.items) (stmt_tree t.value)
stmt_tree-IfElse b bs t = ap (λ x. IfElse x (stmt_tree t.value)) (branches_of b bs)

pub ruleset statements = (stmts_onto-end, branches_onto-end, stmt_tree-Block, stmt_tree-If, stmt_tree-IfElse)
