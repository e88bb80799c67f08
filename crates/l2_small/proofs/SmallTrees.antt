-- Rows of statements, as the lists that code goes over.
use Rattle.std.proofs.Common.{◌≡◌, List, [], ◌∷◌, ◌++◌, Option, Some, Result, Ok, Err, refl, ap, sym, ◌∙◌}
use Rattle.std.specs.Prelude.{IfOk}
use Rattle.std.specs.declared.vec.Vec.{Vec}
use Rattle.std.specs.declared.alloc.Global.{Global}
use Rattle.l2_small.specs.declared.tree.SmallStmt as stmt
use Rattle.l2_small.specs.declared.tree.SmallStmt.{SmallStmt, Row_of-SmallStmt, end_of-SmallStmt, more_of-SmallStmt, items-the_row-SmallStmt, items_hidden-the_row-SmallStmt-0}
use Rattle.l2_small.specs.declared.tree.SmallStmt.TheBlock as stmt_block
use Rattle.l2_small.specs.declared.error.SmallError.{SmallError}
use Rattle.l2_small.specs.SmallTrees.{SmallStmtTree, SmallStmtTrees, Block, small_stmt_tree, row_onto, small_stmts_onto, none, also}

row_is : {m : _} (ts : SmallStmtTrees) (r : Row_of-SmallStmt m) → row_onto ts r ≡ small_stmts_onto ts (items-the_row-SmallStmt m r)
row_is ts end_of-SmallStmt = refl
row_is ts (more_of-SmallStmt s rest) = row_is (also ts (small_stmt_tree s)) rest

pub small_stmt_tree-Block : (all : Vec SmallStmt Global) → small_stmt_tree (stmt.Block all) ≡ Block (small_stmts_onto none all.items)
small_stmt_tree-Block all = ap Block (row_is none (stmt_block.hidden-the_row-SmallStmt-0 all) ∙ ap (small_stmts_onto none) (items_hidden-the_row-SmallStmt-0 all))

-- the list of statements grows at its end
pub small_stmts_onto-end : (ts : SmallStmtTrees) (all : List SmallStmt) (s : SmallStmt) → small_stmts_onto ts (all ++ s ∷ []) ≡ also (small_stmts_onto ts all) (small_stmt_tree s)
small_stmts_onto-end ts [] s = refl
small_stmts_onto-end ts (x ∷ rest) s = small_stmts_onto-end (also ts (small_stmt_tree x)) rest s

-- a tree made of its parts is the one that is wanted
pub made_as : (r : Result SmallStmt SmallError) (x : Option SmallStmtTree) (t : SmallStmtTree) → x ≡ Some t → IfOk r (λ s. small_stmt_tree s ≡ t) → IfOk r (λ s. x ≡ Some (small_stmt_tree s))
made_as (Ok s) x t e h = e ∙ ap Some (sym h)
made_as (Err f) x t e h = tt
