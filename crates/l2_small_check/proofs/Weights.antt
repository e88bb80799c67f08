-- How large a tree is: what the recursion goes down in.
use Rattle.std.proofs.Common.{◌≡◌, ℕ, zero, suc, ◌+◌, ◌<◌, ◌≤◌, List, [], ◌∷◌, length, get_or, ap, arith}
use Rattle.l2_small.specs.declared.tree.SmallStmt.{SmallStmt}
use Rattle.l2_small.specs.SmallTrees.{SmallStmtTree, Block, Declare, Initialise, Assign, If, IfElse, While, Assert, Return, SmallStmtTrees, none, also, small_stmt_tree, small_stmts_onto}

abbrev mutual
  pub weight : SmallStmtTree → ℕ
  weight (Block all) = 1 + weights all
  weight (Declare n p) = 1
  weight (Initialise n p e) = 1
  weight (Assign n p e) = 1
  weight (If e s) = 1 + weight s
  weight (IfElse e s z) = 1 + (weight s + weight z)
  weight (While p e s) = 1 + weight s
  weight (Assert p e) = 1
  weight (Return e) = 1

  pub weights : SmallStmtTrees → ℕ
  weights none = 0
  weights (also all s) = weights all + weight s

onto_grows : (ts : SmallStmtTrees) (all : List SmallStmt) → weights ts ≤ weights (small_stmts_onto ts all)
onto_grows ts [] = omega arith
onto_grows ts (s ∷ rest) = let w = onto_grows (also ts (small_stmt_tree s)) rest in omega arith

-- an item weighs at most what its list does
pub weight_at : (ts : SmallStmtTrees) (all : List SmallStmt) (i : ℕ) (s : SmallStmt) → i < length all → s ≡ get_or all i s → weight (small_stmt_tree s) ≤ weights (small_stmts_onto ts all)
weight_at ts [] i s h e = omega arith
weight_at ts (first ∷ rest) zero s h e =
    let w = ap (λ x. weight (small_stmt_tree x)) e in
    let g = onto_grows (also ts (small_stmt_tree first)) rest in
    omega arith
weight_at ts (first ∷ rest) (suc i) s h e = weight_at (also ts (small_stmt_tree first)) rest i s (omega arith) e
