-- How large a statement is: what the recursion goes down in.
use Rattle.std.proofs.Common.{◌≡◌, ℕ, zero, suc, ◌+◌, ◌<◌, ◌≤◌, List, [], ◌∷◌, length, get_or, ap, ◌∙◌, arith}
use Rattle.std.specs.declared.vec.Vec.{Vec}
use Rattle.std.specs.declared.boxed.Box.{Box}
use Rattle.std.specs.declared.alloc.Global.{Global}
use Rattle.l2_syntax.specs.declared.place.Place.{Place}
use Rattle.l2_tree.specs.declared.statement.Stmt as stmt
use Rattle.l2_tree.specs.declared.statement.Stmt.{Stmt}
use Rattle.l2_tree.specs.declared.statement.Branch.{Branch}
use Rattle.l2_tree.specs.Trees as tree
use Rattle.l2_tree.specs.Trees.{StmtTree, StmtTrees, no_stmts, and_stmt, BranchTree, BranchTrees, first_branch, and_branch}
use Rattle.l2_tree.specs.Units.{stmt_tree, stmts_onto, branch_tree, branches_onto, branches_tree}
use Rattle.l2_tree.proofs.Statements.{stmt_tree-Block, stmt_tree-If, stmt_tree-IfElse}

abbrev mutual
  pub weight : StmtTree → ℕ
  weight (tree.Declare d) = 1
  weight (tree.Block p all) = 1 + weights all
  weight (tree.Evaluate e) = 1
  weight tree.Empty = 1
  weight (tree.If bs) = 1 + branches_weight bs
  weight (tree.IfElse bs x) = 1 + (branches_weight bs + weight x)
  weight (tree.While p q e x) = 1 + weight x
  weight (tree.Do p x r q e) = 1 + weight x
  weight (tree.For p q f c e x) = 1 + weight x
  weight (tree.Switch p q e x) = 1 + weight x
  weight (tree.Case p e x) = 1 + weight x
  weight (tree.Default p x) = 1 + weight x
  weight (tree.Label n p x) = 1 + weight x
  weight (tree.Break p) = 1
  weight (tree.Continue p) = 1
  weight (tree.Return p) = 1
  weight (tree.ReturnValue p e) = 1

  pub weights : StmtTrees → ℕ
  weights no_stmts = 0
  weights (and_stmt all x) = weights all + weight x

  pub branch_weight : BranchTree → ℕ
  branch_weight (tree.Branch p q e x) = weight x

  pub branches_weight : BranchTrees → ℕ
  branches_weight (first_branch b) = branch_weight b
  branches_weight (and_branch bs b) = branches_weight bs + branch_weight b

onto_grows : (ss : StmtTrees) (all : List Stmt) → weights ss ≤ weights (stmts_onto ss all)
onto_grows ss [] = omega arith
onto_grows ss (x ∷ rest) = let w = onto_grows (and_stmt ss (stmt_tree x)) rest in omega arith

-- a statement weighs at most what the list does
pub weight_at : (ss : StmtTrees) (all : List Stmt) (i : ℕ) (x : Stmt) → i < length all → x ≡ get_or all i x → weight (stmt_tree x) ≤ weights (stmts_onto ss all)
weight_at ss [] i x h q = omega arith
weight_at ss (first ∷ rest) zero x h q =
    let w = ap (λ y. weight (stmt_tree y)) q in
    let g = onto_grows (and_stmt ss (stmt_tree first)) rest in
    omega arith
weight_at ss (first ∷ rest) (suc i) x h q = weight_at (and_stmt ss (stmt_tree first)) rest i x (omega arith) q

branches_grow : (bs : BranchTrees) (all : List Branch) → branches_weight bs ≤ branches_weight (branches_onto bs all)
branches_grow bs [] = omega arith
branches_grow bs (b ∷ rest) = let w = branches_grow (and_branch bs (branch_tree b)) rest in omega arith

pub first_weight : (b : Branch) (all : List Branch) → branch_weight (branch_tree b) ≤ branches_weight (branches_tree b all)
first_weight b all = branches_grow (first_branch (branch_tree b)) all

pub branch_at : (bs : BranchTrees) (all : List Branch) (i : ℕ) (b : Branch) → i < length all → b ≡ get_or all i b → branch_weight (branch_tree b) ≤ branches_weight (branches_onto bs all)
branch_at bs [] i b h q = omega arith
branch_at bs (first ∷ rest) zero b h q =
    let w = ap (λ y. branch_weight (branch_tree y)) q in
    let g = branches_grow (and_branch bs (branch_tree first)) rest in
    omega arith
branch_at bs (first ∷ rest) (suc i) b h q = branch_at (and_branch bs (branch_tree first)) rest i b (omega arith) q

-- statements with lists in them
pub weight-Block : (x : Stmt) (p : Place) (all : Vec Stmt Global) → x ≡ stmt.Block p all → weight (stmt_tree x) ≡ 1 + weights (stmts_onto no_stmts all.items)
weight-Block x p all h = ap (λ y. weight (stmt_tree y)) h ∙ ap weight (stmt_tree-Block p all)

pub weight-If : (x : Stmt) (b : Branch) (bs : Vec Branch Global) → x ≡ stmt.If b bs → weight (stmt_tree x) ≡ 1 + branches_weight (branches_tree b bs.items)
weight-If x b bs h = ap (λ y. weight (stmt_tree y)) h ∙ ap weight (stmt_tree-If b bs)

pub weight-IfElse : (x : Stmt) (b : Branch) (bs : Vec Branch Global) (z : Box Stmt Global) → x ≡ stmt.IfElse b bs z →
    weight (stmt_tree x) ≡ 1 + (branches_weight (branches_tree b bs.items) + weight (stmt_tree z.value))
weight-IfElse x b bs z h = ap (λ y. weight (stmt_tree y)) h ∙ ap weight (stmt_tree-IfElse b bs z)

pub ruleset sizes = (weight-Block, weight-If, weight-IfElse)
