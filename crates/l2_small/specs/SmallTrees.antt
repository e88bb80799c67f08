-- Texts of the small form, as definitions speak of them: trees without addresses.
use Rattle.std.specs.Prelude.{ℕ, ℤ, List, [], ◌∷◌}
use Rattle.l2_syntax.specs.declared.place.Place.{Place}
use Rattle.l2_syntax.specs.declared.token.Name.{Name as NameText}
use Rattle.l2_syntax.specs.declared.token.Token.{Token}
use Rattle.l2_small.specs.declared.tree.SmallUnit as unit
use Rattle.l2_runs.specs.declared.operators.UnaryOperator.{UnaryOperator}
use Rattle.l2_runs.specs.declared.operators.BinaryOperator.{BinaryOperator}
use Rattle.l2_small.specs.declared.tree.SmallExpr as expr
use Rattle.l2_small.specs.declared.tree.SmallExpr.{SmallExpr}
use Rattle.l2_small.specs.declared.tree.SmallStmt as stmt
use Rattle.l2_small.specs.declared.tree.SmallStmt.{SmallStmt, Row_of-SmallStmt, end_of-SmallStmt, more_of-SmallStmt}

pub data SmallExprTree : Type 0 where
  Name : ℕ → Place → SmallExprTree
  Number : ℤ → SmallExprTree
  Choice : Place → SmallExprTree
  Parenthesised : SmallExprTree → SmallExprTree
  Unary : UnaryOperator → SmallExprTree → SmallExprTree
  Binary : BinaryOperator → SmallExprTree → SmallExprTree → SmallExprTree

mutual
  pub data SmallStmtTree : Type 0 where
    Block : SmallStmtTrees → SmallStmtTree
    Declare : ℕ → Place → SmallStmtTree
    Initialise : ℕ → Place → SmallExprTree → SmallStmtTree
    Assign : ℕ → Place → SmallExprTree → SmallStmtTree
    If : SmallExprTree → SmallStmtTree → SmallStmtTree
    IfElse : SmallExprTree → SmallStmtTree → SmallStmtTree → SmallStmtTree
    While : Place → SmallExprTree → SmallStmtTree → SmallStmtTree
    Assert : Place → SmallExprTree → SmallStmtTree
    Return : SmallExprTree → SmallStmtTree

  -- statements one after another; the list grows at its end, as a reader makes it
  pub data SmallStmtTrees : Type 0 where
    none : SmallStmtTrees
    also : SmallStmtTrees → SmallStmtTree → SmallStmtTrees

abbrev pub small_expr_tree : SmallExpr → SmallExprTree
small_expr_tree (expr.Name n p) = Name n p
small_expr_tree (expr.Number n) = Number n
small_expr_tree (expr.Choice p) = Choice p
small_expr_tree (expr.Parenthesised' a e) = Parenthesised (small_expr_tree e)
small_expr_tree (expr.Unary' op a e) = Unary op (small_expr_tree e)
small_expr_tree (expr.Binary' op a x b y) = Binary op (small_expr_tree x) (small_expr_tree y)

abbrev mutual
  pub small_stmt_tree : SmallStmt → SmallStmtTree
  small_stmt_tree (stmt.Block' shape all) = Block (row_onto none all)
  small_stmt_tree (stmt.Declare n p) = Declare n p
  small_stmt_tree (stmt.Initialise n p e) = Initialise n p (small_expr_tree e)
  small_stmt_tree (stmt.Assign n p e) = Assign n p (small_expr_tree e)
  small_stmt_tree (stmt.If' e a s) = If (small_expr_tree e) (small_stmt_tree s)
  small_stmt_tree (stmt.IfElse' e a s b t) = IfElse (small_expr_tree e) (small_stmt_tree s) (small_stmt_tree t)
  small_stmt_tree (stmt.While' p e a s) = While p (small_expr_tree e) (small_stmt_tree s)
  small_stmt_tree (stmt.Assert p e) = Assert p (small_expr_tree e)
  small_stmt_tree (stmt.Return e) = Return (small_expr_tree e)

  pub row_onto : {m : _} → SmallStmtTrees → Row_of-SmallStmt m → SmallStmtTrees
  row_onto trees end_of-SmallStmt = trees
  row_onto trees (more_of-SmallStmt s rest) = row_onto (also trees (small_stmt_tree s)) rest

abbrev pub small_stmts_onto : SmallStmtTrees → List SmallStmt → SmallStmtTrees
small_stmts_onto trees [] = trees
small_stmts_onto trees (s ∷ rest) = small_stmts_onto (also trees (small_stmt_tree s)) rest

-- a whole text: where the name `main` stands, the items of its body, the names that words are numbered by, and the text's constants
pub record SmallUnitTree : Type 0 where
  pub main : Place
  pub items : SmallStmtTrees
  pub names : List NameText
  pub constants : List Token

abbrev pub small_unit_tree : unit.SmallUnit → SmallUnitTree
small_unit_tree u = record { main = u.main; items = small_stmts_onto none u.items.items; names = u.names; constants = u.constants }
