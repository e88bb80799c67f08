-- Calls, by the list of their arguments.
use Rattle.std.proofs.Common.{◌≡◌, List, [], ◌∷◌, ◌++◌, refl, ap, ◌∙◌}
use Rattle.std.specs.declared.boxed.Box.{Box}
use Rattle.std.specs.declared.vec.Vec.{Vec}
use Rattle.std.specs.declared.alloc.Global.{Global}
use Rattle.l2_syntax.specs.declared.place.Place.{Place}
use Rattle.l2_tree.specs.declared.expression.Expr as expr
use Rattle.l2_tree.specs.declared.expression.Expr.{Expr, Row_of-Expr, end_of-Expr, more_of-Expr, items-the_row-Expr, items_hidden-the_row-Expr-1}
use Rattle.l2_tree.specs.declared.expression.Core.TheBlock as block
use Rattle.l2_tree.specs.Trees.{ExprTrees, no_exprs, and_expr, Call}
use Rattle.l2_tree.specs.Units.{expr_tree, exprs_row, exprs_onto}

pub exprs_onto-end : (es : ExprTrees) (xs : List Expr) (x : Expr) → exprs_onto es (xs ++ (x ∷ [])) ≡ and_expr (exprs_onto es xs) (expr_tree x)
exprs_onto-end es [] x = refl
exprs_onto-end es (y ∷ xs) x = exprs_onto-end (and_expr es (expr_tree y)) xs x

exprs_row-list : {m : _} (es : ExprTrees) (row : Row_of-Expr m) → exprs_row es row ≡ exprs_onto es (items-the_row-Expr m row)
exprs_row-list es end_of-Expr = refl
exprs_row-list es (more_of-Expr x rest) = exprs_row-list (and_expr es (expr_tree x)) rest

pub expr_tree-Call : (f : Box Expr Global) (p : Place) (all : Vec Expr Global) → expr_tree (expr.Call f p all) ≡ Call (expr_tree f.value) p (exprs_onto no_exprs all.items)
expr_tree-Call f p all = ap (λ es. Call (expr_tree f.value) p es) (exprs_row-list no_exprs (block.hidden-the_row-Expr-1 all) ∙ ap (exprs_onto no_exprs) (items_hidden-the_row-Expr-1 all))

pub ruleset expressions = (exprs_onto-end, expr_tree-Call)
