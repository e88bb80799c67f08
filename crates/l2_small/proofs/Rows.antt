-- The small trees of statements one after another, from the first one on.
use Rattle.std.proofs.Common.{◌≡◌, ℕ, zero, suc, ◌<◌, length, drop, get_or, sym, arith, List, [], ◌∷◌, Option, Some, None, refl, ap, ◌∙◌}
use Rattle.std.specs.Prelude.{option_map}
use Rattle.l2_syntax.specs.declared.token.Name.{Name}
use Rattle.l2_tree.specs.declared.statement.Stmt.{Stmt}
use Rattle.l2_tree.specs.Trees.{StmtTree, StmtTrees, and_stmt}
use Rattle.l2_tree.specs.Units.{stmt_tree, stmts_onto}
use Rattle.l2_small.specs.SmallTrees.{SmallStmtTree, SmallStmtTrees, also}
use Rattle.l2_small.specs.SmallForm.{and_then, small_stmt, small_stmts}
use Rattle.l2_small.proofs.SmallTrees.{small_stmts_onto-end}

-- one statement more
abbrev pub and_item : List Name → Option SmallStmtTrees → StmtTree → Option SmallStmtTrees
and_item names start s = and_then start (λ all. option_map (also all) (small_stmt names s))

-- these statements more
abbrev pub items_after : List Name → Option SmallStmtTrees → List Stmt → Option SmallStmtTrees
items_after names start [] = start
items_after names start (s ∷ rest) = items_after names (and_item names start (stmt_tree s)) rest

pub items_onto : (names : List Name) (ts : StmtTrees) (all : List Stmt) → small_stmts names (stmts_onto ts all) ≡ items_after names (small_stmts names ts) all
items_onto names ts [] = refl
items_onto names ts (s ∷ rest) = items_onto names (and_stmt ts (stmt_tree s)) rest

pub none_after : (names : List Name) (all : List Stmt) → items_after names None all ≡ None
none_after names [] = refl
none_after names (s ∷ rest) = none_after names rest

-- where an item has no small tree, nor has the whole
pub item_fails : (names : List Name) (r : SmallStmtTrees) (all : List Stmt) (i : ℕ) (s : Stmt) (whole : Option SmallStmtTrees) →
    items_after names (Some r) (drop i all) ≡ whole → i < length all → s ≡ get_or all i s → small_stmt names (stmt_tree s) ≡ None → whole ≡ None
item_fails names r [] i s whole e l at fails = absurd (omega arith)
item_fails names r (first ∷ rest) zero s whole e l at fails =
    let last : and_item names (Some r) (stmt_tree first) ≡ None = ap (λ x. and_item names (Some r) (stmt_tree x)) (sym at) ∙ ap (option_map (also r)) fails in
    sym e ∙ ap (λ o. items_after names o rest) last ∙ none_after names rest
item_fails names r (first ∷ rest) (suc i) s whole e l at fails = item_fails names r rest i s whole e (omega arith) at fails

-- where an item has one, the list grows by it
pub item_follows : (names : List Name) (r : SmallStmtTrees) (q : SmallStmtTree) (all : List Stmt) (i : ℕ) (s : Stmt) (whole : Option SmallStmtTrees) →
    items_after names (Some r) (drop i all) ≡ whole → i < length all → s ≡ get_or all i s → small_stmt names (stmt_tree s) ≡ Some q → items_after names (Some (also r q)) (drop (suc i) all) ≡ whole
item_follows names r q [] i s whole e l at ok = absurd (omega arith)
item_follows names r q (first ∷ rest) zero s whole e l at ok =
    let next : and_item names (Some r) (stmt_tree first) ≡ Some (also r q) = ap (λ x. and_item names (Some r) (stmt_tree x)) (sym at) ∙ ap (option_map (also r)) ok in
    ap (λ o. items_after names o rest) (sym next) ∙ e
item_follows names r q (first ∷ rest) (suc i) s whole e l at ok = item_follows names r q rest i s whole e (omega arith) at ok

pub ruleset rows = (small_stmts_onto-end, none_after)
