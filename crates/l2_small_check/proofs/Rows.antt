-- What statements one after another become, from the first one on.
use Rattle.std.proofs.Common.{◌≡◌, ℕ, zero, suc, ◌<◌, length, drop, get_or, sym, arith, List, [], ◌∷◌, map, Option, Some, None, refl, ap, ◌∙◌}
use Rattle.std.specs.Prelude.{option_map, ◌++◌}
use Rattle.l2_small.specs.declared.tree.SmallStmt.{SmallStmt}
use Rattle.l2_program.specs.declared.checked.Checked.{Checked}
use Rattle.l2_small.specs.SmallTrees.{SmallStmtTree, SmallStmtTrees, also, small_stmt_tree, small_stmts_onto}
use Rattle.l2_program.specs.Checked.{CheckedTree, more, checked_tree, checked_trees}
use Rattle.l2_small.specs.SmallForm.{and_then}
use Rattle.l2_small_check.specs.Elaboration.{Scope, Found, Elaborated, made, item, items, chain}

-- one statement more
abbrev pub and_item : Option (Elaborated (List CheckedTree)) → SmallStmtTree → Option (Elaborated (List CheckedTree))
and_item start s = and_then start (λ r. option_map (made (λ t. r.tree ++ t ∷ [])) (item r.scope r.found s))

-- these statements more
abbrev pub items_after : Option (Elaborated (List CheckedTree)) → List SmallStmt → Option (Elaborated (List CheckedTree))
items_after start [] = start
items_after start (s ∷ rest) = items_after (and_item start (small_stmt_tree s)) rest

pub items_onto : (scope : Scope) (found : Found) (ts : SmallStmtTrees) (all : List SmallStmt) → items scope found (small_stmts_onto ts all) ≡ items_after (items scope found ts) all
items_onto scope found ts [] = refl
items_onto scope found ts (s ∷ rest) = items_onto scope found (also ts (small_stmt_tree s)) rest

pub none_after : (all : List SmallStmt) → items_after None all ≡ None
none_after [] = refl
none_after (s ∷ rest) = none_after rest

pub chain_of_trees : (all : List Checked) → chain (map checked_tree all) ≡ checked_trees all
chain_of_trees [] = refl
chain_of_trees (t ∷ rest) = ap (more (checked_tree t)) (chain_of_trees rest)

-- where an item has none, nor has the whole
pub item_fails : (r : Elaborated (List CheckedTree)) (all : List SmallStmt) (i : ℕ) (s : SmallStmt) (whole : Option (Elaborated (List CheckedTree))) →
    items_after (Some r) (drop i all) ≡ whole → i < length all → s ≡ get_or all i s → item r.scope r.found (small_stmt_tree s) ≡ None → whole ≡ None
item_fails r [] i s whole e l at fails = absurd (omega arith)
item_fails r (first ∷ rest) zero s whole e l at fails =
    let last : and_item (Some r) (small_stmt_tree first) ≡ None = ap (λ x. and_item (Some r) (small_stmt_tree x)) (sym at) ∙ ap (option_map (made (λ t. r.tree ++ t ∷ []))) fails in
    sym e ∙ ap (λ o. items_after o rest) last ∙ none_after rest
item_fails r (first ∷ rest) (suc i) s whole e l at fails = item_fails r rest i s whole e (omega arith) at fails
