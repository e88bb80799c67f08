-- How large items are, and what stands behind one of them.
use Rattle.std.proofs.Common.{◌≡◌, ap, sym, ◌∙◌, ℕ, zero, suc, ◌+◌, ◌<◌, ◌≤◌, List, [], ◌∷◌, length, get_or, drop, arith, subst}
use Rattle.std.proofs.lemmas.List.{drop_more}
use Rattle.l2_code.specs.declared.code.Item.{Item}
use Rattle.l2_code.specs.Trees.{Node, Do, Block, Loop, Nodes, none, more, tree_of, items_of}
use Rattle.l2_code.specs.Sizes.{node_count, instructions}
use Rattle.l2_code.proofs.Items.{tree_of-Block, tree_of-Loop}

-- an item and those behind it
pub items_from : (all : List Item) (i : ℕ) (x : Item) → i < length all → x ≡ get_or all i x → items_of (drop i all) ≡ more (tree_of x) (items_of (drop (i + 1) all))
items_from all i x h e = ap items_of (drop_more all i x h) ∙ ap (λ y. more (tree_of y) (items_of (drop (i + 1) all))) (sym e)

abbrev mutual
  pub weight : Node → ℕ
  weight (Do a) = 1
  weight (Block all) = 1 + weights all
  weight (Loop l all) = 1 + weights all

  pub weights : Nodes → ℕ
  weights none = 0
  weights (more x rest) = weight x + weights rest

-- an item weighs at most what its list does
pub weight_at : (all : List Item) (i : ℕ) (x : Item) → i < length all → x ≡ get_or all i x → weight (tree_of x) ≤ weights (items_of all)
weight_at [] i x h e = omega arith
weight_at (first ∷ rest) zero x h e = let w = ap (λ y. weight (tree_of y)) e in omega arith
weight_at (first ∷ rest) (suc i) x h e = let w = weight_at rest i x (omega arith) e in omega arith

-- an item's instructions and those behind it
counts_from : (all : List Item) (i : ℕ) (x : Item) → i < length all → x ≡ get_or all i x → node_count (tree_of x) + instructions (items_of (drop (suc i) all)) ≤ instructions (items_of all)
counts_from [] i x h e = absurd (omega arith)
counts_from (first ∷ rest) zero x h e = let w = ap (λ y. node_count (tree_of y)) e in omega arith
counts_from (first ∷ rest) (suc i) x h e = let w = counts_from rest i x (omega arith) e in omega arith

pub counts_behind : (all : List Item) (n i : ℕ) (x : Item) → n ≡ suc i → i < length all → x ≡ get_or all i x → node_count (tree_of x) + instructions (items_of (drop n all)) ≤ instructions (items_of all)
counts_behind all n i x q h e = subst (λ m. node_count (tree_of x) + instructions (items_of (drop m all)) ≤ instructions (items_of all)) (sym q) (counts_from all i x h e)

pub ruleset items = (tree_of-Block, tree_of-Loop)
