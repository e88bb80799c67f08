-- Rows of items, as the lists that code goes over.
use Rattle.std.proofs.Common.{◌≡◌, refl, ap, ◌∙◌, ℕ, List, [], ◌∷◌, ◌++◌}
use Rattle.std.specs.declared.vec.Vec.{Vec}
use Rattle.std.specs.declared.alloc.Global.{Global}
use Rattle.l2_code.specs.declared.code.Item as item
use Rattle.l2_code.specs.declared.code.Item.{Item, Row_of-Item, end_of-Item, more_of-Item, items-the_row-Item, items_hidden-the_row-Item-0}
use Rattle.l2_code.specs.declared.code.Item.TheBlock.{hidden-the_row-Item-0}
use Rattle.l2_code.specs.Trees.{Block, Loop, Nodes, none, more, tree_of, row_nodes, items_of, join}

row_is : {m : _} (r : Row_of-Item m) → row_nodes r ≡ items_of (items-the_row-Item m r)
row_is end_of-Item = refl
row_is (more_of-Item x rest) = ap (λ all. more (tree_of x) all) (row_is rest)

items_row : (all : Vec Item Global) → row_nodes (hidden-the_row-Item-0 all) ≡ items_of all.items
items_row all = row_is (hidden-the_row-Item-0 all) ∙ ap items_of (items_hidden-the_row-Item-0 all)

pub tree_of-Block : (all : Vec Item Global) → tree_of (item.Block all) ≡ Block (items_of all.items)
tree_of-Block all = ap Block (items_row all)

pub tree_of-Loop : (l : ℕ) (all : Vec Item Global) → tree_of (item.Loop l all) ≡ Loop l (items_of all.items)
tree_of-Loop l all = ap (Loop l) (items_row all)

pub items_of-join : (xs ys : List Item) → items_of (xs ++ ys) ≡ join (items_of xs) (items_of ys)
items_of-join [] ys = refl
items_of-join (x ∷ xs) ys = ap (more (tree_of x)) (items_of-join xs ys)

pub join-none : (xs : Nodes) → join xs none ≡ xs
join-none none = refl
join-none (more x rest) = ap (more x) (join-none rest)

pub join-join : (xs ys zs : Nodes) → join (join xs ys) zs ≡ join xs (join ys zs)
join-join none ys zs = refl
join-join (more x rest) ys zs = ap (more x) (join-join rest ys zs)

pub ruleset items = (tree_of-Block, tree_of-Loop)
