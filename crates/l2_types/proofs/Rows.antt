-- Rows of arguments, as the lists that code goes over.
use Rattle.std.proofs.Common.{◌≡◌, List, [], ◌∷◌, ◌++◌, refl, ap, ◌∙◌}
use Rattle.std.specs.declared.vec.Vec.{Vec}
use Rattle.std.specs.declared.alloc.Global.{Global}
use Rattle.l2_types.specs.declared.typed.Typed as typed
use Rattle.l2_types.specs.declared.typed.Typed.{Typed, Row_of-Typed, end_of-Typed, more_of-Typed, items-the_row-Typed, items_hidden-the_row-Typed-0}
use Rattle.l2_types.specs.declared.typed.Typed.TheBlock as typed_block
use Rattle.l2_types.specs.Trees.{TypedTrees, no_trees, and_tree, Call, typed_tree, typed_row, typed_onto}

row_is : {m : _} (ts : TypedTrees) (r : Row_of-Typed m) → typed_row ts r ≡ typed_onto ts (items-the_row-Typed m r)
row_is ts end_of-Typed = refl
row_is ts (more_of-Typed t rest) = row_is (and_tree ts (typed_tree t)) rest

pub typed_tree-Call : (n : _) (all : Vec Typed Global) → typed_tree (typed.Call n all) ≡ Call n (typed_onto no_trees all.items)
typed_tree-Call n all = ap (Call n) (row_is no_trees (typed_block.hidden-the_row-Typed-0 all) ∙ ap (typed_onto no_trees) (items_hidden-the_row-Typed-0 all))

-- the list grows at its end
pub typed_onto-end : (ts : TypedTrees) (all : List Typed) (t : Typed) → typed_onto ts (all ++ t ∷ []) ≡ and_tree (typed_onto ts all) (typed_tree t)
typed_onto-end ts [] t = refl
typed_onto-end ts (x ∷ rest) t = typed_onto-end (and_tree ts (typed_tree x)) rest t

pub ruleset calls = (typed_tree-Call, typed_onto-end)
