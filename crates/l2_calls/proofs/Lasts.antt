-- The last of the arguments of a call.
use Rattle.std.proofs.Common.{◌≡◌, List, [], ◌∷◌, ◌++◌, ap}
use Rattle.l2_types.specs.declared.typed.Typed.{Typed}
use Rattle.l2_types.specs.Trees.{no_trees, typed_tree, typed_onto}
use Rattle.l2_types.proofs.Rows.{typed_tree-Call, typed_onto-end}
use Rattle.l2_calls.specs.Calls.{last_of}

pub last_of-end : (all : List Typed) (t : Typed) → last_of (typed_onto no_trees (all ++ t ∷ [])) ≡ typed_tree t
last_of-end all t = ap last_of (typed_onto-end no_trees all t)

pub ruleset calls = (typed_tree-Call, last_of-end, typed_onto-end)
