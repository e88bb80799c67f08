-- What stands behind an operand.
use Rattle.std.proofs.Common.{◌≡◌, List, [], ◌∷◌, Some, refl}
use Rattle.l2_syntax.specs.declared.place.Place.{Place}
use Rattle.l2_tree.specs.declared.operators.UpdateOperator.{UpdateOperator}
use Rattle.l2_tree.specs.declared.starts.Continuation.TheVariants as continuation
use Rattle.l2_tree.specs.Trees.{ExprTree, PostUpdate}
use Rattle.l2_tree.specs.Build.{Part, leaf, node, tail, continued}

pub updated : (o : UpdateOperator) (a : ExprTree) (p : Place) (ps : List Part) → continued (Some (continuation.Update o)) a p ps ≡ tail (PostUpdate a o p) ps
updated o a p [] = refl
updated o a p (leaf k q ∷ ps) = refl
updated o a p (node c ∷ ps) = refl

pub ruleset tails = (updated)
