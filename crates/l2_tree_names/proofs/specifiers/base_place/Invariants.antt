use Rattle.std.proofs.Common.{◌≡◌, drop}
use Rattle.l2_tree.specs.Units.{specifiers_tree}
use Rattle.l2_tree_names.specs.Specifiers.{base_place}
use Rattle.l2_tree_names.proofs.Folds.{place_behind}
use Rattle.l2_tree_names.proofs.specifiers.base_place.Given as goal

abbrev pub invariant-loop-x : goal.invariant-loop-x
invariant-loop-x l = place_behind l.found (drop l.x-index l.all.rest.items) ≡ base_place (specifiers_tree l.initial.all)
