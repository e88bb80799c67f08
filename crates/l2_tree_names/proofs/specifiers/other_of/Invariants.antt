use Rattle.std.proofs.Common.{◌≡◌, drop}
use Rattle.std.specs.Prelude.{option_map}
use Rattle.l2_tree_names.specs.Specifiers.{base_tree}
use Rattle.l2_tree.specs.Units.{specifiers_tree}
use Rattle.l2_tree_laws.specs.Specifiers.{other_of}
use Rattle.l2_tree_names.proofs.Folds.{other_behind}
use Rattle.l2_tree_names.proofs.specifiers.other_of.Given as goal

abbrev pub invariant-loop-x : goal.invariant-loop-x
invariant-loop-x l = other_behind (option_map base_tree l.found) (drop l.x-index l.all.rest.items) ≡ other_of (specifiers_tree l.initial.all)
