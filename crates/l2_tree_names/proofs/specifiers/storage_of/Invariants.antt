use Rattle.std.proofs.Common.{◌≡◌, drop}
use Rattle.l2_tree.specs.Units.{specifiers_tree}
use Rattle.l2_tree_laws.specs.Specifiers.{storage_of}
use Rattle.l2_tree_names.proofs.Folds.{storage_behind}
use Rattle.l2_tree_names.proofs.specifiers.storage_of.Given as goal

abbrev pub invariant-loop-x : goal.invariant-loop-x
invariant-loop-x l = storage_behind l.found (drop l.x-index l.all.rest.items) ≡ storage_of (specifiers_tree l.initial.all)
