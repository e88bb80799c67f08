use Rattle.std.proofs.Common.{◌≡◌, drop}
use Rattle.l2_tree.specs.Units.{specifiers_tree}
use Rattle.l2_tree_names.specs.Numbers.{words_of}
use Rattle.l2_tree_names.proofs.Folds.{words_behind}
use Rattle.l2_tree_names.proofs.specifiers.words_of.Given as goal

abbrev pub invariant-loop-x : goal.invariant-loop-x
invariant-loop-x l = words_behind l.words (drop l.x-index l.all.rest.items) ≡ words_of (specifiers_tree l.initial.all)
