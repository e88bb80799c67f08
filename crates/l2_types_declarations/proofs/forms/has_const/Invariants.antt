use Rattle.std.proofs.Common.{◌≡◌, drop}
use Rattle.l2_tree.specs.Units.{specifiers_tree}
use Rattle.l2_types_declarations.specs.Forms.{has_const}
use Rattle.l2_types_declarations.proofs.Folds.{const_behind}
use Rattle.l2_types_declarations.proofs.forms.has_const.Given as goal

abbrev pub invariant-loop-x : goal.invariant-loop-x
invariant-loop-x l = const_behind l.found (drop l.x-index l.all.rest.items) ≡ has_const (specifiers_tree l.initial.all)
