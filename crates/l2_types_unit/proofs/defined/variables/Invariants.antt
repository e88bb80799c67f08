use Rattle.std.proofs.Common.{◌≡◌, drop, []}
use Rattle.std.specs.Prelude.{map}
use Rattle.l2_types_unit.specs.Defined.{variables_from}
use Rattle.l2_tree.specs.Units.{external_tree}
use Rattle.l2_types_unit.proofs.defined.variables.Given as goal

abbrev pub invariant-loop-x : goal.invariant-loop-x
invariant-loop-x l = variables_from l.found.items (map external_tree (drop l.x-index l.all)) ≡ variables_from [] (map external_tree l.all)
