use Rattle.std.proofs.Common.{◌≡◌, drop, []}
use Rattle.std.specs.Prelude.{map}
use Rattle.l2_types_unit.specs.Defined.{functions_from}
use Rattle.l2_tree.specs.Units.{external_tree}
use Rattle.l2_types_unit.proofs.defined.functions.Given as goal

abbrev pub invariant-loop-x : goal.invariant-loop-x
invariant-loop-x l = functions_from l.names.items (map external_tree (drop l.x-index l.all)) ≡ functions_from [] (map external_tree l.all)
