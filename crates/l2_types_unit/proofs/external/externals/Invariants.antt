use Rattle.std.proofs.Common.{◌≡◌, drop, []}
use Rattle.std.specs.Prelude.{map}
use Rattle.l2_types_unit.specs.Units.{externals_from}
use Rattle.l2_types_unit.specs.Typed.{function_tree}
use Rattle.l2_tree.specs.Units.{external_tree}
use Rattle.l2_types.specs.States.{saw}
use Rattle.l2_types_unit.proofs.external.externals.Given as goal

abbrev pub invariant-loop-x : goal.invariant-loop-x
invariant-loop-x l = externals_from (map external_tree (drop l.x-index l.all)) (saw (map function_tree l.functions.items) l.table) ≡ externals_from (map external_tree l.all) (saw [] l.initial.table)
