use Rattle.std.proofs.Common.{◌≡◌, drop}
use Rattle.l2_tree.specs.Trees.{no_parameters}
use Rattle.l2_tree.specs.Units.{parameters_onto}
use Rattle.l2_types.specs.States.{saw}
use Rattle.l2_types_declarations.specs.Parameters.{all_parameters}
use Rattle.l2_types_declarations.proofs.Rows.{parameters_from}
use Rattle.l2_types_declarations.proofs.parameters.all_parameters.Given as goal

abbrev pub invariant-loop-x : goal.invariant-loop-x
invariant-loop-x l = parameters_from l.is_object l.is_alone (drop l.x-index l.all) (saw l.types.items l.table) ≡ all_parameters l.is_object (parameters_onto no_parameters l.all) l.initial.table
