-- The typed form of a text as code gives it, without addresses.
use Rattle.std.specs.Prelude.{map}
use Rattle.l2_types_statements.specs.Trees.{checked_onto, no_statements}
use Rattle.l2_types_unit.specs.declared.external.TypedFunction.{TypedFunction}
use Rattle.l2_types_unit.specs.declared.unit.TypedUnit.{TypedUnit}
use Rattle.l2_types_unit.specs.Units.{FunctionTree, TypedUnitTree}

abbrev pub function_tree : TypedFunction → FunctionTree
function_tree f = record { name = f.name; place = f.place; parameters = f.parameters; result = f.result; body = checked_onto no_statements f.body }

abbrev pub typed_tree_of : TypedUnit → TypedUnitTree
typed_tree_of u = record { functions = map function_tree u.functions; objects = u.objects; loops = u.loops; checks = u.checks; statics = u.statics }
