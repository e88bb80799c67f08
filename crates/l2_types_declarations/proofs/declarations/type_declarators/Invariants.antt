use Rattle.std.proofs.Common.{◌≡◌, drop}
use Rattle.l2_tree.specs.Trees.{no_declarators}
use Rattle.l2_tree.specs.Units.{declarators_onto}
use Rattle.l2_types_declarations.specs.Declarations.{type_declarators}
use Rattle.l2_types_declarations.proofs.Declarators.{type_declarators_from}
use Rattle.l2_types_declarations.proofs.declarations.type_declarators.Given as goal

abbrev pub invariant-loop-d : goal.invariant-loop-d
invariant-loop-d l = type_declarators_from l.base l.is_const l.place (drop l.d-index l.all) l.table
    ≡ type_declarators l.base l.is_const l.place (declarators_onto no_declarators l.all) l.initial.table
