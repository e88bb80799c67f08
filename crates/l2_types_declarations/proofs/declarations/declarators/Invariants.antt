use Rattle.std.proofs.Common.{◌≡◌, drop}
use Rattle.std.specs.Prelude.{map}
use Rattle.l2_tree.specs.Trees.{no_declarators}
use Rattle.l2_tree.specs.Units.{declarators_onto}
use Rattle.l2_types.specs.States.{saw}
use Rattle.l2_types_declarations.specs.Initialisers.{item_tree}
use Rattle.l2_types_declarations.specs.Declarations.{declarators}
use Rattle.l2_types_declarations.proofs.Declarators.{declarators_from}
use Rattle.l2_types_declarations.proofs.declarations.declarators.Given as goal

abbrev pub invariant-loop-d : goal.invariant-loop-d
invariant-loop-d l = declarators_from l.word l.base l.is_const l.place (drop l.d-index l.all) (saw (map item_tree l.items.items) l.table)
    ≡ declarators l.word l.base l.is_const l.place (declarators_onto no_declarators l.all) l.initial.table
