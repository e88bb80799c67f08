use Rattle.std.proofs.Common.{◌≡◌, drop}
use Rattle.l2_types_unit.specs.Defined.{with_declarators}
use Rattle.l2_tree.specs.Trees.{no_declarators}
use Rattle.l2_tree.specs.Units.{declarators_onto}
use Rattle.l2_types_unit.proofs.Declarators.{declarators_from}
use Rattle.l2_types_unit.proofs.defined.with_declarators.Given as goal

abbrev pub invariant-loop-d : goal.invariant-loop-d
invariant-loop-d l = declarators_from l.word l.variables.items (drop l.d-index l.all) ≡ with_declarators l.word l.initial.variables.items (declarators_onto no_declarators l.all)
