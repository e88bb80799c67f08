use Rattle.std.proofs.Common.{◌≡◌, drop}
use Rattle.l2_tree.specs.Units.{initialisers_tree}
use Rattle.l2_types_declarations.specs.Initialisers.{items_surplus}
use Rattle.l2_types_declarations.proofs.Items.{surplus_from}
use Rattle.l2_types_declarations.proofs.initialisers.items_surplus.Given as goal

abbrev pub invariant-loop-i : goal.invariant-loop-i
invariant-loop-i l = surplus_from (drop l.i-index l.all.rest.items) l.table ≡ items_surplus (initialisers_tree l.fn.all) l.fn.table
