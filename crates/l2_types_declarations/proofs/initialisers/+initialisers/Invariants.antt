use Rattle.std.proofs.Common.{◌≡◌, drop}
use Rattle.l2_tree.specs.Units.{initialisers_tree}
use Rattle.l2_types_declarations.specs.Initialisers.{all_looked}
use Rattle.l2_types_declarations.proofs.Items.{looked_from}
use Rattle.l2_types_declarations.proofs.initialisers.+initialisers.Given as goal

abbrev pub invariant-all_looked-loop-i : goal.invariant-all_looked-loop-i
invariant-all_looked-loop-i l = looked_from (drop l.i-index l.all.rest.items) l.table ≡ all_looked (initialisers_tree l.fn.all) l.fn.table
