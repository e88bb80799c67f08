use Rattle.std.proofs.Common.{◌≡◌, drop}
use Rattle.l2_types.specs.Founds.{has_variable}
use Rattle.l2_types.proofs.table.has_variable.Given as goal

abbrev pub invariant-loop-o : goal.invariant-loop-o
invariant-loop-o l = has_variable (drop l.o-index l.objects) l.name ≡ has_variable l.objects l.name
