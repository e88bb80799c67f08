use Rattle.std.proofs.Common.{◌≡◌, ◌++◌, drop}
use Rattle.l2_lower.specs.Code.{code_objects}
use Rattle.l2_lower.proofs.tables.objects.Given as goal

abbrev pub invariant-loop-o : goal.invariant-loop-o
invariant-loop-o l = l.all.items ++ code_objects l.names l.values (drop l.o-index l.o-items) ≡ code_objects l.names l.initial.values l.o-items
