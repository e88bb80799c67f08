use Rattle.std.proofs.Common.{◌≡◌, drop}
use Rattle.l2_types_unit.specs.Faults.{recursions}
use Rattle.l2_types_unit.proofs.faults.recursions.Given as goal

abbrev pub invariant-loop-c : goal.invariant-loop-c
invariant-loop-c l = recursions l.table (drop l.c-index l.table.calls) l.faults.items ≡ recursions l.table l.table.calls l.initial.faults.items
