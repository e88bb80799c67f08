use Rattle.std.proofs.Common.{◌≡◌, drop}
use Rattle.l2_code.specs.Values.{begins_with}
use Rattle.l2_pointer_circuits.proofs.checks.begins_with.Given as goal

abbrev pub invariant-loop-i : goal.invariant-loop-i
invariant-loop-i l = begins_with (drop l.i l.types) (drop l.i l.cells) ≡ begins_with l.types l.cells
