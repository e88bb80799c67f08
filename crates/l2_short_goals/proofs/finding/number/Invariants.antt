use Rattle.std.proofs.Common.{◌≡◌, ◌≤◌, drop, length}
use Rattle.l2_gates.specs.Gates.{literals_of}
use Rattle.l2_circuit_laws.specs.Values.{values, number}
use Rattle.l2_short_goals.specs.Taken.{values_of}
use Rattle.l2_short_goals.proofs.finding.number.Given as goal

abbrev pub invariant-loop-i : goal.invariant-loop-i
invariant-loop-i l = (l.i ≤ length l.bits) × (l.total ≡ number (values (values_of l.a) (literals_of (drop l.i l.bits))))

abbrev pub decreases-loop-i : goal.decreases-loop-i
decreases-loop-i l = l.i
