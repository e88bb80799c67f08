use Rattle.std.proofs.Common.{◌≡◌, ◌-◌, ◌++◌, replicate}
use Rattle.l2_gates.specs.Gates.{literals_of, F}
use Rattle.l2_circuits.proofs.shifts.up.Given as goal

abbrev pub invariant-loop-i : goal.invariant-loop-i
invariant-loop-i l = literals_of l.long.items ++ replicate (l.k - l.i) F ≡ replicate l.k F
