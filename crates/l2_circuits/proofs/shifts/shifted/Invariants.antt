use Rattle.std.proofs.Common.{◌≡◌, drop}
use Rattle.l2_gates.specs.Gates.{literals_of}
use Rattle.l2_circuits.specs.Shifts.{shift_from}
use Rattle.l2_circuits.proofs.shifts.shifted.Given as goal

abbrev pub invariant-loop-bit : goal.invariant-loop-bit
invariant-loop-bit l =
    shift_from l.way l.k (literals_of l.word.items) (literals_of (drop l.bit-index l.b)) l.gates ≡ shift_from l.way 1 (literals_of l.fn.a) (literals_of l.b) l.initial.gates
