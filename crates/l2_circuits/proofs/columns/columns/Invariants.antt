use Rattle.std.proofs.Common.{◌≡◌, drop}
use Rattle.l2_gates.specs.Gates.{literal_of, literals_of}
use Rattle.l2_circuits.specs.Words.{columns}
use Rattle.l2_circuits.proofs.Passing.{after}
use Rattle.l2_circuits.proofs.columns.columns.Given as goal

abbrev pub invariant-loop-i : goal.invariant-loop-i
invariant-loop-i l =
    after (literals_of l.bits.items) (columns l.kind (literals_of (drop l.i l.a)) (literals_of (drop l.i l.b)) (literal_of l.carry) l.gates)
    ≡ columns l.kind (literals_of l.a) (literals_of l.b) (literal_of l.initial.carry) l.initial.gates
