use Rattle.std.proofs.Common.{◌≡◌, ◌-◌, ◌++◌}
use Rattle.l2_gates.specs.Gates.{literals_of}
use Rattle.l2_circuits.specs.Words.{digits}
use Rattle.l2_circuits.proofs.literals.digits.Given as goal

abbrev pub invariant-loop-i : goal.invariant-loop-i
invariant-loop-i l = literals_of l.word.items ++ digits (l.width - l.i) l.left ≡ digits l.width l.number
