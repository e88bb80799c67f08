use Rattle.std.proofs.Common.{◌≡◌, ◌-◌, ◌++◌, drop}
use Rattle.l2_gates.specs.Gates.{literal_of, literals_of}
use Rattle.l2_circuits.specs.Words.{resized}
use Rattle.l2_circuits.proofs.literals.resized.Given as goal

abbrev pub invariant-loop-i : goal.invariant-loop-i
invariant-loop-i l =
    literals_of l.word.items ++ resized (l.width - l.i) (literal_of l.fill) (literals_of (drop l.i l.a)) ≡ resized l.width (literal_of l.fill) (literals_of l.a)
