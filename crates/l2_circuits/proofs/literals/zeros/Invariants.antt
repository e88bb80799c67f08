use Rattle.std.proofs.Common.{◌≡◌, ◌++◌, drop}
use Rattle.l2_gates.specs.Gates.{literals_of}
use Rattle.l2_circuits.specs.Words.{zeros}
use Rattle.l2_circuits.proofs.literals.zeros.Given as goal

abbrev pub invariant-loop : goal.invariant-loop
invariant-loop l = literals_of l.word.items ++ zeros (literals_of (drop l.index l.a)) ≡ zeros (literals_of l.a)
