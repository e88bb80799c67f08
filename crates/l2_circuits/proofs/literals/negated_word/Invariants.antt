use Rattle.std.proofs.Common.{◌≡◌, ◌++◌, drop}
use Rattle.l2_gates.specs.Gates.{literals_of}
use Rattle.l2_circuits.specs.Words.{negated_word}
use Rattle.l2_circuits.proofs.literals.negated_word.Given as goal

abbrev pub invariant-loop-bit : goal.invariant-loop-bit
invariant-loop-bit l = literals_of l.word.items ++ negated_word (literals_of (drop l.bit-index l.a)) ≡ negated_word (literals_of l.a)
