use Rattle.std.proofs.Common.{◌≡◌, ◌++◌, drop}
use Rattle.l2_gates.specs.Gates.{literals_of}
use Rattle.l2_circuits.specs.Words.{top_negated}
use Rattle.l2_circuits.proofs.literals.top_negated.Given as goal

abbrev pub invariant-loop-i : goal.invariant-loop-i
invariant-loop-i l = literals_of l.word.items ++ top_negated (literals_of (drop l.i l.a)) ≡ top_negated (literals_of l.a)
