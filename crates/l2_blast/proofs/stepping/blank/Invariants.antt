use Rattle.std.proofs.Common.{◌≡◌, ◌-◌, ◌++◌, replicate}
use Rattle.l2_gates.specs.Gates.{F, literals_of}
use Rattle.l2_blast.proofs.stepping.blank.Given as goal

abbrev pub invariant-loop-i : goal.invariant-loop-i
invariant-loop-i l = literals_of l.word.items ++ replicate (l.width - l.i) F ≡ replicate l.width F
