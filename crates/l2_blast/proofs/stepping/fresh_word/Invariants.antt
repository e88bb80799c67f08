use Rattle.std.proofs.Common.{◌≡◌, ◌-◌}
use Rattle.l2_gates.specs.Gates.{literals_of}
use Rattle.l2_blast.specs.Words.{fresh_word}
use Rattle.l2_blast.proofs.Lists.{after}
use Rattle.l2_blast.proofs.stepping.fresh_word.Given as goal

abbrev pub invariant-loop-i : goal.invariant-loop-i
invariant-loop-i l = after (literals_of l.word.items) (fresh_word (l.width - l.i) l.gates) ≡ fresh_word l.width l.initial.gates
