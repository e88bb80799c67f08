use Rattle.std.proofs.Common.{◌≡◌, ◌+◌, drop}
use Rattle.l2_derivations.specs.Sizes.{literals_of}
use Rattle.l2_sat.proofs.checking.literals_in.Given as goal

-- what was counted and what is left
abbrev pub invariant-loop-i : goal.invariant-loop-i
invariant-loop-i l = l.size + literals_of (drop l.i l.steps) ≡ literals_of l.steps
