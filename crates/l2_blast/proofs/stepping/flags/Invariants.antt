use Rattle.std.proofs.Common.{◌≡◌, ◌++◌, drop}
use Rattle.l2_ssa.specs.Views.{flags_of}
use Rattle.l2_pointer_circuits.specs.Flags as kept
use Rattle.l2_blast.specs.Words.{flag_literals}
use Rattle.l2_blast.proofs.stepping.flags.Given as goal

abbrev pub invariant-loop-flag : goal.invariant-loop-flag
invariant-loop-flag l = kept.flags_of l.list.items ++ flag_literals l.words (flags_of (drop l.flag-index l.s.flags)) ≡ flag_literals l.words (flags_of l.s.flags)
