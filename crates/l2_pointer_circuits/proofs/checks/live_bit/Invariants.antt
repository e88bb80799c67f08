use Rattle.std.proofs.Common.{◌≡◌, drop}
use Rattle.l2_gates.specs.Gates.{literal_of, literals_of}
use Rattle.l2_pointer_circuits.specs.Flags.{flags_of}
use Rattle.l2_pointer_circuits.specs.Tests.{live_from, live_bit}
use Rattle.l2_pointer_circuits.proofs.checks.live_bit.Given as goal

abbrev pub invariant-loop-flag : goal.invariant-loop-flag
invariant-loop-flag l = live_from (flags_of (drop l.flag-index l.flags)) (literals_of l.a) (literal_of l.live) l.gates ≡ live_bit (flags_of l.flags) (literals_of l.a) l.initial.gates
