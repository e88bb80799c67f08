use Rattle.std.proofs.Common.{◌≡◌, drop}
use Rattle.l2_gates.specs.Gates.{literal_of, literals_of}
use Rattle.l2_code.specs.Trees.{code_of}
use Rattle.l2_code.specs.Modes.{types_of}
use Rattle.l2_pointer_circuits.specs.Tests.{any_from, is_bit, among_bit}
use Rattle.l2_pointer_circuits.proofs.checks.among_bit.Given as goal

abbrev pub invariant-loop-member : goal.invariant-loop-member
invariant-loop-member l =
    any_from (is_bit (types_of (code_of l.code)).objects (literals_of l.s) (literals_of l.f)) (drop l.member-index l.set) (literal_of l.any) l.gates
    ≡ among_bit (types_of (code_of l.code)).objects l.set (literals_of l.s) (literals_of l.f) l.initial.gates
