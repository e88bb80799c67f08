use Rattle.std.proofs.Common.{◌≡◌, drop}
use Rattle.l2_gates.specs.Gates.{literal_of, literals_of}
use Rattle.l2_code.specs.Trees.{code_of}
use Rattle.l2_code.specs.Modes.{types_of}
use Rattle.l2_pointer_circuits.specs.Tests.{any_from, any, within_bit, objects}
use Rattle.l2_pointer_circuits.proofs.checks.or_within.Given as goal

abbrev pub invariant-loop-member : goal.invariant-loop-member
invariant-loop-member l =
    any_from (within_bit (types_of (code_of l.code)).objects (literals_of l.a) (literals_of l.x)) (objects (drop l.member-index l.set)) (literal_of l.any) l.gates
    ≡ any (within_bit (types_of (code_of l.code)).objects (literals_of l.a) (literals_of l.x)) (objects l.set) l.initial.gates
