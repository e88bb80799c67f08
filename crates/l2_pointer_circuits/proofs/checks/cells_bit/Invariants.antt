use Rattle.std.proofs.Common.{◌≡◌, drop}
use Rattle.l2_gates.specs.Gates.{literal_of, literals_of}
use Rattle.l2_code.specs.Trees.{code_of}
use Rattle.l2_code.specs.Modes.{types_of}
use Rattle.l2_pointer_circuits.specs.Words.{at_bit}
use Rattle.l2_pointer_circuits.specs.Tests.{any_from, places, objects, cells_bit}
use Rattle.l2_pointer_circuits.proofs.checks.cells_bit.Given as goal

abbrev pub invariant-loop-member : goal.invariant-loop-member
invariant-loop-member l =
    any_from (λ p. at_bit p (literals_of l.a)) (places (types_of (code_of l.code)).objects l.types (objects (drop l.member-index l.set))) (literal_of l.any) l.gates
    ≡ cells_bit (types_of (code_of l.code)).objects l.types l.set (literals_of l.a) l.initial.gates
