use Rattle.std.proofs.Common.{◌≡◌, drop}
use Rattle.l2_gates.specs.Gates.{literal_of, literals_of}
use Rattle.l2_pointer_circuits.specs.Words.{at_bit}
use Rattle.l2_pointer_circuits.specs.Tests.{any_from, places_from}
use Rattle.l2_pointer_circuits.proofs.checks.or_places.Given as goal

abbrev pub invariant-loop-i : goal.invariant-loop-i
invariant-loop-i l =
    any_from (λ p. at_bit p (literals_of l.a)) (places_from l.types l.object l.i (drop l.i l.cells)) (literal_of l.any) l.gates
    ≡ any_from (λ p. at_bit p (literals_of l.a)) (places_from l.types l.object 0 l.cells) (literal_of l.initial.any) l.initial.gates
