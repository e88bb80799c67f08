use Rattle.std.proofs.Common.{◌≡◌, ◌-◌, drop, length, reverse}
use Rattle.l2_gates.specs.Gates.{literals_of}
use Rattle.l2_circuits.specs.Products.{divide_by}
use Rattle.l2_circuits.proofs.products.divide_by.Given as goal

abbrev pub invariant-loop-i : goal.invariant-loop-i
invariant-loop-i l =
    divide_by (literals_of (drop (length l.a - l.i) l.a)) (literals_of l.b) l.initial.gates
    ≡ record { quotient = literals_of (reverse l.quotient.items); rest = literals_of l.rest.items; made = l.gates }
