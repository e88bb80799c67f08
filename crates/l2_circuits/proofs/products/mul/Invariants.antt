use Rattle.std.proofs.Common.{◌≡◌, drop}
use Rattle.l2_gates.specs.Gates.{literals_of}
use Rattle.l2_circuits.specs.Products.{mul, mul_from}
use Rattle.l2_circuits.proofs.products.mul.Given as goal

abbrev pub invariant-loop-bit : goal.invariant-loop-bit
invariant-loop-bit l =
    mul_from (literals_of l.doubled.items) (literals_of (drop l.bit-index l.b)) (literals_of l.product.items) l.gates ≡ mul (literals_of l.fn.a) (literals_of l.b) l.initial.gates
