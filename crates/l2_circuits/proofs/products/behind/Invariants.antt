use Rattle.std.proofs.Common.{◌≡◌, ◌++◌, drop}
use Rattle.l2_gates.specs.Gates.{literal_of, literals_of}
use Rattle.l2_circuits.specs.Products.{behind}
use Rattle.l2_circuits.proofs.products.behind.Given as goal

abbrev pub invariant-loop-bit : goal.invariant-loop-bit
invariant-loop-bit l = literals_of l.word.items ++ behind (literal_of l.last) (literals_of (drop l.bit-index l.a)) ≡ behind (literal_of l.initial.last) (literals_of l.a)
