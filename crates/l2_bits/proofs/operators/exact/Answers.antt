use Rattle.std.proofs.Common.{◌*ℤ◌, ap, sym}
use Rattle.std.specs.Int.{w128}
use Rattle.std.proofs.lemmas.Int.{to_z-of_z}
use Rattle.l2_bits.specs.Operators.{exact}
use Rattle.l2_bits.proofs.Bounds.{factor_value, product_fits}
use Rattle.l2_bits.proofs.operators.exact.Goals as goal

pub overflow_mul-result : goal.overflow_mul-result
overflow_mul-result c =
    rw (to_z-of_z w128 c.args.a c.ranges.a, to_z-of_z w128 c.args.b c.ranges.b)
    (product_fits c.args.ty c.args.a c.args.b c.requires.sign c.requires.left (factor_value c.args.op c.args.ty c.args.b c.in-Mul.is c.requires.right))

pub returns-in-Mul : goal.returns-in-Mul
returns-in-Mul c =
    let h = product_fits c.args.ty c.args.a c.args.b c.requires.sign c.requires.left (factor_value c.args.op c.args.ty c.args.b c.in-Mul.is c.requires.right) in
    rw (to_z-of_z w128 c.args.a c.ranges.a, to_z-of_z w128 c.args.b c.ranges.b, to_z-of_z w128 (c.args.a *ℤ c.args.b) h) (ap (λ o. exact o c.args.a c.args.b) (sym c.in-Mul.is))
