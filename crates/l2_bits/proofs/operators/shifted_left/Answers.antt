use Rattle.std.proofs.Common.{◌≡◌, FitsSigned, rules, pos, refl, to_z, of_z, ◌*ℤ◌, arith}
use Rattle.std.specs.Int.{w128}
use Rattle.std.proofs.lemmas.Int.{ints, to_z-of_z}
use Rattle.l2_bits.proofs.Bounds.{shifted_fits}
use Rattle.l2_bits.proofs.operators.shifted_left.Goals as goal

pub overflow_mul-result : goal.overflow_mul-result
overflow_mul-result c =
    let f : FitsSigned w128 c.from.result = search rules in
    let e : c.from.result ≡ pos c.power_of_two.result = omega (arith, ints, c.from.ensures) in
    rw (to_z-of_z w128 c.args.a c.ranges.a, to_z-of_z w128 c.from.result f) (shifted_fits c.args.ty c.args.a c.from.result c.power_of_two.result c.requires.left e c.power_of_two.ensures.small)

pub returns : goal.returns
returns c =
    let f : FitsSigned w128 c.from.result = search rules in
    let e : c.from.result ≡ pos c.power_of_two.result = omega (arith, ints, c.from.ensures) in
    let n : to_z w128 (of_z w128 c.args.n) ≡ c.args.n = to_z-of_z w128 c.args.n c.ranges.n in
    let h = shifted_fits c.args.ty c.args.a c.from.result c.power_of_two.result c.requires.left e c.power_of_two.ensures.small in
    rw (to_z-of_z w128 c.args.a c.ranges.a, to_z-of_z w128 c.from.result f, to_z-of_z w128 (c.args.a *ℤ c.from.result) h, e, c.power_of_two.ensures.is, n) refl
