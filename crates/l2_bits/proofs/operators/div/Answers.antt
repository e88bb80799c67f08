use Rattle.std.proofs.Common.{◌≡◌, FitsSigned, false, rules, arith}
use Rattle.l2_bits.specs.Operators.{breaks_division}
use Rattle.std.specs.Int.{w128}
use Rattle.std.proofs.lemmas.Int.{to_z-of_z}
use Rattle.l2_bits.proofs.Bounds.{quotient_value}
use Rattle.l2_bits.proofs.operators.div.Goals as goal

pub returns-else-breaks_division-clause-value : goal.returns-else-breaks_division-clause-value
returns-else-breaks_division-clause-value c =
    let f : FitsSigned w128 c.quotient.result = search rules in
    let e : breaks_division c.args.ty c.args.a c.args.b ≡ false = grind (arith, to_z-of_z) in
    rw (to_z-of_z w128 c.quotient.result f, c.quotient.ensures, to_z-of_z w128 c.args.a c.ranges.a, to_z-of_z w128 c.args.b c.ranges.b) (quotient_value c.args.ty c.args.a c.args.b e)
