use Rattle.std.proofs.Common.{FitsSigned, rules}
use Rattle.std.specs.Int.{w128}
use Rattle.std.proofs.lemmas.Int.{to_z-of_z}
use Rattle.l2_bits.proofs.Wraps.{wrap_is}
use Rattle.l2_bits.proofs.values.wrap.Goals as goal

pub returns-clause-congruent : goal.returns-clause-congruent
returns-clause-congruent c =
    let f : FitsSigned w128 c.computed_wrap.result = search rules in
    rw (to_z-of_z w128 c.computed_wrap.result f, c.computed_wrap.ensures, to_z-of_z w128 c.args.v c.ranges.v) (wrap_is c.args.ty c.args.v)
