use Rattle.std.proofs.Common.{◌≡◌, FitsSigned, rules, pos, bit_or, to_z, of_z, ap, ◌∙◌, arith}
use Rattle.l2_bits.specs.Values.{modulus, residue, wrap}
use Rattle.std.specs.Int.{w128}
use Rattle.std.proofs.lemmas.Int.{to_z-of_z}
use Rattle.l2_bits.specs.Bits.{or, bit}
use Rattle.l2_bits.proofs.BitLaws.{bit-or}
use Rattle.l2_bits.proofs.bits.or.Goals as goal

pub returns-clause-is : goal.returns-clause-is
unfolding or
returns-clause-is c =
    let f : FitsSigned w128 c.wrap.result = search rules in
    let e : to_z w128 (of_z w128 c.from.result) ≡ pos (bit_or (residue (modulus c.args.ty) c.args.a) (residue (modulus c.args.ty) c.args.b)) = grind (arith, to_z-of_z) in
    to_z-of_z w128 c.wrap.result f ∙ c.wrap.ensures.is ∙ ap (wrap c.args.ty) e

pub returns-clause-bits : goal.returns-clause-bits
returns-clause-bits c = λ i h. ap (λ v. bit v i) (returns-clause-is c) ∙ bit-or c.args.ty c.args.a c.args.b i h
