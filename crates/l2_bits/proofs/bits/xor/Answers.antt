use Rattle.std.proofs.Common.{◌≡◌, FitsSigned, rules, pos, bit_xor, to_z, of_z, ap, ◌∙◌, arith}
use Rattle.l2_bits.specs.Values.{modulus, residue, wrap}
use Rattle.std.specs.Int.{w128}
use Rattle.std.proofs.lemmas.Int.{to_z-of_z}
use Rattle.l2_bits.specs.Bits.{xor, bit}
use Rattle.l2_bits.proofs.BitLaws.{bit-xor}
use Rattle.l2_bits.proofs.bits.xor.Goals as goal

pub returns-clause-is : goal.returns-clause-is
unfolding xor
returns-clause-is c =
    let f : FitsSigned w128 c.wrap.result = search rules in
    let e : to_z w128 (of_z w128 c.from.result) ≡ pos (bit_xor (residue (modulus c.args.ty) c.args.a) (residue (modulus c.args.ty) c.args.b)) = grind (arith, to_z-of_z) in
    to_z-of_z w128 c.wrap.result f ∙ c.wrap.ensures.is ∙ ap (wrap c.args.ty) e

pub returns-clause-bits : goal.returns-clause-bits
returns-clause-bits c = λ i h. ap (λ v. bit v i) (returns-clause-is c) ∙ bit-xor c.args.ty c.args.a c.args.b i h
