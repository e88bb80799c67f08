use Rattle.std.proofs.Common.{◌≡◌, FitsSigned, rules, pos, ◌*◌, ◌%◌, to_z, ap, ◌∙◌, arith}
use Rattle.l2_bits.specs.Values.{modulus, residue, wrap}
use Rattle.std.specs.Int.{w128}
use Rattle.std.proofs.lemmas.Int.{to_z-of_z}
use Rattle.l2_bits.proofs.Products.{wrap_product}
use Rattle.l2_bits.proofs.operators.mul.Goals as goal

pub returns-clause-is : goal.returns-clause-is
returns-clause-is c =
    let f : FitsSigned w128 c.wrap.result = search rules in
    let e : to_z w128 ((c.from.result * c.from-2.result) % c.modulus-n.result) ≡ pos ((residue (modulus c.args.ty) c.args.a * residue (modulus c.args.ty) c.args.b) % modulus c.args.ty) = grind (arith, to_z-of_z) in
    to_z-of_z w128 c.wrap.result f ∙ c.wrap.ensures.is ∙ ap (wrap c.args.ty) e ∙ wrap_product c.args.ty c.args.a c.args.b
