use Rattle.std.proofs.Common.{rules, ap, ◌∙◌, to_z, of_z, SFits}
use Rattle.std.specs.Int.{w128}
use Rattle.std.proofs.lemmas.Int.{to_z-of_z}
use Rattle.l2_bits.specs.Operators.{convert}
use Rattle.l2_lower.specs.Output.{output}
use Rattle.l2_lower.proofs.Outputs.{convert_folds}
use Rattle.l2_lower.proofs.operands.converted.Goals as goal

pub returns-in-Some : goal.returns-in-Some
returns-in-Some c =
    let fx : SFits w128 c.in-Some.x = search rules in
    let fz : SFits w128 c.convert.result = search rules in
    convert_folds c.args.ty c.args.a c.in-Some.x (to_z w128 (of_z w128 c.convert.result)) (output c.args.out.now.items c.args.at.now) c.in-Some.ensures.some.0
    (to_z-of_z w128 c.convert.result fz ∙ c.convert.ensures.is ∙ ap (convert c.args.ty) (to_z-of_z w128 c.in-Some.x fx))
