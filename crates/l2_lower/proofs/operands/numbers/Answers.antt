use Rattle.std.proofs.Common.{rules, pos, ◌∙◌, to_z, of_z, SFits}
use Rattle.std.specs.Int.{w128}
use Rattle.std.specs.Option.{unwrap_or}
use Rattle.std.proofs.lemmas.Int.{to_z-of_z}
use Rattle.l2_code.specs.Values.{operate}
use Rattle.l2_lower.specs.Output.{output}
use Rattle.l2_lower.proofs.Outputs.{numbers_fold}
use Rattle.l2_lower.proofs.operands.numbers.Goals as goal

pub returns-in-Some : goal.returns-in-Some
returns-in-Some c =
    let fx : SFits w128 c.in-Some.x = search rules in
    let fy : SFits w128 c.in-Some.y = search rules in
    let fz : SFits w128 c.operate.result = search rules in
    numbers_fold c.args.op c.args.ty c.args.a c.args.b c.in-Some.x c.in-Some.y (to_z w128 (of_z w128 c.operate.result)) (output c.args.out.now.items c.args.at.now) c.in-Some.ensures.some.0 c.in-Some.ensures.some.1
    (to_z-of_z w128 c.operate.result fz ∙ c.operate.ensures ∙ (λ i. unwrap_or (operate c.args.op c.args.ty (to_z-of_z w128 c.in-Some.x fx i) (to_z-of_z w128 c.in-Some.y fy i)) (pos 0)))
