use Rattle.std.proofs.Common.{rules, not, ◌∙◌, to_z, of_z, SFits}
use Rattle.std.specs.Int.{w128}
use Rattle.std.proofs.lemmas.Int.{to_z-of_z}
use Rattle.l2_bits.specs.Operators.{overflows}
use Rattle.l2_runs.specs.Operators.{truth}
use Rattle.l2_lower.specs.Output.{output}
use Rattle.l2_lower.proofs.Outputs.{overflow_folds}
use Rattle.l2_lower.proofs.operands.passed.Goals as goal

pub returns-in-Some : goal.returns-in-Some
returns-in-Some c =
    let fx : SFits w128 c.in-Some.x = search rules in
    let fy : SFits w128 c.in-Some.y = search rules in
    let fz : SFits w128 c.overflow_passes.result = search rules in
    overflow_folds c.args.op c.args.ty c.args.a c.args.b c.in-Some.x c.in-Some.y (to_z w128 (of_z w128 c.overflow_passes.result)) (output c.args.out.now.items c.args.at.now) c.in-Some.ensures.some.0 c.in-Some.ensures.some.1
    (to_z-of_z w128 c.overflow_passes.result fz ∙ c.overflow_passes.ensures ∙ (λ i. truth (not (overflows c.args.op c.args.ty (to_z-of_z w128 c.in-Some.x fx i) (to_z-of_z w128 c.in-Some.y fy i)))))
