use Rattle.std.proofs.Common.{◌≡◌, ◌+ℤ◌, ◌∙◌, ap, rules, arith, FitsSigned, to_z, of_z}
use Rattle.std.specs.Int.{w128}
use Rattle.std.proofs.lemmas.Int.{ints, to_z-of_z}
use Rattle.l2_templates.specs.Forms.{signed}
use Rattle.l2_templates.proofs.form.row_value.Goals as goal

pub returns : goal.returns
returns c =
    let first = c.variable-first.result in
    let second = c.variable-second.result in
    let fits_first : FitsSigned w128 first = search rules in
    let fits_second : FitsSigned w128 second = search rules in
    let is_first : c.signed.result ≡ signed c.args.form.now.plus first = c.signed.ensures.is ∙ ap (signed c.args.form.now.plus) (to_z-of_z w128 first fits_first) in
    let is_second : c.signed-2.result ≡ signed c.args.form.now.second_plus second = c.signed-2.ensures.is ∙ ap (signed c.args.form.now.second_plus) (to_z-of_z w128 second fits_second) in
    let sum : to_z w128 (of_z w128 (to_z w128 (of_z w128 c.signed.result) +ℤ to_z w128 (of_z w128 c.signed-2.result))) ≡ c.signed.result +ℤ c.signed-2.result = omega (arith, ints) in
    sum
    ∙ (λ i. is_first i +ℤ is_second i)
    ∙ (λ i. signed c.args.form.now.plus (c.variable-first.ensures.is i) +ℤ signed c.args.form.now.second_plus (c.variable-second.ensures.is i))
