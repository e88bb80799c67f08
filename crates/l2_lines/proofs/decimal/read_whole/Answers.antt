use Rattle.std.proofs.Common.{◌∷◌, ap, ◌∙◌}
use Rattle.l2_lines.proofs.Decimals.{whole_below}
use Rattle.l2_lines.proofs.decimal.read_whole.Goals as goal

pub returns-in-Some-eq45-default : goal.returns-in-Some-eq45-default
returns-in-Some-eq45-default c = whole_below c.args.word.now c.in-Some-eq45-default.digits.now c.read_below_zero.result (c.in-Some-eq45-default.ensures.cases.0 ∙ ap (λ b. b ∷ c.in-Some-eq45-default.digits.now) c.in-Some-eq45-default.field-0-0-test) c.read_below_zero.ensures
