use Rattle.std.proofs.Common.{rules, ◌≡◌, ap, sym, ◌∙◌}
use Rattle.std.specs.Fmt.{decimal}
use Rattle.l2_cert.proofs.Numerals.{number_is_not_zero}
use Rattle.l2_derivation_file.proofs.steps.number_of.Goals as goal

pub returns-then-value-eq0 : goal.returns-then-value-eq0
returns-then-value-eq0 c = λ n fits is.
    let none : c.in_ok-value.value ≡ 0 = search rules in
    let read : c.args.word.now ≡ decimal c.in_ok-value.value = search rules in
    number_is_not_zero n fits (sym is ∙ read ∙ ap decimal none)
