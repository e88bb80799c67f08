use Rattle.std.proofs.Common.{rules, ◌≡◌, ◌∙◌, true, false, FitsSigned, sym, subst}
use Rattle.std.specs.Int.{w128}
use Rattle.std.proofs.lemmas.Int.{to_z-of_z}
use Rattle.l2_lines.proofs.Decimals.{signed_decimal_injective_wide}
use Rattle.l2_cert.specs.Certificate.{IsLiteral}
use Rattle.l2_cert.proofs.Numerals.{literal_fits}
use Rattle.l2_derivation_file.proofs.steps.literal_of.Goals as goal

pub returns-then-not-is_literal : goal.returns-then-not-is_literal
returns-then-not-is_literal c = λ z fits is.
    let small : FitsSigned w128 c.in_ok-value.value = search rules in
    let same : c.in_ok-value.value ≡ z = signed_decimal_injective_wide c.in_ok-value.value z small (literal_fits z fits) (sym c.in_ok-value.ensures ∙ is) in
    let yes : c.is_literal.result ≡ true = c.is_literal.ensures.1 (subst IsLiteral (sym (to_z-of_z w128 c.in_ok-value.value small ∙ same)) fits) in
    let no : c.is_literal.result ≡ false = search rules in
    cc
