use Rattle.std.proofs.Common.{rules, ◌≡◌, ◌∷◌, ◌∙◌, [], true, false, FitsSigned, ℤ, pos, negsuc, sym, ap, subst, get_or, Some, arith}
use Rattle.std.specs.Int.{w128}
use Rattle.std.specs.Fmt.{signed_decimal}
use Rattle.std.proofs.lemmas.Int.{ints, to_z-of_z}
use Rattle.l2_lines.proofs.Decimals.{signed_decimal_injective_wide}
use Rattle.l2_cert.specs.Cursor.{left}
use Rattle.l2_cert.specs.Certificate.{IsBound}
use Rattle.l2_cert.proofs.forms.bound_of.Goals as goal

pub bound_fits : (z : ℤ) → IsBound (Some z) → FitsSigned w128 z
bound_fits (pos n) fits = record { sfits = omega (arith, ints, fits.0, fits.1) }
bound_fits (negsuc n) fits = record { sfits = omega (arith, ints, fits.0, fits.1) }

pub returns-else-is_bound : goal.returns-else-is_bound
returns-else-is_bound c = λ z rest fits is.
    let small : FitsSigned w128 c.in_ok-value.value = search rules in
    let first : left c.args.words ≡ c.in_ok-first.first.word.now ∷ left c.in_ok-first.first.rest = c.in_ok-first.ensures in
    let word : signed_decimal z ≡ c.in_ok-first.first.word.now = ap (λ l. get_or l 0 []) (sym is ∙ first) in
    let same : c.in_ok-value.value ≡ z = signed_decimal_injective_wide c.in_ok-value.value z small (bound_fits z fits) (sym c.in_ok-value.ensures ∙ sym word) in
    let yes : c.is_bound.result ≡ true = c.is_bound.ensures.1 (subst (λ v. IsBound (Some v)) (sym (to_z-of_z w128 c.in_ok-value.value small ∙ same)) fits) in
    let no : c.is_bound.result ≡ false = c.if-is_bound.false in
    cc
