use Rattle.std.proofs.Common.{rules, ◌≡◌, ◌≢◌, ◌≤◌, ◌<◌, ◌^◌, ◌+◌, ◌∷◌, [], ℕ, zero, suc, Bool, List, ap, sym, subst, ◌∙◌, get_or, drop, arith}
use Rattle.std.specs.Fmt.{decimal}
use Rattle.l2_lines.proofs.Decimals.{decimal_injective_wide}
use Rattle.l2_cert.specs.Cursor.{left}
use Rattle.l2_cert.specs.Words.{Word}
use Rattle.l2_cert.specs.Certificate.{IsSecond, form_words, second_words, sign_word}
use Rattle.l2_cert.proofs.forms.form_of.Goals as goal

no_second : (first second : ℕ) (plus : Bool) (rest : List Word) → IsSecond first second plus → second < 2 ^ 32 → second_words second plus ≡ rest → rest ≢ [] → ((plus : Bool) (n : ℕ) (more : List Word) → first + 1 ≤ n → n < 2 ^ 32 → rest ≢ sign_word plus ∷ decimal n ∷ more) → ⊥
no_second first zero plus rest is small same some none = some (sym same)
no_second first (suc n) plus rest is small same some none = none plus (suc n) [] (omega (arith, is)) small (sym same)

pub returns-in_default : goal.returns-in_default
returns-in_default c = λ f formed is.
    let v = c.in_ok-first.first.variable in
    let both : form_words f ≡ sign_word c.in_ok-first.first.plus ∷ decimal v ∷ left c.in_ok-first.first.rest = sym is ∙ c.in_ok-first.ensures.1 in
    let word : decimal f.first ≡ decimal v = ap (λ l. get_or l 1 []) both in
    let small : f.first < 10 ^ 64 = omega (arith, formed.first_small) in
    let fits : v < 2 ^ 32 = search rules in
    let same : f.first ≡ v = decimal_injective_wide f.first v small (omega (arith, fits)) word in
    let some : left c.in_ok-first.first.rest ≢ [] = search rules in
    no_second v f.second f.second_plus (left c.in_ok-first.first.rest) (subst (λ n. IsSecond n f.second f.second_plus) same formed.second_is) formed.second_small (ap (drop 2) both) some (λ plus n more low high. c.in_default.ensures plus n more (omega (arith, c.from.ensures, low)) high)
