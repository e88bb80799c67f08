-- Decimal digits: which words spell a number, and that none spells two.
use Rattle.std.proofs.Common.{◌≡◌, ◌≢◌, ℕ, zero, suc, ◌+◌, ◌*◌, ◌/◌, ◌%◌, ◌^◌, ◌<◌, ◌≤◌, ℤ, pos, negsuc, List, [], ◌∷◌, ◌++◌, length, get_or, take, refl, sym, ap, subst, ◌∙◌, append_assoc, append-nil, arith, drop, Option, Some, None}
use Rattle.std.specs.Prelude.{MatchOption, FitsSigned}
use Rattle.std.specs.Int.{w128}
use Rattle.std.specs.Char.{digit_value}
use Rattle.std.specs.Fmt.{decimal, signed_decimal}
use Rattle.std.specs.Str.Parse.{AllDigits, digits_value, digits_value_after}
use Rattle.std.proofs.lemmas.Fmt.{decimal_is_IsNumeral_wide, decimal_digit, decimal_step_wide, decimal_by_steps_wide}
use Rattle.std.proofs.lemmas.List.{length-append}
use Rattle.std.proofs.lemmas.Int.Digits.{digits_value_more}
use Rattle.std.proofs.lemmas.Str.{digit_value_digit}
use Rattle.std.proofs.lemmas.Str.Parse.{digit_from_value, digits_value-take-le}
use Rattle.l2_lines.specs.Numbers.{BeginsPlainly}

-- ---- what decimal digits are

-- the first digit is no leading zero
pub record Starts (n : ℕ) (ds : List ℕ) : Type 0 where
  pub some : 0 < length ds
  pub first : 0 < n → 48 < get_or ds 0 0

starts : (n : ℕ) → n < 10 ^ 64 → Starts n (decimal n)
starts = decimal_by_steps_wide Starts
    (λ n small. record { some = omega arith; first = λ above. omega arith })
    (λ n ds large so. record {
      some = omega (arith, length-append ds ((48 + n % 10) ∷ []), so.some);
      first = λ _. let rest : 48 < get_or ds 0 0 = so.first (omega arith) in subst (λ x. 48 < x) (sym (first_of ds ((48 + n % 10) ∷ []) so.some)) rest;
    })
  where
    first_of : (ds es : List ℕ) → 0 < length ds → get_or (ds ++ es) 0 0 ≡ get_or ds 0 0
    first_of [] es some = absurd (omega arith)
    first_of (d ∷ ds) es some = refl

-- what is spelt begins plainly
pub decimal_begins_plainly : (n : ℕ) → n < 10 ^ 64 → BeginsPlainly (decimal n)
decimal_begins_plainly zero small = (omega (arith, ap length (decimal_digit 0 (omega arith))), λ _. ap length (decimal_digit 0 (omega arith)))
decimal_begins_plainly (suc n) small =
    let so = starts (suc n) small in
    (so.some, λ z. absurd (omega (arith, so.first (omega arith), z)))

-- ---- a number is spelt by what is read as it

le_value_after : (n : ℕ) (ds : List ℕ) → n ≤ digits_value_after 10 n ds
le_value_after n [] = omega arith
le_value_after n (c ∷ cs) = omega (arith, le_value_after (n * 10 + digit_value c) cs)

decimal_value_after : (n : ℕ) (ds : List ℕ) → 0 < n → AllDigits 10 ds → digits_value_after 10 n ds < 10 ^ 64 → decimal (digits_value_after 10 n ds) ≡ decimal n ++ ds
decimal_value_after n [] some d small = sym (append-nil (decimal n))
decimal_value_after n (c ∷ cs) some d small =
    let m : ℕ = n * 10 + digit_value c in
    let k = digit_value_digit c (digit_from_value c d.0) in
    let front : m / 10 ≡ n = omega (arith, d.0) in
    let end : 48 + m % 10 ≡ c = omega (arith, d.0) in
    decimal_value_after m cs (omega arith) d.1 small
    ∙ ap (λ x. x ++ cs) (decimal_step_wide m (omega arith) (omega (arith, le_value_after m cs)) ∙ (λ i. decimal (front i) ++ (end i ∷ [])))
    ∙ append_assoc (decimal n) (c ∷ []) cs

pub decimal_of_value : (ds : List ℕ) → AllDigits 10 ds → BeginsPlainly ds → digits_value 10 ds < 10 ^ 64 → decimal (digits_value 10 ds) ≡ ds
decimal_of_value [] d plain small = absurd (omega (arith, plain.0))
decimal_of_value (c ∷ []) d plain small =
    let k = digit_value_digit c (digit_from_value c d.0) in
    decimal_digit (0 * 10 + digit_value c) (omega (arith, d.0)) ∙ ap (λ x. x ∷ []) (omega arith)
decimal_of_value (c ∷ e ∷ cs) d plain small =
    let k = digit_value_digit c (digit_from_value c d.0) in
    let no : c ≡ 48 → ⊥ = λ z. omega (arith, plain.1 z) in
    let is : 48 + (0 * 10 + digit_value c) ≡ c = omega arith in
    decimal_value_after (0 * 10 + digit_value c) (e ∷ cs) (omega arith) d.1 small
    ∙ ap (λ x. x ++ (e ∷ cs)) (decimal_digit (0 * 10 + digit_value c) (omega (arith, d.0)) ∙ ap (λ x. x ∷ []) is)

-- ---- what spells no number

digit_at : (ds : List ℕ) (i : ℕ) → AllDigits 10 ds → i < length ds → digit_value (get_or ds i 0) < 10
digit_at [] i d inside = absurd (omega arith)
digit_at (c ∷ cs) zero d inside = d.0
digit_at (c ∷ cs) (suc i) d inside = digit_at cs i d.1 (omega arith)

-- where a number up to `most` is spelt, each digit can be pushed
pub digit_goes : (word : List ℕ) (i value most n : ℕ) → i < length word → most < 10 ^ 64 → value ≡ digits_value 10 (take i word) → n ≤ most → word ≡ decimal n → (digit_value (get_or word i 0) < 10) × (value * 10 + digit_value (get_or word i 0) ≤ most)
digit_goes word i value most n inside bound so within is =
    let numeral = decimal_is_IsNumeral_wide n (omega arith) in
    let digits : AllDigits 10 word = subst (AllDigits 10) (sym is) numeral.0.1 in
    let whole : digits_value 10 word ≡ n = ap (digits_value 10) is ∙ numeral.1 in
    (digit_at word i digits inside, omega (arith, whole, so, digits_value_more 10 word i inside, digits_value-take-le 10 word (i + 1) (omega arith)))

-- ---- no word spells two numbers

pub decimal_injective_wide : (m n : ℕ) → m < 10 ^ 64 → n < 10 ^ 64 → decimal m ≡ decimal n → m ≡ n
decimal_injective_wide m n small bound same = sym (decimal_is_IsNumeral_wide m small).1 ∙ ap (digits_value 10) same ∙ (decimal_is_IsNumeral_wide n bound).1

pub decimal-ne_minus : (n : ℕ) (ds : List ℕ) → n < 10 ^ 64 → decimal n ≢ 45 ∷ ds
decimal-ne_minus n ds small is = omega (arith, digit_from_value 45 (subst (AllDigits 10) is (decimal_is_IsNumeral_wide n small).0.1).0)

-- ---- whole numbers

-- what a word spells behind a `-`
pub whole_below : (word digits : List ℕ) (r : Option ℤ) → word ≡ 45 ∷ digits → MatchOption r ((n : ℕ) → n < 2 ^ 127 → digits ≢ decimal (n + 1)) (λ v. (n : ℕ) × (v ≡ negsuc n) × (digits ≡ decimal (n + 1))) → MatchOption r ((v : ℤ) → FitsSigned w128 v → word ≢ signed_decimal v) (λ v. word ≡ signed_decimal v)
whole_below word digits None is says = go
  where
    go : (v : ℤ) → FitsSigned w128 v → word ≢ signed_decimal v
    go (pos n) fits same = decimal-ne_minus n digits (omega (arith, fits.sfits)) (sym same ∙ is)
    go (negsuc n) fits same = says n (omega (arith, fits.sfits)) (ap (drop 1) (sym is ∙ same) ∙ ap decimal (omega arith))
whole_below word digits (Some v) is (n, value, same) = is ∙ ap (λ ds. 45 ∷ ds) (same ∙ ap decimal (omega arith)) ∙ ap signed_decimal (sym value)

pub signed_decimal_injective_wide : (y z : ℤ) → FitsSigned w128 y → FitsSigned w128 z → signed_decimal y ≡ signed_decimal z → y ≡ z
signed_decimal_injective_wide (pos m) (pos n) p q same = ap pos (decimal_injective_wide m n (omega (arith, p.sfits)) (omega (arith, q.sfits)) same)
signed_decimal_injective_wide (pos m) (negsuc n) p q same = absurd (decimal-ne_minus m _ (omega (arith, p.sfits)) same)
signed_decimal_injective_wide (negsuc m) (pos n) p q same = absurd (decimal-ne_minus n _ (omega (arith, q.sfits)) (sym same))
signed_decimal_injective_wide (negsuc m) (negsuc n) p q same = ap negsuc (omega (arith, decimal_injective_wide (suc m) (suc n) (omega (arith, p.sfits)) (omega (arith, q.sfits)) (ap (drop 1) same)))
