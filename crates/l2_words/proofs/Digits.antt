-- Numbers as `parse` of std reads them.
use Rattle.std.proofs.Common.{◌≡◌, ℕ, ◌<◌, ◌≤◌, ◌^◌, Bool, true, false, List, [], ◌∷◌, length, refl, ap, ◌∙◌, sym, arith}
use Rattle.std.specs.Prelude.{Some, None, Err, nat_lt, nat_le, ◌&&◌, if◌then◌else◌}
use Rattle.std.specs.Char.{digit_value}
use Rattle.std.specs.Str.Parse.{AllDigits, IsNumeral, ParsesUnsigned, digits_value, without_leading_plus}
use Rattle.std.proofs.lemmas.Bool.{lt-ltb, ltb-true, ltb-false, le-leb, leb-true}
use Rattle.std.specs.Cmp.Derive.{both_true}
use Rattle.clap.proofs.WalkLemmas.{both}
use Rattle.l2_words.specs.Numbers.{are_digits, digits_number, number, within, number_between}

are_digits_so : (ds : List ℕ) → AllDigits 10 ds → are_digits ds ≡ true
are_digits_so [] d = refl
are_digits_so (c ∷ cs) (d, rest) = both_true (lt-ltb (digit_value c) 10 d) (are_digits_so cs rest)

all_digits : (ds : List ℕ) → are_digits ds ≡ true → AllDigits 10 ds
all_digits [] e = tt
all_digits (c ∷ cs) e =
    let p = both (nat_lt (digit_value c) 10) (are_digits cs) e in
    (ltb-true (digit_value c) 10 p.0, all_digits cs p.1)

numeral : (ds : List ℕ) → IsNumeral 10 ds → digits_number ds ≡ Some (digits_value 10 ds)
numeral [] (more, all) = let bad : 0 < 0 = more in absurd (omega arith)
numeral (c ∷ cs) (more, all) = ap (λ b. if b then Some (digits_value 10 (c ∷ cs)) else None) (are_digits_so (c ∷ cs) all)

pub number_read : (text : List ℕ) (n : ℕ) →
    (IsNumeral 10 (without_leading_plus text) × (digits_value 10 (without_leading_plus text) < 2 ^ 32)) × (n ≡ digits_value 10 (without_leading_plus text)) →
    number text ≡ Some n
number_read text n ((is, fits), e) = numeral (without_leading_plus text) is ∙ ap Some (sym e)

not_both : (a b : Bool) (v : ℕ) → b ≡ false → (if a && b then Some v else None) ≡ None
not_both true b v e = ap (λ x. if x then Some v else None) e
not_both false b v e = refl

pub above : (least most v : ℕ) → most < v → within least most (Some v) ≡ None
above least most v lt = go (nat_le v most) refl where
  go : (b : Bool) → nat_le v most ≡ b → within least most (Some v) ≡ None
  go true e = let le = leb-true v most e in absurd (omega arith)
  go false e = not_both (nat_le least v) (nat_le v most) v e

none_read : (ds : List ℕ) (least most : ℕ) → most < 2 ^ 32 → ¬ (IsNumeral 10 ds × (digits_value 10 ds < 2 ^ 32)) → within least most (digits_number ds) ≡ None
none_read [] least most small not = refl
none_read (c ∷ cs) least most small not = go (are_digits (c ∷ cs)) refl where
  go : (b : Bool) → are_digits (c ∷ cs) ≡ b → within least most (if b then Some (digits_value 10 (c ∷ cs)) else None) ≡ None
  go false e = refl
  go true e = big (nat_lt (digits_value 10 (c ∷ cs)) (2 ^ 32)) refl where
    big : (b : Bool) → nat_lt (digits_value 10 (c ∷ cs)) (2 ^ 32) ≡ b → within least most (Some (digits_value 10 (c ∷ cs))) ≡ None
    big true f = absurd (not ((let more : 0 < length (c ∷ cs) = omega arith in more, all_digits (c ∷ cs) e), ltb-true (digits_value 10 (c ∷ cs)) (2 ^ 32) f))
    big false f = above least most (digits_value 10 (c ∷ cs)) (let le = ltb-false (digits_value 10 (c ∷ cs)) (2 ^ 32) f in omega arith)

pub number_missing : {E : Type 0} (text : List ℕ) (least most : ℕ) (x : E) → most < 2 ^ 32 → ParsesUnsigned 32 10 text (Err x) → number_between least most text ≡ None
number_missing text least most x small not = none_read (without_leading_plus text) least most small not

pub read_between : (text : List ℕ) (least most n : ℕ) → number text ≡ Some n → least ≤ n → n ≤ most → number_between least most text ≡ Some n
read_between text least most n e h k =
    ap (λ r. within least most r) e ∙ ap (λ b. if b then Some n else None) (both_true (le-leb least n h) (le-leb n most k))
