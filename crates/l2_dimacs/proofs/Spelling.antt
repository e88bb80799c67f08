-- Words of a formula: no word spells two numbers.
use Rattle.std.proofs.Common.{◌≡◌, ◌≢◌, ℕ, zero, suc, ◌<◌, ◌≤◌, ◌^◌, ℤ, pos, negsuc, nat_abs, List, [], ◌∷◌, length, take, drop, get_or, codes, refl, sym, ap, subst, ◌∙◌, true, false, arith}
use Rattle.std.specs.Str.Parse.{AllDigits, digits_value}
use Rattle.std.proofs.lemmas.Str.Parse.{digit_from_value}
use Rattle.std.specs.Char.{digit_value}
use Rattle.std.proofs.lemmas.Str.Parse.{IsNumeralModel, digits_value_short}
use Rattle.std.proofs.lemmas.List.{length-take-le}
use Rattle.l2_cnf.specs.Lit.{positive}
use Rattle.l2_dimacs.specs.Profile.{IsNumber, Spells}

pub one_number : (word : List ℕ) (m n : ℕ) → IsNumber word m → IsNumber word n → m ≡ n
one_number word m n first second = sym first.value ∙ second.value

-- a word that doesn't begin with a digit is no number
no_digit : (word behind : List ℕ) (b n : ℕ) → b < 48 → word ≡ b ∷ behind → ¬ IsNumber word n
no_digit word behind b n low is number =
    let digits : AllDigits 10 (b ∷ behind) = subst (AllDigits 10) is number.digits in
    omega (arith, low, digit_from_value b digits.0)

pub minus_is_no_number : (word digits : List ℕ) (n : ℕ) → word ≡ 45 ∷ digits → ¬ IsNumber word n
minus_is_no_number word digits n is = no_digit word digits 45 n (omega arith) is

zero_is : digits_value 10 (codes "0") ≡ 0
zero_is = refl

zero_no_number : (word : List ℕ) (n : ℕ) → word ≡ codes "0" → ¬ IsNumber word (suc n)
zero_no_number word n is number =
    let same : 0 ≡ suc n = sym zero_is ∙ ap (digits_value 10) (sym is) ∙ number.value in
    omega (arith, same)

zero_no_minus : (word digits : List ℕ) → word ≡ codes "0" → word ≢ 45 ∷ digits
zero_no_minus word digits is other =
    let same : 48 ≡ 45 = ap (λ w. get_or w 0 0) (sym is ∙ other) in
    omega (arith, same)

pub one_item : (v : ℕ) (y z : ℤ) (word : List ℕ) → Spells v y word → Spells v z word → y ≡ z
one_item v (pos zero) (pos zero) word first second = refl
one_item v (pos zero) (pos (suc n)) word first second = absurd (zero_no_number word n first second.1)
one_item v (pos zero) (negsuc n) word first second = absurd (zero_no_minus word second.1.0 first second.1.1)
one_item v (pos (suc m)) (pos zero) word first second = absurd (zero_no_number word m second first.1)
one_item v (pos (suc m)) (pos (suc n)) word first second = ap pos (one_number word (suc m) (suc n) first.1 second.1)
one_item v (pos (suc m)) (negsuc n) word first second = absurd (minus_is_no_number word second.1.0 (suc m) second.1.1 first.1)
one_item v (negsuc m) (pos zero) word first second = absurd (zero_no_minus word first.1.0 second first.1.1)
one_item v (negsuc m) (pos (suc n)) word first second = absurd (minus_is_no_number word first.1.0 (suc n) first.1.1 second.1)
one_item v (negsuc m) (negsuc n) word first second =
    let same : first.1.0 ≡ second.1.0 = ap (drop 1) (sym first.1.1 ∙ second.1.1) in
    let value : suc m ≡ suc n = one_number second.1.0 (suc m) (suc n) (subst (λ ds. IsNumber ds (suc m)) same first.1.2) second.1.2 in
    ap negsuc (omega (arith, value))

pub percent_spells_none : (v : ℕ) (z : ℤ) (word : List ℕ) → word ≡ codes "%" → ¬ Spells v z word
percent_spells_none v (pos zero) word is spells =
    let same : 37 ≡ 48 = ap (λ w. get_or w 0 0) (sym is ∙ spells) in
    omega (arith, same)
percent_spells_none v (pos (suc n)) word is spells = no_digit word [] 37 (suc n) (omega arith) is spells.1
percent_spells_none v (negsuc n) word is spells =
    let same : 37 ≡ 45 = ap (λ w. get_or w 0 0) (sym is ∙ spells.1.1) in
    omega (arith, same)

-- ---- what a word spells, by its form

pub spells_positive : (v n : ℕ) (l : ℤ) (word : List ℕ) → nat_abs l ≡ n → positive l ≡ true → 1 ≤ n → n ≤ v → IsNumber word n → Spells v l word
spells_positive v n (pos zero) word is sign some most number = let none : 0 ≡ n = is in absurd (omega (arith, none, some))
spells_positive v n (pos (suc m)) word is sign some most number = let same : suc m ≡ n = is in (omega (arith, same, most), subst (IsNumber word) (sym same) number)
spells_positive v n (negsuc m) word is sign some most number = let clash : false ≡ true = sign in cc

pub spells_negative : (v n : ℕ) (l : ℤ) (word digits : List ℕ) → nat_abs l ≡ n → positive l ≡ false → n ≤ v → word ≡ 45 ∷ digits → IsNumber digits n → Spells v l word
spells_negative v n (pos m) word digits is sign most so number = let clash : true ≡ false = sign in cc
spells_negative v n (negsuc m) word digits is sign most so number = let same : suc m ≡ n = is in (omega (arith, same, most), (digits, so, subst (IsNumber digits) (sym same) number))

-- where no digits spell a variable behind a `-`, nothing is spelt
pub no_negative : (v : ℕ) (z : ℤ) (word digits : List ℕ) → word ≡ 45 ∷ digits → ((n : ℕ) → 1 ≤ n → n ≤ v → ¬ IsNumber digits n) → ¬ Spells v z word
no_negative v (pos zero) word digits is none spells = zero_no_minus word digits spells is
no_negative v (pos (suc n)) word digits is none spells = minus_is_no_number word digits (suc n) is spells.1
no_negative v (negsuc n) word digits is none spells =
    let same : spells.1.0 ≡ digits = ap (drop 1) (sym spells.1.1 ∙ is) in
    none (suc n) (omega arith) spells.0 (subst (λ ds. IsNumber ds (suc n)) same spells.1.2)

pub no_positive : (v : ℕ) (z : ℤ) (word : List ℕ) → word ≢ codes "0" → ((digits : List ℕ) → word ≢ 45 ∷ digits) → ((n : ℕ) → 1 ≤ n → n ≤ v → ¬ IsNumber word n) → ¬ Spells v z word
no_positive v (pos zero) word no_end no_minus none spells = no_end spells
no_positive v (pos (suc n)) word no_end no_minus none spells = none (suc n) (omega arith) spells.0 spells.1
no_positive v (negsuc n) word no_end no_minus none spells = no_minus spells.1.0 spells.1.1

-- ---- digits, one by one

pub digit_below : (ds : List ℕ) (i : ℕ) → AllDigits 10 ds → i < length ds → digit_value (get_or ds i 0) < 10
digit_below [] i digits within = absurd (omega arith)
digit_below (c ∷ cs) zero digits within = digits.0
digit_below (c ∷ cs) (suc i) digits within = digit_below cs i digits.1 (omega arith)

identity : IsNumeralModel (AllDigits 10) (digits_value 10)
identity = record { to = λ ds h. h; from = λ ds h. h; same = λ ds h. refl }

pub small_digits : (ds : List ℕ) → AllDigits 10 ds → length ds ≤ 18 → digits_value 10 ds < 10 ^ 18
small_digits ds digits few = digits_value_short identity ds 18 digits few

pub small_number : (word : List ℕ) (n : ℕ) → IsNumber word n → n < 10 ^ 18
small_number word n number = subst (λ m. m < 10 ^ 18) number.value (small_digits word number.digits number.most)

pub small_so_far : (word : List ℕ) (i value : ℕ) → length word ≤ 18 → i ≤ length word → AllDigits 10 (take i word) → value ≡ digits_value 10 (take i word) → value < 10 ^ 18
small_so_far word i value few within digits is =
    subst (λ m. m < 10 ^ 18) (sym is) (small_digits (take i word) digits (omega (arith, few, within, length-take-le i word within)))
