-- Quotients and rests of words that show numbers.
use Rattle.std.proofs.Common.{◌≡◌, ◌≢◌, ℕ, zero, suc, ◌+◌, ◌-◌, ◌*◌, ◌/◌, ◌%◌, ◌^◌, ◌≤◌, ◌<◌, Bool, true, false, ℤ, pos, negsuc, neg_ℤ, ◌-ℤ◌, ◌≤ℤ◌, ◌<ℤ◌, int_lt, int_rem, unsigned_abs, refl, sym, ap, ◌∙◌, subst, List, length, arith}
use Rattle.std.proofs.lemmas.Int.{ints}
use Rattle.std.proofs.lemmas.Nat.{pow_pos, div-mul-add}
use Rattle.std.proofs.Math.Nat.{mod-eq_of_lt}
use Rattle.l2_bits.specs.Operators.{quotient, remainder}
use Rattle.l2_bits.proofs.Bounds.{remainder-is}
use Rattle.l2_gates.specs.Gates.{Lit, F, Made, xor}
use Rattle.l2_gates.specs.Models.{differ, Ok}
use Rattle.l2_gates.proofs.Values.{xor_gives}
use Rattle.l2_circuits.specs.Words.{top, resized}
use Rattle.l2_circuits.specs.Products.{Divided, divide, divide_signed, turned}
use Rattle.l2_circuit_laws.specs.Values.{values, number}
use Rattle.l2_circuit_laws.specs.Law.{picked}
use Rattle.l2_circuit_laws.specs.Shows.{Shows, IsSigned}
use Rattle.l2_circuit_laws.proofs.Shown.{same_of_length, length_of_same, only_rest}
use Rattle.l2_circuit_laws.proofs.Quotients.{quotients_are}
use Rattle.l2_operator_laws.specs.Words.{Tells}
use Rattle.l2_operator_laws.specs.Law.{GainsQuotient, QuotientsShow}
use Rattle.l2_operator_laws.proofs.Cut.{doubled}
use Rattle.l2_operator_laws.proofs.Before.{turned_before, divide_before}
use Rattle.l2_operator_laws.proofs.Signs.{top_sign, turned_shows, absolute}

-- ---- without signs

-- what is left of a number is told by the quotient
record Divided_by (q r x y : ℕ) : Type 0 where
  quotient : q ≡ x / y
  rest : r ≡ x % y

divided_by : (q r x y : ℕ) → q * y + r ≡ x → r < y → Divided_by q r x y
divided_by q r x y e h = record {
  quotient = sym (ap (λ z. z / y) (sym e) ∙ div-mul-add q y r h);
  rest = only_rest r q y x (let f : r + q * y ≡ x = omega (arith, e) in f) h;
}

-- a number below the power that a word's bits are
shows_small : (v : ℕ → Bool) (n : ℕ) (a : List Lit) (q : ℕ) → length a ≡ n → number (values v a) ≡ q → q < 2 ^ n → Shows v n a (pos q)
shows_small v n a q e f h = record { size = e; number = f ∙ sym (mod-eq_of_lt h) }

-- words that show numbers that aren't negative
record Parts (v : ℕ → Bool) (m : Made) (n : ℕ) (d : Divided) (x y : ℕ) : Type 0 where
  before : Ok v m
  quotient : Shows v n d.quotient (pos (x / y))
  rest : Shows v n d.rest (pos (x % y))

number_of_word : (v : ℕ → Bool) (n : ℕ) (a : List Lit) (x : ℕ) → x < 2 ^ n → Shows v n a (pos x) → number (values v a) ≡ x
number_of_word v n a x h s = s.number ∙ mod-eq_of_lt h

divide_shows : (v : ℕ → Bool) → v 0 ≡ true → (n : ℕ) (a b : List Lit) (x y : ℕ) (m : Made) → x < 2 ^ n → y < 2 ^ n → 0 < y → Shows v n a (pos x) → Shows v n b (pos y)
    → Ok v (divide a b m).made → Parts v m n (divide a b m) x y
divide_shows v truth n a b x y m hx hy some s t ok =
    let na = number_of_word v n a x hx s in
    let nb = number_of_word v n b y hy t in
    let d = divide a b m in
    let r = quotients_are v truth a b m (same_of_length a b (s.size ∙ sym t.size)) (subst (λ z. 0 < z) (sym nb) some) ok in
    let q = number (values v d.quotient) in
    let e = number (values v d.rest) in
    let is : q * y + e ≡ x = ap (λ z. q * z + e) (sym nb) ∙ r.is ∙ na in
    let small : e < y = subst (λ z. e < z) nb r.small in
    let p = divided_by q e x y is small in
    let qx : q ≤ x = at_most q y e x some is in
    record {
      before = r.before;
      quotient = shows_small v n d.quotient (x / y) (length_of_same d.quotient a r.quotient_size ∙ s.size) p.quotient (subst (λ z. z < 2 ^ n) p.quotient (omega (arith, qx, hx)));
      rest = shows_small v n d.rest (x % y) (length_of_same d.rest a r.rest_size ∙ s.size) p.rest (subst (λ z. z < 2 ^ n) p.rest (omega (arith, small, hy)));
    }
  where
    at_most : (q y e x : ℕ) → 0 < y → q * y + e ≡ x → q ≤ x
    at_most q zero e x h k = absurd (omega (arith, h))
    at_most q (suc y) e x h k = let f : q * suc y ≡ q + q * y = grind arith in omega (arith, f, k)

-- ---- numbers

quotient_sign : (x y : ℤ) → picked (differ (int_lt x (pos 0)) (int_lt y (pos 0))) (pos 0 -ℤ pos (unsigned_abs x / unsigned_abs y)) (pos (unsigned_abs x / unsigned_abs y)) ≡ quotient x y
quotient_sign x y = by_signs x y
  where
    none : (q : ℕ) → pos 0 -ℤ pos q ≡ neg_ℤ (pos q)
    none q = omega (arith, ints)

    plus : (j : ℕ) → int_lt (pos j) (pos 0) ≡ false
    plus j = grind (arith, ints)

    minus : (j : ℕ) → int_lt (negsuc j) (pos 0) ≡ true
    minus j = grind (arith, ints)

    by_signs : (x y : ℤ) → picked (differ (int_lt x (pos 0)) (int_lt y (pos 0))) (pos 0 -ℤ pos (unsigned_abs x / unsigned_abs y)) (pos (unsigned_abs x / unsigned_abs y)) ≡ quotient x y
    by_signs (pos j) (pos k) = (λ i. picked (differ (plus j i) (plus k i)) (pos 0 -ℤ pos (j / k)) (pos (j / k)))
    by_signs (pos j) (negsuc k) = (λ i. picked (differ (plus j i) (minus k i)) (pos 0 -ℤ pos (j / suc k)) (pos (j / suc k))) ∙ none (j / suc k)
    by_signs (negsuc j) (pos k) = (λ i. picked (differ (minus j i) (plus k i)) (pos 0 -ℤ pos (suc j / k)) (pos (suc j / k))) ∙ none (suc j / k)
    by_signs (negsuc j) (negsuc k) = (λ i. picked (differ (minus j i) (minus k i)) (pos 0 -ℤ pos (suc j / suc k)) (pos (suc j / suc k)))

rest_sign : (x y : ℤ) → picked (int_lt x (pos 0)) (pos 0 -ℤ pos (unsigned_abs x % unsigned_abs y)) (pos (unsigned_abs x % unsigned_abs y)) ≡ remainder x y
rest_sign x y = by_sign x ∙ remainder-is x y
  where
    none : (q : ℕ) → pos 0 -ℤ pos q ≡ neg_ℤ (pos q)
    none q = omega (arith, ints)

    plus : (j : ℕ) → int_lt (pos j) (pos 0) ≡ false
    plus j = grind (arith, ints)

    minus : (j : ℕ) → int_lt (negsuc j) (pos 0) ≡ true
    minus j = grind (arith, ints)

    by_sign : (x : ℤ) → picked (int_lt x (pos 0)) (pos 0 -ℤ pos (unsigned_abs x % unsigned_abs y)) (pos (unsigned_abs x % unsigned_abs y)) ≡ int_rem x y
    by_sign (pos j) = ap (λ t. picked t (pos 0 -ℤ pos (j % unsigned_abs y)) (pos (j % unsigned_abs y))) (plus j)
    by_sign (negsuc j) = ap (λ t. picked t (pos 0 -ℤ pos (suc j % unsigned_abs y)) (pos (suc j % unsigned_abs y))) (minus j) ∙ none (suc j % unsigned_abs y)

-- how large the absolute value of a number that fits is
abs_small : (n : ℕ) (x : ℤ) → 1 ≤ n → IsSigned n x → unsigned_abs x < 2 ^ n
abs_small zero x some f = absurd (omega arith)
abs_small (suc i) x some f = go x (subst (λ j. neg_ℤ (pos (2 ^ j)) ≤ℤ x) minus f.from) (subst (λ j. x <ℤ pos (2 ^ j)) minus f.to)
  where
    minus : suc i - 1 ≡ i
    minus = omega arith

    go : (x : ℤ) → neg_ℤ (pos (2 ^ i)) ≤ℤ x → x <ℤ pos (2 ^ i) → unsigned_abs x < 2 ^ suc i
    go (pos j) from to = let d = doubled i in omega (arith, ints)
    go (negsuc j) from to = let d = doubled i in let p = pow_pos i in omega (arith, ints)

abs_some : (y : ℤ) → y ≢ pos 0 → 0 < unsigned_abs y
abs_some (pos zero) h = absurd (h refl)
abs_some (pos (suc j)) h = omega arith
abs_some (negsuc j) h = omega arith

-- ---- with signs

-- a word that is negated where the number is negative
magnitude : (v : ℕ → Bool) → v 0 ≡ true → (n : ℕ) (a : List Lit) (x : ℤ) (m : Made) → Tells v true n a x → Ok v (turned (top a) a m).made → Shows v n (turned (top a) a m).bits (pos (unsigned_abs x))
magnitude v truth n a x m s ok =
    let t = turned_shows v truth n (top a) a x m s.shows ok in
    subst (λ z. Shows v n (turned (top a) a m).bits z) (ap (λ t. picked t (pos 0 -ℤ x) x) (top_sign v truth n a x s.some s.fits s.shows) ∙ absolute x) t.shows

signed_show : (v : ℕ → Bool) → v 0 ≡ true → (n : ℕ) (a b : List Lit) (x y : ℤ) (m : Made) → Tells v true n a x → Tells v true n b y → y ≢ pos 0
    → Ok v (divide_signed a b m).made → GainsQuotient v m n (divide_signed a b m) x y
signed_show v truth n a b x y m sa sb h ok =
    let p = turned (top a) a m in
    let q = turned (top b) b p.made in
    let d = divide p.bits q.bits q.made in
    let t = xor (top a) (top b) d.made in
    let u = turned t.bit d.quotient t.made in
    let r = turned (top a) d.rest u.made in
    let ok5 = turned_before v truth (top a) d.rest u.made ok in
    let ok4 = turned_before v truth t.bit d.quotient t.made ok5 in
    let gt = xor_gives v truth (top a) (top b) d.made ok4 in
    let ok2 = divide_before v truth p.bits (resized (suc (length q.bits)) F q.bits) q.made gt.before in
    let ok1 = turned_before v truth (top b) b p.made ok2 in
    let X = unsigned_abs x in
    let Y = unsigned_abs y in
    let gp = magnitude v truth n a x m sa ok1 in
    let gq = magnitude v truth n b y p.made sb ok2 in
    let gd = divide_shows v truth n p.bits q.bits X Y q.made (abs_small n x sa.some sa.fits) (abs_small n y sb.some sb.fits) (abs_some y h) gp gq gt.before in
    let nx = top_sign v truth n a x sa.some sa.fits sa.shows in
    let ny = top_sign v truth n b y sb.some sb.fits sb.shows in
    let gu = turned_shows v truth n t.bit d.quotient (pos (X / Y)) t.made gd.quotient ok5 in
    let gr = turned_shows v truth n (top a) d.rest (pos (X % Y)) u.made gd.rest ok in
    record {
      before = turned_before v truth (top a) a m ok1;
      quotient = subst (λ z. Shows v n u.bits z) (ap (λ c. picked c (pos 0 -ℤ pos (X / Y)) (pos (X / Y))) (gt.is ∙ (λ i. differ (nx i) (ny i))) ∙ quotient_sign x y) gu.shows;
      rest = subst (λ z. Shows v n r.bits z) (ap (λ c. picked c (pos 0 -ℤ pos (X % Y)) (pos (X % Y))) nx ∙ rest_sign x y) gr.shows;
    }

plain_show : (v : ℕ → Bool) → v 0 ≡ true → (n : ℕ) (a b : List Lit) (x y : ℤ) (m : Made) → Tells v false n a x → Tells v false n b y → y ≢ pos 0
    → Ok v (divide a b m).made → GainsQuotient v m n (divide a b m) x y
plain_show v truth n a b (pos j) (pos k) m sa sb h ok =
    let g = divide_shows v truth n a b j k m (under j sa.fits.to) (under k sb.fits.to) (abs_some (pos k) h) sa.shows sb.shows ok in
    record { before = g.before; quotient = g.quotient; rest = subst (λ z. Shows v n (divide a b m).rest z) (remainder-is (pos j) (pos k)) g.rest }
  where
    under : (j : ℕ) → pos j <ℤ pos (2 ^ n) → j < 2 ^ n
    under j l = omega (arith, ints)
plain_show v truth n a b (negsuc j) y m sa sb h ok = absurd (none j sa.fits.from)
  where
    none : (j : ℕ) → pos 0 ≤ℤ negsuc j → ⊥
    none j l = omega (arith, ints)
plain_show v truth n a b x (negsuc k) m sa sb h ok = absurd (none k sb.fits.from)
  where
    none : (j : ℕ) → pos 0 ≤ℤ negsuc j → ⊥
    none j l = omega (arith, ints)

pub quotients_show : QuotientsShow
quotients_show v truth true n a b x y m sa sb h ok = signed_show v truth n a b x y m sa sb h ok
quotients_show v truth false n a b x y m sa sb h ok = plain_show v truth n a b x y m sa sb h ok
