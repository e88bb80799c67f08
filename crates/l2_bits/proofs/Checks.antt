-- When the checks break, as facts.
use Rattle.std.proofs.Common.{◌≡◌, Bool, true, false, not, ◌⊎◌, ◌↔◌, ℤ, pos, ◌≤ℤ◌, ◌<ℤ◌, int_lt, int_le, inl, inr, ⊎_elim, refl, sym, ◌∙◌, arith}
use Rattle.std.specs.Ordering.{int_eq}
use Rattle.std.proofs.lemmas.Int.{ints}
use Rattle.std.proofs.lemmas.Bool.{or_cases, or_left, or_right, not-true, not_from_false, and_from, false≢true}
use Rattle.l2_bits.specs.declared.types.Ty.{Ty}
use Rattle.l2_bits.specs.Values.{least, greatest, IsValue, is_value}
use Rattle.l2_bits.specs.Operators.{quotient, breaks_division, breaks_shift}
use Rattle.l2_bits.proofs.Bounds.{value_from_test}

pub value_test : (ty : Ty) (v : ℤ) → IsValue ty v → is_value ty v ≡ true
value_test ty v h = and_from (int_le (least ty) v) (int_le v (greatest ty)) (holds (least ty) v h.from) (holds v (greatest ty) h.to)
  where
    holds : (a b : ℤ) → a ≤ℤ b → int_le a b ≡ true
    holds a b l = grind (arith, ints)

pub no_value_test : (ty : Ty) (v : ℤ) → ¬ IsValue ty v → is_value ty v ≡ false
no_value_test ty v h = go (is_value ty v) refl
  where
    go : (t : Bool) → is_value ty v ≡ t → is_value ty v ≡ false
    go true e = absurd (h (value_from_test ty v e))
    go false e = e

is_zero : (b : ℤ) → int_eq b (pos 0) ≡ true → b ≡ pos 0
is_zero b e = grind (arith, ints)

zero_is : (b : ℤ) → b ≡ pos 0 → int_eq b (pos 0) ≡ true
zero_is b e = rw e refl

under : (a b : ℤ) → int_lt a b ≡ true → a <ℤ b
under a b e = omega (arith, ints)

from : (a b : ℤ) → int_lt a b ≡ false → b ≤ℤ a
from a b e = omega (arith, ints)

is_under : (a b : ℤ) → a <ℤ b → int_lt a b ≡ true
is_under a b h = grind (arith, ints)

is_from : (a b : ℤ) → b ≤ℤ a → int_lt a b ≡ false
is_from a b h = grind (arith, ints)

pub division_breaks : (ty : Ty) (a b : ℤ) → (breaks_division ty a b ≡ true) ↔ ((b ≡ pos 0) ⊎ (¬ IsValue ty (quotient a b)))
unfolding breaks_division
division_breaks ty a b = (to, back)
  where
    to : breaks_division ty a b ≡ true → (b ≡ pos 0) ⊎ (¬ IsValue ty (quotient a b))
    to e = ⊎_elim (λ z. inl (is_zero b z)) (λ n. inr (λ h. false≢true (sym (not-true (is_value ty (quotient a b)) n) ∙ value_test ty (quotient a b) h))) (or_cases (int_eq b (pos 0)) (not (is_value ty (quotient a b))) e)

    back : (b ≡ pos 0) ⊎ (¬ IsValue ty (quotient a b)) → breaks_division ty a b ≡ true
    back s = ⊎_elim (λ z. or_left (int_eq b (pos 0)) (not (is_value ty (quotient a b))) (zero_is b z)) (λ n. or_right (int_eq b (pos 0)) (not (is_value ty (quotient a b))) (not_from_false (is_value ty (quotient a b)) (no_value_test ty (quotient a b) n))) s

pub shift_breaks : (ty : Ty) (n : ℤ) → (breaks_shift ty n ≡ true) ↔ ((n <ℤ pos 0) ⊎ (pos ty.width ≤ℤ n))
unfolding breaks_shift
shift_breaks ty n = (to, back)
  where
    to : breaks_shift ty n ≡ true → (n <ℤ pos 0) ⊎ (pos ty.width ≤ℤ n)
    to e = ⊎_elim (λ z. inl (under n (pos 0) z)) (λ w. inr (from n (pos ty.width) (not-true (int_lt n (pos ty.width)) w))) (or_cases (int_lt n (pos 0)) (not (int_lt n (pos ty.width))) e)

    back : (n <ℤ pos 0) ⊎ (pos ty.width ≤ℤ n) → breaks_shift ty n ≡ true
    back s = ⊎_elim (λ z. or_left (int_lt n (pos 0)) (not (int_lt n (pos ty.width))) (is_under n (pos 0) z)) (λ w. or_right (int_lt n (pos 0)) (not (int_lt n (pos ty.width))) (not_from_false (int_lt n (pos ty.width)) (is_from n (pos ty.width) w))) s
