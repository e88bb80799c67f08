-- How far the values of a type reach, and what follows for the exact results.
use Rattle.std.proofs.Common.{◌≡◌, ℕ, suc, ◌-◌, ◌/◌, ◌%◌, ◌^◌, ◌<◌, ◌≤◌, not, cond, ℤ, pos, negsuc, neg_ℤ, ◌+ℤ◌, ◌-ℤ◌, ◌*ℤ◌, ◌≤ℤ◌, unsigned_abs, int_div, int_rem, int_le, Bool, true, false, FitsSigned, arith, subst}
use Rattle.std.specs.Int.{w128}
use Rattle.std.specs.Ordering.{int_eq}
use Rattle.std.proofs.lemmas.Int.{ints, quot-rem, fits_signed_mul}
use Rattle.std.proofs.lemmas.Bool.{and_parts, or_parts, not-false}
use Rattle.std.proofs.lemmas.Nat.{pow_pos}
use Rattle.std.proofs.Math.Nat.{pow-le-pow_right, mod-le, div-le_self}
use lib.IntN.{*ℤ_comm}
use Rattle.l2_bits.specs.declared.types.Ty.{Ty}
use Rattle.l2_bits.proofs.TypeLaws.{width_at_most}
use Rattle.l2_bits.specs.Values.{least, greatest, IsValue, is_value}
use Rattle.l2_bits.specs.Operators.{quotient, remainder, breaks_division, floor_div, IsRightOperand}
use Rattle.l2_bits.specs.declared.operators.Op.{Op}
use Rattle.l2_bits.specs.declared.operators.Op.TheVariants.{Mul}

two_pos : 0 < 2
two_pos = omega arith

power_at_most : (w : ℕ) → w ≤ 64 → 2 ^ w ≤ 2 ^ 64
power_at_most w h = pow-le-pow_right two_pos h

half_at_most : (w : ℕ) → w ≤ 64 → 2 ^ (w - 1) ≤ 2 ^ 63
half_at_most w h = let l : w - 1 ≤ 63 = omega arith in pow-le-pow_right two_pos l

pub value_small : (ty : Ty) (v : ℤ) → IsValue ty v → unsigned_abs v < 2 ^ 64
value_small ty v h = go ty.signed h.from h.to
  where
    go : (s : Bool) → cond s (neg_ℤ (pos (2 ^ (ty.width - 1)))) (pos 0) ≤ℤ v → v ≤ℤ cond s (pos (2 ^ (ty.width - 1) - 1)) (pos (2 ^ ty.width - 1)) → unsigned_abs v < 2 ^ 64
    go true from to = let l = half_at_most ty.width (width_at_most ty) in omega (arith, ints)
    go false from to = let l = power_at_most ty.width (width_at_most ty) in omega (arith, ints, pow_pos ty.width)

pub signed_small : (ty : Ty) (v : ℤ) → ty.signed ≡ true → IsValue ty v → unsigned_abs v ≤ 2 ^ 63
signed_small ty v e h = go ty.signed e h.from h.to
  where
    go : (s : Bool) → s ≡ true → cond s (neg_ℤ (pos (2 ^ (ty.width - 1)))) (pos 0) ≤ℤ v → v ≤ℤ cond s (pos (2 ^ (ty.width - 1) - 1)) (pos (2 ^ ty.width - 1)) → unsigned_abs v ≤ 2 ^ 63
    go true signed from to = let l = half_at_most ty.width (width_at_most ty) in omega (arith, ints)
    go false signed from to = cc

pub value_from_test : (ty : Ty) (v : ℤ) → is_value ty v ≡ true → IsValue ty v
value_from_test ty v h = let p = and_parts (int_le (least ty) v) (int_le v (greatest ty)) h in record { from = omega (arith, ints, p.0); to = omega (arith, ints, p.1) }

-- where no check breaks the quotient is a value
pub quotient_value : (ty : Ty) (a b : ℤ) → breaks_division ty a b ≡ false → IsValue ty (quotient a b)
unfolding breaks_division
quotient_value ty a b h = let p = or_parts (int_eq b (pos 0)) (not (is_value ty (quotient a b))) h in value_from_test ty (quotient a b) (not-false (is_value ty (quotient a b)) p.1)

pub remainder-is : (a b : ℤ) → int_rem a b ≡ remainder a b
remainder-is a b = less (int_div a b *ℤ b) (b *ℤ int_div a b) (int_rem a b) a (*ℤ_comm (int_div a b) b) (quot-rem a b)
  where
    less : (p q r a : ℤ) → p ≡ q → p +ℤ r ≡ a → r ≡ a -ℤ q
    less p q r a e s = omega (arith, ints)

-- 0 lies between the least and the greatest value, so what lies between 0 and a value is a value
under_value : (ty : Ty) (a : ℤ) (r : ℕ) → IsValue ty a → pos r ≤ℤ a → IsValue ty (pos r)
under_value ty a r h l = record { from = go ty.signed; to = omega (arith, ints, h.to) }
  where
    go : (s : Bool) → cond s (neg_ℤ (pos (2 ^ (ty.width - 1)))) (pos 0) ≤ℤ pos r
    go true = omega (arith, ints)
    go false = omega (arith, ints)

above_value : (ty : Ty) (a v : ℤ) → IsValue ty a → a ≤ℤ v → v ≤ℤ pos 0 → IsValue ty v
above_value ty a v h l k = record { from = omega (arith, ints, h.from); to = go ty.signed }
  where
    go : (s : Bool) → v ≤ℤ cond s (pos (2 ^ (ty.width - 1) - 1)) (pos (2 ^ ty.width - 1))
    go true = omega (arith, ints)
    go false = omega (arith, ints)

pub remainder_value : (ty : Ty) (a b : ℤ) → IsValue ty a → IsValue ty (int_rem a b)
remainder_value ty (pos a) b h = let l = mod-le a (unsigned_abs b) in under_value ty (pos a) (a % unsigned_abs b) h (omega (arith, ints))
remainder_value ty (negsuc a) b h = let l = mod-le (suc a) (unsigned_abs b) in above_value ty (negsuc a) (neg_ℤ (pos (suc a % unsigned_abs b))) h (omega (arith, ints)) (omega (arith, ints))

pub floor_value : (ty : Ty) (a : ℤ) (n : ℕ) → IsValue ty a → IsValue ty (floor_div a n)
floor_value ty (pos a) n h = let l = div-le_self a n in under_value ty (pos a) (a / n) h (omega (arith, ints))
floor_value ty (negsuc a) n h = let l = div-le_self a n in above_value ty (negsuc a) (negsuc (a / n)) h (omega (arith, ints)) (omega (arith, ints))

-- ---- products that fit 128 bits

pub shifted_fits : (ty : Ty) (a p : ℤ) (m : ℕ) → IsValue ty a → p ≡ pos m → m ≤ 2 ^ 63 → FitsSigned w128 (a *ℤ p)
shifted_fits ty a p m h e l =
    let s = value_small ty a h in
    fits_signed_mul w128 a p (2 ^ 64 - 1) (2 ^ 63) (omega arith) (rw e l) (omega arith)

pub product_fits : (ty : Ty) (a b : ℤ) → ty.signed ≡ true → IsValue ty a → IsValue ty b → FitsSigned w128 (a *ℤ b)
product_fits ty a b e h k = fits_signed_mul w128 a b (2 ^ 63) (2 ^ 63) (signed_small ty a e h) (signed_small ty b e k) (omega arith)

pub factor_value : (op : Op) (ty : Ty) (b : ℤ) → op ≡ Mul → IsRightOperand op ty b → IsValue ty b
factor_value op ty b e h = subst (λ o. IsRightOperand o ty b) e h
