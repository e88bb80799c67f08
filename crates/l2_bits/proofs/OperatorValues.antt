-- The answer of each operator is a value of its type.
use Rattle.std.proofs.Common.{◌≡◌, ℕ, ◌-◌, ◌^◌, ◌≤◌, Bool, true, false, cond, ◌==◌, ℤ, pos, neg_ℤ, ◌≤ℤ◌, unsigned_abs, Some, None, IfSome, refl, ap, subst, arith}
use Rattle.std.specs.Ordering.{int_eq}
use Rattle.std.proofs.lemmas.Int.{ints}
use Rattle.std.proofs.lemmas.Bool.{eqb-true}
use Rattle.l2_bits.proofs.TypeLaws.{no_sign}
use Rattle.l2_bits.specs.declared.types.Ty.{Ty}
use Rattle.l2_bits.specs.Values.{IsValue, wrap}
use Rattle.l2_bits.specs.Operators.{quotient, remainder, breaks_division, div, rem, shifted_left, shifted_right, breaks_shift, shl, shr, convert}
use Rattle.l2_bits.proofs.Wraps.{wrap_value}
use Rattle.l2_bits.proofs.Bounds.{quotient_value, remainder-is, remainder_value, floor_value}

pub div_value : (ty : Ty) (a b : ℤ) → IfSome (div ty a b) (IsValue ty)
unfolding div
div_value ty a b = go (breaks_division ty a b) (quotient_value ty a b)
  where
    go : (t : Bool) → (t ≡ false → IsValue ty (quotient a b)) → IfSome (cond t None (Some (quotient a b))) (IsValue ty)
    go true f = tt
    go false f = f refl

pub rem_value : (ty : Ty) (a b : ℤ) → IsValue ty a → IfSome (rem ty a b) (IsValue ty)
unfolding rem
rem_value ty a b h = go (breaks_division ty a b)
  where
    go : (t : Bool) → IfSome (cond t None (Some (remainder a b))) (IsValue ty)
    go true = tt
    go false = subst (λ r. IsValue ty r) (remainder-is a b) (remainder_value ty a b h)

pub shl_value : (ty : Ty) (a n : ℤ) → IfSome (shl ty a n) (IsValue ty)
unfolding shl
shl_value ty a n = go (breaks_shift ty n)
  where
    go : (t : Bool) → IfSome (cond t None (Some (wrap ty (shifted_left a n)))) (IsValue ty)
    go true = tt
    go false = wrap_value ty (shifted_left a n)

pub shr_value : (ty : Ty) (a n : ℤ) → IsValue ty a → IfSome (shr ty a n) (IsValue ty)
unfolding shr
shr_value ty a n h = go (breaks_shift ty n)
  where
    go : (t : Bool) → IfSome (cond t None (Some (shifted_right a n))) (IsValue ty)
    go true = tt
    go false = floor_value ty a (2 ^ unsigned_abs n) h

one_bit : (s : Bool) (w r : ℕ) → w ≡ 1 → s ≡ false → r ≤ 1 → (cond s (neg_ℤ (pos (2 ^ (w - 1)))) (pos 0) ≤ℤ pos r) × (pos r ≤ℤ cond s (pos (2 ^ (w - 1) - 1)) (pos (2 ^ w - 1)))
one_bit true w r e f h = cc
one_bit false w r e f h = let p : 2 ^ w ≡ 2 = ap (λ x. 2 ^ x) e in (omega (arith, ints), omega (arith, ints))

truth_value : (to : Ty) (r : ℕ) → to.width ≡ 1 → r ≤ 1 → IsValue to (pos r)
truth_value to r e h = let p = one_bit to.signed to.width r e (no_sign to e) h in record { from = p.0; to = p.1 }

pub convert_value : (to : Ty) (v : ℤ) → IsValue to (convert to v)
unfolding convert
convert_value to v = go (to.width == 1) refl
  where
    go : (t : Bool) → (to.width == 1) ≡ t → IsValue to (cond t (cond (int_eq v (pos 0)) (pos 0) (pos 1)) (wrap to v))
    go true e = truth (int_eq v (pos 0))
      where
        truth : (z : Bool) → IsValue to (cond z (pos 0) (pos 1))
        truth true = truth_value to 0 (eqb-true to.width 1 e) (omega arith)
        truth false = truth_value to 1 (eqb-true to.width 1 e) (omega arith)
    go false e = wrap_value to v
