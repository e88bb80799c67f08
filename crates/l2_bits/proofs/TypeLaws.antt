-- A type is told by its width and its sign; how wide a type is.
use Rattle.std.proofs.Common.{◌≡◌, ℕ, zero, suc, ◌<◌, ◌≤◌, Bool, true, false, T, refl, ap, subst, arith}
use lib.Dec.{T_prop}
use Rattle.l2_bits.specs.declared.types.Ty.{Ty}
use Rattle.l2_bits.specs.Widths.{is_type, IsType}
use Rattle.l2_bits.specs.Types.{type_of}

one_proof : (width : ℕ) (signed : Bool) (p q : IsType width signed) → type_of width signed p ≡ type_of width signed q
one_proof width signed p q = ap (type_of width signed) (T_prop (is_type width signed) p q)

pub same_type : (s t : Ty) → s.width ≡ t.width → s.signed ≡ t.signed → s ≡ t
same_type s t e f =
    subst (λ w. (q : IsType w t.signed) → s ≡ type_of w t.signed q) e
    (subst (λ b. (q : IsType s.width b) → s ≡ type_of s.width b q) f (one_proof s.width s.signed s.lawful)) t.lawful

true_of : (b : Bool) → T b → b ≡ true
true_of true h = refl
true_of false h = absurd h

type_test : (ty : Ty) → is_type ty.width ty.signed ≡ true
type_test ty = true_of (is_type ty.width ty.signed) ty.lawful

pub width_pos : (ty : Ty) → 0 < ty.width
width_pos ty = go ty.width ty.signed (type_test ty)
  where
    go : (w : ℕ) (s : Bool) → is_type w s ≡ true → 0 < w
    go zero s h = cc
    go (suc w) s h = omega arith

pub width_at_most : (ty : Ty) → ty.width ≤ 64
width_at_most ty = go ty.width ty.signed (type_test ty)
  where
    go : (w : ℕ) (s : Bool) → is_type w s ≡ true → w ≤ 64
    go w s h = grind arith

-- `_Bool` has no sign
pub no_sign : (ty : Ty) → ty.width ≡ 1 → ty.signed ≡ false
no_sign ty e = go ty.width ty.signed (type_test ty) e
  where
    go : (w : ℕ) (s : Bool) → is_type w s ≡ true → w ≡ 1 → s ≡ false
    go w s h e = grind arith
