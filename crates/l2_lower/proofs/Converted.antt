-- A number that is of a type already is its own conversion.
use Rattle.std.proofs.Common.{◌≡◌, ℕ, zero, suc, ◌-◌, ◌^◌, ℤ, pos, negsuc, neg_ℤ, ◌≤ℤ◌, Bool, true, false, cond, ◌==◌, refl, ap, ◌∙◌, arith}
use Rattle.std.proofs.lemmas.Int.{ints}
use Rattle.std.proofs.lemmas.Bool.{eqb-true}
use Rattle.std.specs.Prelude.{◌&&◌}
use Rattle.std.specs.Ordering.{int_eq}
use Rattle.l2_bits.specs.declared.types.Ty.{Ty}
use Rattle.l2_bits.specs.Values.{IsValue, wrap}
use Rattle.l2_bits.specs.Operators.{convert}
use Rattle.l2_bits.proofs.Wraps.{wrap_of_value}
use Rattle.l2_bits.proofs.TypeLaws as types
use Rattle.l2_bits.proofs.TypeLaws.{no_sign}
use Rattle.l2_runs.specs.declared.cells.CellType.{CellType}
use Rattle.l2_runs.specs.declared.cells.CellType.TheVariants.{Integer, Pointer}
use Rattle.l2_code.specs.Values.{same_sign, same_type}

same_signs : (x y : Bool) → same_sign x y ≡ true → x ≡ y
same_signs true true e = refl
same_signs true false e = cc
same_signs false true e = cc
same_signs false false e = refl

both : (x y : Bool) → (x && y) ≡ true → (x ≡ true) × (y ≡ true)
both true true e = (refl, refl)
both true false e = cc
both false y e = cc

pub same_types : (t u : Ty) → same_type (Integer t) (Integer u) ≡ true → t ≡ u
same_types t u e = let p = both (t.width == u.width) (same_sign t.signed u.signed) e in types.same_type t u (eqb-true t.width u.width p.0) (same_signs t.signed u.signed p.1)

same_sign_self : (x : Bool) → same_sign x x ≡ true
same_sign_self true = refl
same_sign_self false = refl

same_width : (n : ℕ) → (n == n) ≡ true
same_width n = grind arith

pub same_type_self : (t : CellType) → same_type t t ≡ true
same_type_self (Integer ty) = (λ i. same_width ty.width i && same_sign ty.signed ty.signed) ∙ same_sign_self ty.signed
same_type_self Pointer = refl

bit_same : (s : Bool) (w : ℕ) (z : ℤ) → w ≡ 1 → s ≡ false → cond s (neg_ℤ (pos (2 ^ (w - 1)))) (pos 0) ≤ℤ z → z ≤ℤ cond s (pos (2 ^ (w - 1) - 1)) (pos (2 ^ w - 1)) → cond (int_eq z (pos 0)) (pos 0) (pos 1) ≡ z
bit_same true w z e f h k = cc
bit_same false w (pos zero) e f h k = refl
bit_same false w (pos (suc zero)) e f h k = refl
bit_same false w (pos (suc (suc n))) e f h k = let p : 2 ^ w ≡ 2 = ap (λ x. 2 ^ x) e in absurd (omega (arith, ints))
bit_same false w (negsuc n) e f h k = absurd (omega (arith, ints))

pub convert_same : (ty : Ty) (z : ℤ) → IsValue ty z → convert ty z ≡ z
unfolding convert
convert_same ty z h = go (ty.width == 1) refl
  where
    go : (t : Bool) → (ty.width == 1) ≡ t → cond t (cond (int_eq z (pos 0)) (pos 0) (pos 1)) (wrap ty z) ≡ z
    go true e = let w = eqb-true ty.width 1 e in bit_same ty.signed ty.width z w (no_sign ty w) h.from h.to
    go false e = wrap_of_value ty z h
