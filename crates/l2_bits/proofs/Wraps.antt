-- What `wrap` gives: the one value of the type that is congruent to a number.
use Rattle.std.proofs.Common.{◌≡◌, ℕ, suc, zero, ◌+◌, ◌-◌, ◌/◌, ◌^◌, ◌<◌, ℤ, pos, negsuc, neg_ℤ, ◌+ℤ◌, ◌<ℤ◌, ◌≤ℤ◌, Bool, true, false, cond, nat_lt, refl, arith}
use Rattle.std.proofs.lemmas.Int.{ints}
use Rattle.std.proofs.lemmas.Bool.{ltb-true, ltb-false}
use Rattle.std.proofs.lemmas.Nat.{pow_pos, div-add-mod'}
use Rattle.std.proofs.Math.Nat.{mod-lt, pow-suc}
use Rattle.l2_bits.specs.declared.types.Ty.{Ty}
use Rattle.l2_bits.specs.Values.{modulus, IsValue, IsWrapOf, residue, signed_of, wrap_at, wrap}
use Rattle.l2_bits.proofs.TypeLaws.{width_pos}
use Rattle.l2_bits.proofs.Congruences.{Meet, meet_of, congruent_of, near_same, meet_refl, meet_sym, meet_trans}

pub residue-lt : (n : ℕ) (v : ℤ) → 0 < n → residue n v < n
residue-lt n (pos a) h = mod-lt a h
residue-lt n (negsuc a) h = omega arith

pub residue-meet : (n : ℕ) (v : ℤ) → 0 < n → Meet n (pos (residue n v)) v
residue-meet n (pos a) h = record { up_by = a / n; down_by = 0; same = omega (arith, ints, div-add-mod' a n) }
residue-meet n (negsuc a) h =
    let small = mod-lt a h in
    record { up_by = 0; down_by = a / n + 1; same = omega (arith, ints, div-add-mod' a n) }

signed_of-meet : (n r : ℕ) → r < n → Meet n (signed_of n r) (pos r)
signed_of-meet n r h = go (nat_lt (r + r) n)
  where
    go : (t : Bool) → Meet n (cond t (pos r) (negsuc (n - 1 - r))) (pos r)
    go true = meet_refl n (pos r)
    go false = record { up_by = 1; down_by = 0; same = omega (arith, ints) }

wrap_at-meet : (s : Bool) (n : ℕ) (v : ℤ) → 0 < n → Meet n (wrap_at s n v) v
wrap_at-meet true n v h = meet_trans n (signed_of n (residue n v)) (pos (residue n v)) v (signed_of-meet n (residue n v) (residue-lt n v h)) (residue-meet n v h)
wrap_at-meet false n v h = residue-meet n v h

-- half of a power
halves : (w : ℕ) → 0 < w → 2 ^ (w - 1) + 2 ^ (w - 1) ≡ 2 ^ w
halves zero h = absurd (omega arith)
halves (suc k) h = let e : suc k - 1 ≡ k = omega arith in rw e (omega (arith, pow-suc 2 k))

-- the range of a sign and a width
record InRange (s : Bool) (w : ℕ) (v : ℤ) : Type 0 where
  from : cond s (neg_ℤ (pos (2 ^ (w - 1)))) (pos 0) ≤ℤ v
  to : v ≤ℤ cond s (pos (2 ^ (w - 1) - 1)) (pos (2 ^ w - 1))

signed_of-range : (w r : ℕ) → 0 < w → r < 2 ^ w → InRange true w (signed_of (2 ^ w) r)
signed_of-range w r h l = go (nat_lt (r + r) (2 ^ w)) refl
  where
    go : (t : Bool) → nat_lt (r + r) (2 ^ w) ≡ t → InRange true w (cond t (pos r) (negsuc (2 ^ w - 1 - r)))
    go true e = let low = ltb-true (r + r) (2 ^ w) e in let d = halves w h in record { from = omega (arith, ints); to = omega (arith, ints) }
    go false e = let high = ltb-false (r + r) (2 ^ w) e in let d = halves w h in record { from = omega (arith, ints); to = omega (arith, ints) }

wrap_at-range : (s : Bool) (w : ℕ) (v : ℤ) → 0 < w → InRange s w (wrap_at s (2 ^ w) v)
wrap_at-range true w v h = signed_of-range w (residue (2 ^ w) v) h (residue-lt (2 ^ w) v (pow_pos w))
wrap_at-range false w v h = let l = residue-lt (2 ^ w) v (pow_pos w) in record { from = omega (arith, ints); to = omega (arith, ints) }

-- two numbers of a range are less than its length apart
spread : (s : Bool) (w : ℕ) (u v : ℤ) → 0 < w → InRange s w u → InRange s w v → u <ℤ (v +ℤ pos (2 ^ w))
spread true w u v h p q = let d = halves w h in omega (arith, ints, p.to, q.from, pow_pos (w - 1))
spread false w u v h p q = omega (arith, ints, p.to, q.from, pow_pos w)

range_of : (ty : Ty) (v : ℤ) → IsValue ty v → InRange ty.signed ty.width v
range_of ty v h = record { from = h.from; to = h.to }

value_of : (ty : Ty) (v : ℤ) → InRange ty.signed ty.width v → IsValue ty v
value_of ty v h = record { from = h.from; to = h.to }

pub wrap_value : (ty : Ty) (v : ℤ) → IsValue ty (wrap ty v)
unfolding wrap
wrap_value ty v = value_of ty (wrap ty v) (wrap_at-range ty.signed ty.width v (width_pos ty))

pub wrap-meet : (ty : Ty) (v : ℤ) → Meet (modulus ty) (wrap ty v) v
unfolding wrap
wrap-meet ty v = wrap_at-meet ty.signed (modulus ty) v (pow_pos ty.width)

-- congruent values are one
pub values_same : (ty : Ty) (u v : ℤ) → IsValue ty u → IsValue ty v → Meet (modulus ty) u v → u ≡ v
values_same ty u v p q m =
    let some = width_pos ty in
    near_same (modulus ty) u v m (spread ty.signed ty.width u v some (range_of ty u p) (range_of ty v q)) (spread ty.signed ty.width v u some (range_of ty v q) (range_of ty u p))

-- ---- the laws that crates above cite

pub wrap_is : (ty : Ty) (v : ℤ) → IsWrapOf ty v (wrap ty v)
wrap_is ty v = record { value = wrap_value ty v; congruent = congruent_of (modulus ty) (wrap ty v) v (wrap-meet ty v) }

pub wrap_only : (ty : Ty) (v u : ℤ) → IsWrapOf ty v u → u ≡ wrap ty v
wrap_only ty v u h = values_same ty u (wrap ty v) h.value (wrap_value ty v) (meet_trans (modulus ty) u v (wrap ty v) (meet_of (modulus ty) u v h.congruent) (meet_sym (modulus ty) (wrap ty v) v (wrap-meet ty v)))

-- a value wraps to itself
pub wrap_of_value : (ty : Ty) (v : ℤ) → IsValue ty v → wrap ty v ≡ v
wrap_of_value ty v h = values_same ty (wrap ty v) v (wrap_value ty v) h (wrap-meet ty v)

pub wrap-wrap : (ty : Ty) (v : ℤ) → wrap ty (wrap ty v) ≡ wrap ty v
wrap-wrap ty v = wrap_of_value ty (wrap ty v) (wrap_value ty v)

-- congruent numbers wrap alike
pub wrap_same : (ty : Ty) (u v : ℤ) → Meet (modulus ty) u v → wrap ty u ≡ wrap ty v
wrap_same ty u v m = values_same ty (wrap ty u) (wrap ty v) (wrap_value ty u) (wrap_value ty v) (meet_trans (modulus ty) (wrap ty u) u (wrap ty v) (wrap-meet ty u) (meet_trans (modulus ty) u v (wrap ty v) m (meet_sym (modulus ty) (wrap ty v) v (wrap-meet ty v))))
