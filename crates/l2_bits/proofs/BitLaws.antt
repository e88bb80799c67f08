-- The bits of what wraps, and of what the operations on bits make.
use Rattle.std.proofs.Common.{◌≡◌, ℕ, zero, suc, ◌+◌, ◌-◌, ◌*◌, ◌/◌, ◌%◌, ◌^◌, ◌<◌, ◌==◌, min, max, cond, ℤ, pos, negsuc, neg_ℤ, int_lt, ◌≤ℤ◌, Bool, true, false, not, ◌&&◌, ◌||◌, bit_and, bit_or, bit_xor, refl, ap, sym, ◌∙◌, subst, arith}
use Rattle.std.specs.Int.{bit_at}
use Rattle.std.proofs.lemmas.Int.{ints}
use Rattle.std.proofs.lemmas.Nat.{pow_pos, pow_below, div-add-mod', and-not}
use Rattle.std.proofs.lemmas.Nat.Bits.{bit_at-lt, bit_at_above, bit_at_cat_low, bit_at_and, bit_at_or, bit_at_xor, and_pow, same_from_bits_below}
use Rattle.std.proofs.Math.Nat.{mod-lt, le_refl}
use Rattle.l2_bits.specs.declared.types.Ty.{Ty}
use Rattle.l2_bits.specs.Values.{modulus, residue, wrap, IsValue}
use Rattle.l2_bits.specs.Bits.{bit, bitwise, and, or, xor, differ}
use Rattle.l2_bits.proofs.Congruences.{Meet, meet_sym, meet_trans}
use Rattle.l2_bits.proofs.Residues.{residue-wrap}
use Rattle.l2_bits.proofs.Wraps.{residue-lt, residue-meet, values_same}

low_bit : (w a i : ℕ) → i < w → bit_at (a % 2 ^ w) i ≡ bit_at a i
low_bit w a i h = sym (bit_at_cat_low (a / 2 ^ w) w (a % 2 ^ w) i h) ∙ ap (λ x. bit_at x i) (div-add-mod' a (2 ^ w))

one_of : (x y p : ℕ) → x < 2 → y < 2 → 0 < p → x * p + y * p ≡ p → x + y ≡ 1
one_of zero zero p h k l e = absurd (omega arith)
one_of zero (suc zero) p h k l e = refl
one_of (suc zero) zero p h k l e = refl
one_of (suc zero) (suc zero) p h k l e = absurd (omega arith)
one_of (suc (suc x)) y p h k l e = absurd (omega arith)
one_of x (suc (suc y)) p h k l e = absurd (omega arith)

-- the bits of 2 ^ w - 1 - m are those of m, turned
turned_bit : (w m i : ℕ) → m < 2 ^ w → i < w → bit_at (2 ^ w - 1 - m) i + bit_at m i ≡ 1
turned_bit w m i h l =
    one_of (bit_at (2 ^ w - 1 - m) i) (bit_at m i) (2 ^ i) (bit_at-lt (2 ^ w - 1 - m) i) (bit_at-lt m i) (pow_pos i)
    (ap (λ x. x + bit_at m i * 2 ^ i) (sym (and_pow (2 ^ w - 1 - m) i)) ∙ ap (λ x. bit_and (2 ^ w - 1 - m) (2 ^ i) + x) (sym (and_pow m i)) ∙ and-not w m (2 ^ i) h (pow_below i w l))

turned_test : (x y : ℕ) → x + y ≡ 1 → (x == 1) ≡ not (y == 1)
turned_test zero y e = let s : y ≡ 1 = omega arith in rw s refl
turned_test (suc x) y e = let s : y ≡ 0 = omega arith in let r : x ≡ 0 = omega arith in rw (s, r) refl

-- the bits of a number below w are those of its residue
pub bit-residue : (w : ℕ) (v : ℤ) (i : ℕ) → i < w → bit v i ≡ (bit_at (residue (2 ^ w) v) i == 1)
bit-residue w (pos a) i h = ap (λ x. x == 1) (sym (low_bit w a i h))
bit-residue w (negsuc a) i h =
    ap (λ x. not (x == 1)) (sym (low_bit w a i h))
    ∙ sym (turned_test (bit_at (2 ^ w - 1 - a % 2 ^ w) i) (bit_at (a % 2 ^ w) i) (turned_bit w (a % 2 ^ w) i (mod-lt a (pow_pos w)) h))

-- wrapping keeps the bits below the width
pub bit-wrap : (ty : Ty) (v : ℤ) (i : ℕ) → i < ty.width → bit (wrap ty v) i ≡ bit v i
bit-wrap ty v i h =
    bit-residue ty.width (wrap ty v) i h ∙ ap (λ r. bit_at r i == 1) (residue-wrap ty v) ∙ sym (bit-residue ty.width v i h)

bitwise-bit : (f : ℕ → ℕ → ℕ) (g : Bool → Bool → Bool) → ((x y i : ℕ) → (bit_at (f x y) i == 1) ≡ g (bit_at x i == 1) (bit_at y i == 1))
    → (ty : Ty) (a b : ℤ) (i : ℕ) → i < ty.width → bit (bitwise f ty a b) i ≡ g (bit a i) (bit b i)
bitwise-bit f g each ty a b i h =
    bit-wrap ty (pos (f (residue (modulus ty) a) (residue (modulus ty) b))) i h
    ∙ each (residue (modulus ty) a) (residue (modulus ty) b) i
    ∙ ap (λ x. g x (bit_at (residue (modulus ty) b) i == 1)) (sym (bit-residue ty.width a i h))
    ∙ ap (λ x. g (bit a i) x) (sym (bit-residue ty.width b i h))

min_test : (x y : ℕ) → x < 2 → y < 2 → (min x y == 1) ≡ ((x == 1) && (y == 1))
min_test zero y h k = let e : min 0 y ≡ 0 = omega arith in rw e refl
min_test (suc zero) zero h k = refl
min_test (suc zero) (suc zero) h k = refl
min_test (suc (suc x)) y h k = absurd (omega arith)
min_test x (suc (suc y)) h k = absurd (omega arith)

max_test : (x y : ℕ) → x < 2 → y < 2 → (max x y == 1) ≡ ((x == 1) || (y == 1))
max_test zero zero h k = refl
max_test zero (suc zero) h k = refl
max_test (suc zero) zero h k = refl
max_test (suc zero) (suc zero) h k = refl
max_test (suc (suc x)) y h k = absurd (omega arith)
max_test x (suc (suc y)) h k = absurd (omega arith)

differ_test : (x y : ℕ) → x < 2 → y < 2 → ((x + y) % 2 == 1) ≡ differ (x == 1) (y == 1)
differ_test zero zero h k = refl
differ_test zero (suc zero) h k = refl
differ_test (suc zero) zero h k = refl
differ_test (suc zero) (suc zero) h k = refl
differ_test (suc (suc x)) y h k = absurd (omega arith)
differ_test x (suc (suc y)) h k = absurd (omega arith)

pub bit-and : (ty : Ty) (a b : ℤ) (i : ℕ) → i < ty.width → bit (and ty a b) i ≡ (bit a i && bit b i)
unfolding and
bit-and = bitwise-bit bit_and (λ x y. x && y) (λ x y i. ap (λ r. r == 1) (bit_at_and x y i) ∙ min_test (bit_at x i) (bit_at y i) (bit_at-lt x i) (bit_at-lt y i))

pub bit-or : (ty : Ty) (a b : ℤ) (i : ℕ) → i < ty.width → bit (or ty a b) i ≡ (bit a i || bit b i)
unfolding or
bit-or = bitwise-bit bit_or (λ x y. x || y) (λ x y i. ap (λ r. r == 1) (bit_at_or x y i) ∙ max_test (bit_at x i) (bit_at y i) (bit_at-lt x i) (bit_at-lt y i))

pub bit-xor : (ty : Ty) (a b : ℤ) (i : ℕ) → i < ty.width → bit (xor ty a b) i ≡ differ (bit a i) (bit b i)
unfolding xor
bit-xor = bitwise-bit bit_xor differ (λ x y i. ap (λ r. r == 1) (bit_at_xor x y i) ∙ differ_test (bit_at x i) (bit_at y i) (bit_at-lt x i) (bit_at-lt y i))

test_same : (x y : ℕ) → x < 2 → y < 2 → (x == 1) ≡ (y == 1) → x ≡ y
test_same zero zero h k e = refl
test_same zero (suc zero) h k e = cc
test_same (suc zero) zero h k e = cc
test_same (suc zero) (suc zero) h k e = refl
test_same (suc (suc x)) y h k e = absurd (omega arith)
test_same x (suc (suc y)) h k e = absurd (omega arith)

-- a value of a type is told by its bits below the width
pub same_by_bits : (ty : Ty) (u v : ℤ) → IsValue ty u → IsValue ty v → ((i : ℕ) → i < ty.width → bit u i ≡ bit v i) → u ≡ v
same_by_bits ty u v p q each =
    let ru = residue (modulus ty) u in
    let rv = residue (modulus ty) v in
    let some = pow_pos ty.width in
    let same : ru ≡ rv = same_from_bits_below ty.width ru rv (residue-lt (modulus ty) u some) (residue-lt (modulus ty) v some)
    (λ i h. test_same (bit_at ru i) (bit_at rv i) (bit_at-lt ru i) (bit_at-lt rv i) (sym (bit-residue ty.width u i h) ∙ each i h ∙ bit-residue ty.width v i h)) in
    values_same ty u v p q (meet_trans (modulus ty) u (pos ru) v (meet_sym (modulus ty) (pos ru) u (residue-meet (modulus ty) u some)) (subst (λ r. Meet (modulus ty) (pos r) v) (sym same) (residue-meet (modulus ty) v some)))

-- the highest bit of a value of a type with a sign says whether it is negative
pub bit_of_sign : (ty : Ty) (v : ℤ) → ty.signed ≡ true → IsValue ty v → bit v (ty.width - 1) ≡ int_lt v (pos 0)
bit_of_sign ty v e h = go v (bound ty.signed e h.from) (top ty.signed e h.to)
  where
    bound : (s : Bool) → s ≡ true → cond s (neg_ℤ (pos (2 ^ (ty.width - 1)))) (pos 0) ≤ℤ v → neg_ℤ (pos (2 ^ (ty.width - 1))) ≤ℤ v
    bound true s l = l
    bound false s l = cc

    top : (s : Bool) → s ≡ true → v ≤ℤ cond s (pos (2 ^ (ty.width - 1) - 1)) (pos (2 ^ ty.width - 1)) → v ≤ℤ pos (2 ^ (ty.width - 1) - 1)
    top true s l = l
    top false s l = cc

    int_lt_pos : (a : ℕ) → int_lt (pos a) (pos 0) ≡ false
    int_lt_pos a = grind (arith, ints)

    go : (v : ℤ) → neg_ℤ (pos (2 ^ (ty.width - 1))) ≤ℤ v → v ≤ℤ pos (2 ^ (ty.width - 1) - 1) → bit v (ty.width - 1) ≡ int_lt v (pos 0)
    go (pos a) from to = let z = bit_at_above a (ty.width - 1) (ty.width - 1) (omega (arith, ints, pow_pos (ty.width - 1))) (le_refl (ty.width - 1)) in rw z (sym (int_lt_pos a))
    go (negsuc a) from to = let z = bit_at_above a (ty.width - 1) (ty.width - 1) (omega (arith, ints, pow_pos (ty.width - 1))) (le_refl (ty.width - 1)) in rw z refl
