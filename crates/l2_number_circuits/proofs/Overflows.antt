-- Tests on whether exact results are values of a type.
use Rattle.std.proofs.Common.{◌≡◌, ℕ, zero, suc, ◌+◌, ◌-◌, ◌*◌, ◌^◌, ◌≤◌, ◌<◌, Bool, true, false, not, ℤ, pos, negsuc, neg_ℤ, ◌+ℤ◌, ◌-ℤ◌, ◌*ℤ◌, ◌≤ℤ◌, int_lt, unsigned_abs, refl, sym, ap, ◌∙◌, subst, List, arith}
use Rattle.std.specs.Prelude.{◌&&◌, ◌||◌}
use Rattle.std.specs.Ordering.{int_eq}
use Rattle.std.proofs.lemmas.Int.{ints, unsigned_abs-mul}
use Rattle.std.proofs.lemmas.Nat.{pow_pos, pow-add}
use Rattle.std.proofs.Math.Nat.{mod-eq_of_lt, mul-le-mul, pow-le-pow_right}
use Rattle.l2_bits.specs.declared.types.Ty.{Ty}
use Rattle.l2_bits.specs.declared.operators.Op.{Op}
use Rattle.l2_bits.specs.declared.operators.Op.TheVariants.{Add, Sub, Mul, Shl}
use Rattle.l2_bits.specs.Values.{IsValue, is_value, wrap}
use Rattle.l2_bits.specs.Operators.{exact, overflows, IsRightOperand}
use Rattle.l2_bits.proofs.TypeLaws.{width_pos}
use Rattle.l2_bits.proofs.Wraps.{wrap_value, wrap_of_value}
use Rattle.l2_bits.proofs.Checks.{value_test}
use Rattle.l2_bits.proofs.Bounds.{value_from_test}
use Rattle.l2_gates.specs.Gates.{Lit, negated, T, F, Made}
use Rattle.l2_gates.specs.Models.{both, Ok, Gives}
use Rattle.l2_gates.proofs.Values.{negated_value, and_gives}
use Rattle.l2_circuits.specs.declared.columns.Kind.TheVariants.{Equal}
use Rattle.l2_circuits.specs.Words.{Word, top, resized, extended, eq}
use Rattle.l2_circuit_laws.specs.Shows.{Shows, Gains, IsSigned}
use Rattle.l2_circuit_laws.proofs.Columns.{columns_add}
use Rattle.l2_circuit_laws.proofs.Shown.{sums_show, differences_show, products_show}
use Rattle.l2_circuit_laws.proofs.Signed.{equal_shows}
use Rattle.l2_circuit_laws.proofs.Choices.{wraps_show}
use Rattle.l2_operator_laws.specs.Words.{Tells, ShowsValue}
use Rattle.l2_operator_laws.proofs.Room.{values_tell}
use Rattle.l2_operator_laws.proofs.Cut.{cut_shows, resized_show}
use Rattle.l2_operator_laws.proofs.Signs.{top_sign}
use Rattle.l2_operator_laws.proofs.Moves.{left_shifts_show}
use Rattle.l2_number_circuits.specs.Numbers.{wide, exact_word, fits_bit, overflow_bit}
use Rattle.l2_number_circuits.specs.Law.{OverflowsAre}
use Rattle.l2_number_circuits.proofs.Testing.{signed_of_value, is_eq, isnt_eq}

-- ---- how far exact results reach

two_pos : 0 < 2
two_pos = omega arith

wide_power : (w : ℕ) → 1 ≤ w → 2 ^ (w + w + 2 - 1) ≡ 8 * (2 ^ (w - 1) * 2 ^ (w - 1))
wide_power zero h = absurd (omega arith)
wide_power (suc k) h =
    let e : suc k + suc k + 2 - 1 ≡ 3 + (k + k) = omega arith in
    let f : suc k - 1 ≡ k = omega arith in
    ap (λ i. 2 ^ i) e ∙ pow-add 2 3 (k + k) ∙ ap (λ p. 8 * p) (pow-add 2 k k) ∙ ap (λ i. 8 * (2 ^ i * 2 ^ i)) (sym f)

abs_most : (h : ℕ) (x : ℤ) → neg_ℤ (pos h) ≤ℤ x → x ≤ℤ pos h → unsigned_abs x ≤ h
abs_most h (pos j) from to = omega (arith, ints)
abs_most h (negsuc j) from to = omega (arith, ints)

abs_fits : (n : ℕ) (x : ℤ) → unsigned_abs x < 2 ^ (n - 1) → IsSigned n x
abs_fits n (pos j) h = record { from = omega (arith, ints); to = omega (arith, ints, h) }
abs_fits n (negsuc j) h = record { from = omega (arith, ints, h); to = omega (arith, ints, h) }

value_abs : (ty : Ty) (x : ℤ) → ty.signed ≡ true → IsValue ty x → unsigned_abs x ≤ 2 ^ (ty.width - 1)
value_abs ty x e h = let s = signed_of_value ty x e h in let f = s.from in let t = s.to in abs_most (2 ^ (ty.width - 1)) x f (omega (arith, ints, t))

square : (h : ℕ) → 0 < h → h ≤ h * h
square zero some = absurd (omega arith)
square (suc k) some = let e : suc k * suc k ≡ suc k + k * suc k = grind arith in omega arith

-- sums and differences
twice_small : (h : ℕ) (x : ℤ) → 0 < h → neg_ℤ (pos (h + h)) ≤ℤ x → x ≤ℤ pos (h + h) → unsigned_abs x < 8 * (h * h)
twice_small h x some from to = let a = abs_most (h + h) x from to in let b = square h some in omega arith

-- products
product_small : (h : ℕ) (x y : ℤ) → 0 < h → unsigned_abs x ≤ h → unsigned_abs y ≤ h → unsigned_abs (x *ℤ y) < 8 * (h * h)
product_small h x y some a b =
    let p : unsigned_abs x * unsigned_abs y ≤ h * h = mul-le-mul a b in
    let q = square h some in
    let e = unsigned_abs-mul x y in
    omega (arith, p, q, e, some)

amount_small : (w k : ℕ) → k < w → 2 ^ k ≤ 2 ^ (w - 1)
amount_small w k h = pow-le-pow_right two_pos (omega (arith, h))

exact_small : (op : Op) (ty : Ty) (x y : ℤ) → ty.signed ≡ true → IsValue ty x → IsRightOperand op ty y → unsigned_abs (exact op x y) < 8 * (2 ^ (ty.width - 1) * 2 ^ (ty.width - 1))
exact_small Add ty x y e h k =
    let s = signed_of_value ty x e h in let t = signed_of_value ty y e k in let a = s.from in let b = s.to in let c = t.from in let d = t.to in
    twice_small (2 ^ (ty.width - 1)) (x +ℤ y) (pow_pos (ty.width - 1)) (omega (arith, ints, a, c)) (omega (arith, ints, b, d))
exact_small Sub ty x y e h k =
    let s = signed_of_value ty x e h in let t = signed_of_value ty y e k in let a = s.from in let b = s.to in let c = t.from in let d = t.to in
    twice_small (2 ^ (ty.width - 1)) (x -ℤ y) (pow_pos (ty.width - 1)) (omega (arith, ints, a, d)) (omega (arith, ints, b, c))
exact_small Mul ty x y e h k = product_small (2 ^ (ty.width - 1)) x y (pow_pos (ty.width - 1)) (value_abs ty x e h) (value_abs ty y e k)
exact_small Shl ty x (pos k) e h (from, to) =
    let l : k < ty.width = omega (arith, ints, to) in
    product_small (2 ^ (ty.width - 1)) x (pos (2 ^ k)) (pow_pos (ty.width - 1)) (value_abs ty x e h) (amount_small ty.width k l)
exact_small Shl ty x (negsuc k) e h (from, to) = absurd (omega (arith, ints, from))

exact_fits : (op : Op) (ty : Ty) (x y : ℤ) → ty.signed ≡ true → IsValue ty x → IsRightOperand op ty y → IsSigned (wide ty) (exact op x y)
exact_fits op ty x y e h k =
    abs_fits (wide ty) (exact op x y) (subst (λ p. unsigned_abs (exact op x y) < p) (sym (wide_power ty.width (width_pos ty))) (exact_small op ty x y e h k))

value_wide : (ty : Ty) (z : ℤ) → ty.signed ≡ true → IsValue ty z → IsSigned (wide ty) z
value_wide ty z e h =
    abs_fits (wide ty) z (subst (λ p. unsigned_abs z < p) (sym (wide_power ty.width (width_pos ty))) (let a = value_abs ty z e h in let p = pow_pos (ty.width - 1) in let q = square (2 ^ (ty.width - 1)) p in omega (arith, a, p, q)))

-- ---- what the exact word shows

below_power : (n : ℕ) → n < 2 ^ n
below_power zero = omega arith
below_power (suc n) = let h = below_power n in let e : 2 ^ suc n ≡ 2 * 2 ^ n = grind arith in omega arith

module _ (v : ℕ → Bool) (given : v 0 ≡ true) where
  exact_shows : (op : Op) (ty : Ty) (n : ℕ) (a b : List Lit) (x y : ℤ) (m : Made) → ty.width ≤ n → Shows v n a x → Shows v n b y → IsRightOperand op ty y → Ok v (exact_word op a b m).made
      → Gains v m n (exact_word op a b m).bits (exact op x y)
  exact_shows Add ty n a b x y m l s t h ok = sums_show v given n a b x y m s t ok
  exact_shows Sub ty n a b x y m l s t h ok = differences_show v given n a b x y m s t ok
  exact_shows Mul ty n a b x y m l s t h ok = products_show v given n a b x y m s t ok
  exact_shows Shl ty n a b x (pos k) m l s t (from, to) ok =
      let h : k < ty.width = omega (arith, ints, to) in
      let p = below_power n in
      left_shifts_show v given n k a b x m s (t.number ∙ mod-eq_of_lt (omega (arith, h, l, p))) (omega (arith, h, l)) ok
  exact_shows Shl ty n a b x (negsuc k) m l s t (from, to) ok = absurd (omega (arith, ints, from))

  -- ---- the test

  eq_before : (a b : List Lit) (m : Made) → Ok v (eq a b m).made → Ok v m
  eq_before a b m ok = (columns_add v given Equal a b T m ok).before

  value_or_not : (ty : Ty) (z : ℤ) → int_eq z (wrap ty z) ≡ is_value ty z
  value_or_not ty z = go (is_value ty z) refl
    where
      go : (t : Bool) → is_value ty z ≡ t → int_eq z (wrap ty z) ≡ is_value ty z
      go true e = is_eq z (wrap ty z) (sym (wrap_of_value ty z (value_from_test ty z e))) ∙ sym e
      go false e = isnt_eq z (wrap ty z) (λ q. false_true (sym e ∙ value_test ty z (subst (IsValue ty) (sym q) (wrap_value ty z)))) ∙ sym e
        where
          false_true : false ≡ true → ⊥
          false_true q = cc

  fits_right : (ty : Ty) (w : Word) (z : ℤ) → ty.signed ≡ true → IsSigned (wide ty) z → Shows v (wide ty) w.bits z → Gives v w.made (is_value ty z) (fits_bit ty w)
  fits_right ty w z e f s = λ ok.
      let low = resized ty.width F w.bits in
      let cut = cut_shows v (wide ty) ty.width F w.bits z (omega arith) s in
      let u = wrap ty z in
      let value = wrap_value ty z in
      let back = resized_show v given ty.signed ty.width (wide ty) low u (values_tell v ty low u (record { value = value; shows = wraps_show v ty low z cut })) in
      let r = equal_shows v given true (wide ty) w.bits (extended (wide ty) ty.signed low) z u w.made (omega arith) f (value_wide ty u e value) s back ok in
      record { before = r.before; is = r.is ∙ value_or_not ty z }

  wide_gives : (op : Op) (ty : Ty) (signed : Bool) (n : ℕ) (a b : List Lit) (x y : ℤ) (m : Made) → ty.signed ≡ true → ShowsValue v ty a x → Tells v signed n b y → IsRightOperand op ty y
      → Gives v m (is_value ty (exact op x y)) (fits_bit ty (exact_word op (extended (wide ty) ty.signed a) (extended (wide ty) signed b) m))
  wide_gives op ty signed n a b x y m e sx sy h = λ ok.
      let left = extended (wide ty) ty.signed a in
      let right = extended (wide ty) signed b in
      let w = exact_word op left right m in
      let shown = extended (wide ty) ty.signed (resized ty.width F w.bits) in
      let g = exact_shows op ty (wide ty) left right x y m (omega arith) (resized_show v given ty.signed ty.width (wide ty) a x (values_tell v ty a x sx)) (resized_show v given signed n (wide ty) b y sy) h (eq_before w.bits shown w.made ok) in
      let r = fits_right ty w (exact op x y) e (exact_fits op ty x y e sx.value h) g.shows ok in
      record { before = g.before; is = r.is }

  passes_test : (s w : Bool) → s ≡ true → w ≡ not (s && (not w || false))
  passes_test true true e = refl
  passes_test true false e = refl
  passes_test false w e = absurd (cc)

  shift_passes : (s w n : Bool) → s ≡ true → both (not n) w ≡ not (s && (not w || n))
  shift_passes true true true e = refl
  shift_passes true true false e = refl
  shift_passes true false true e = refl
  shift_passes true false false e = refl
  shift_passes false w n e = absurd (cc)

  overflow_gives : (op : Op) (ty : Ty) (signed : Bool) (n : ℕ) (a b : List Lit) (x y : ℤ) (m : Made) → ty.signed ≡ true → ShowsValue v ty a x → Tells v signed n b y → IsRightOperand op ty y
      → Gives v m (not (overflows op ty x y)) (overflow_bit op ty signed a b m)
  unfolding overflows
  overflow_gives Add ty signed n a b x y m e sx sy h = λ ok. let r = wide_gives Add ty signed n a b x y m e sx sy h ok in record { before = r.before; is = r.is ∙ passes_test ty.signed (is_value ty (x +ℤ y)) e }
  overflow_gives Sub ty signed n a b x y m e sx sy h = λ ok. let r = wide_gives Sub ty signed n a b x y m e sx sy h ok in record { before = r.before; is = r.is ∙ passes_test ty.signed (is_value ty (x -ℤ y)) e }
  overflow_gives Mul ty signed n a b x y m e sx sy h = λ ok. let r = wide_gives Mul ty signed n a b x y m e sx sy h ok in record { before = r.before; is = r.is ∙ passes_test ty.signed (is_value ty (x *ℤ y)) e }
  overflow_gives Shl ty signed n a b x y m e sx sy h = λ ok.
      let w = fits_bit ty (exact_word Shl (extended (wide ty) ty.signed a) (extended (wide ty) signed b) m) in
      let k = and_gives v given (negated (top a)) w.bit w.made ok in
      let r = wide_gives Shl ty signed n a b x y m e sx sy h k.before in
      let t = top_sign v given ty.width a x (width_pos ty) (signed_of_value ty x e sx.value) sx.shows in
      record {
        before = r.before;
        is = k.is ∙ (λ i. both ((negated_value v (top a) ∙ ap not t) i) (r.is i)) ∙ shift_passes ty.signed (is_value ty (exact Shl x y)) (int_lt x (pos 0)) e;
      }

pub overflows_are : OverflowsAre
overflows_are v given op ty signed n a b x y m e sx sy h = overflow_gives v given op ty signed n a b x y m e sx sy h
