-- Tests on words that show numbers: quotients, amounts and indexes.
use Rattle.std.proofs.Common.{◌≡◌, ◌≢◌, ℕ, zero, suc, ◌+◌, ◌-◌, ◌/◌, ◌^◌, ◌≤◌, ◌<◌, Bool, true, false, not, cond, ℤ, pos, negsuc, neg_ℤ, ◌≤ℤ◌, ◌<ℤ◌, int_lt, int_le, refl, sym, ap, ◌∙◌, subst, List, length, arith}
use Rattle.std.specs.Prelude.{◌&&◌, ◌||◌, if◌then◌else◌}
use Rattle.std.specs.Ordering.{int_eq}
use Rattle.std.proofs.lemmas.Int.{ints}
use Rattle.std.proofs.lemmas.Nat.{pow_pos}
use Rattle.std.proofs.Math.Nat.{div-le_self, div-lt_self, div-one, pow-le-pow_right}
use Rattle.l2_bits.specs.declared.types.Ty.{Ty}
use Rattle.l2_bits.specs.Values.{IsValue, is_value, least, greatest}
use Rattle.l2_bits.specs.Operators.{quotient, breaks_division, breaks_shift}
use Rattle.l2_bits.proofs.TypeLaws.{width_at_most}
use Rattle.l2_bits.proofs.Checks.{value_test, no_value_test}
use Rattle.l2_gates.specs.Gates.{Lit, negated, Made, and}
use Rattle.l2_gates.specs.Models.{both, Gives}
use Rattle.l2_gates.proofs.Bools.{not_not, both_false}
use Rattle.l2_gates.proofs.Values.{negated_value, and_gives}
use Rattle.l2_code.specs.Values.{is_below}
use Rattle.l2_circuits.specs.Words.{constant, extended, lts, ltu, eq, opposite}
use Rattle.l2_circuit_laws.specs.Shows.{Shows, IsSigned, Fits}
use Rattle.l2_circuit_laws.proofs.Signed.{less_shows, equal_shows}
use Rattle.l2_circuit_laws.proofs.Constants.{constants_show}
use Rattle.l2_operator_laws.specs.Words.{Tells, ShowsValue}
use Rattle.l2_operator_laws.proofs.Room.{values_tell}
use Rattle.l2_operator_laws.proofs.Cut.{resized_show}
use Rattle.l2_operator_laws.proofs.Conversions.{zero_fits}
use Rattle.l2_number_circuits.specs.Numbers.{signed_division_bit, within_bit}
use Rattle.l2_number_circuits.specs.Law.{DivisionsAre, ShiftsAre, IndexesAre}
use Rattle.l2_number_circuits.proofs.Showing.{at_most}

-- ---- how far types reach

pub half : Ty → ℕ
half ty = 2 ^ (ty.width - 1)

least_signed : (ty : Ty) → ty.signed ≡ true → least ty ≡ neg_ℤ (pos (2 ^ (ty.width - 1)))
least_signed ty e = ap (λ s. cond s (neg_ℤ (pos (2 ^ (ty.width - 1)))) (pos 0)) e

greatest_signed : (ty : Ty) → ty.signed ≡ true → greatest ty ≡ pos (2 ^ (ty.width - 1) - 1)
greatest_signed ty e = ap (λ s. cond s (pos (2 ^ (ty.width - 1) - 1)) (pos (2 ^ ty.width - 1))) e

least_plain : (ty : Ty) → ty.signed ≡ false → least ty ≡ pos 0
least_plain ty e = ap (λ s. cond s (neg_ℤ (pos (2 ^ (ty.width - 1)))) (pos 0)) e

greatest_plain : (ty : Ty) → ty.signed ≡ false → greatest ty ≡ pos (2 ^ ty.width - 1)
greatest_plain ty e = ap (λ s. cond s (pos (2 ^ (ty.width - 1) - 1)) (pos (2 ^ ty.width - 1))) e

pub signed_of_value : (ty : Ty) (x : ℤ) → ty.signed ≡ true → IsValue ty x → IsSigned ty.width x
signed_of_value ty x e h = record {
  from = subst (λ l. l ≤ℤ x) (least_signed ty e) h.from;
  to = let t : x ≤ℤ pos (2 ^ (ty.width - 1) - 1) = subst (λ g. x ≤ℤ g) (greatest_signed ty e) h.to in let p = pow_pos (ty.width - 1) in omega (arith, ints, t, p);
}

value_of_signed : (ty : Ty) (x : ℤ) → ty.signed ≡ true → neg_ℤ (pos (2 ^ (ty.width - 1))) ≤ℤ x → x <ℤ pos (2 ^ (ty.width - 1)) → IsValue ty x
value_of_signed ty x e f t = record {
  from = subst (λ l. l ≤ℤ x) (sym (least_signed ty e)) f;
  to = subst (λ g. x ≤ℤ g) (sym (greatest_signed ty e)) (let p = pow_pos (ty.width - 1) in omega (arith, ints, t, p));
}

-- ---- quotients

-- the least value by -1 is the one quotient that isn't a value
record Quotient_in (h : ℕ) (q : ℤ) : Type 0 where
  from : neg_ℤ (pos h) ≤ℤ q
  to : q <ℤ pos h

quotient_in : (h : ℕ) (x y : ℤ) → 0 < h → neg_ℤ (pos h) ≤ℤ x → x <ℤ pos h → y ≢ pos 0 → y ≢ negsuc 0 → Quotient_in h (quotient x y)
quotient_in h (pos j) (pos k) some from to n m = let l = div-le_self j k in record { from = omega (arith, ints); to = omega (arith, ints) }
quotient_in h (pos j) (negsuc k) some from to n m = let l = div-le_self j (suc k) in record { from = omega (arith, ints); to = omega (arith, ints) }
quotient_in h (negsuc j) (pos k) some from to n m = let l = div-le_self (suc j) k in record { from = omega (arith, ints); to = omega (arith, ints) }
quotient_in h (negsuc j) (negsuc zero) some from to n m = absurd (m refl)
quotient_in h (negsuc j) (negsuc (suc k)) some from to n m =
    let a : 0 < suc j = omega arith in
    let b : 1 < suc (suc k) = omega arith in
    let l : suc j / suc (suc k) < suc j = div-lt_self a b in
    record { from = omega (arith, ints); to = omega (arith, ints) }

eq_is : (a b : ℤ) → int_eq a b ≡ true → a ≡ b
eq_is a b h = grind (arith, ints)

pub is_eq : (a b : ℤ) → a ≡ b → int_eq a b ≡ true
is_eq a b h = grind (arith, ints)

pub isnt_eq : (a b : ℤ) → a ≢ b → int_eq a b ≡ false
isnt_eq a b h = grind (arith, ints)

-- the quotient by -1
turned_around : (h : ℕ) (x : ℤ) → 0 < h → neg_ℤ (pos h) ≤ℤ x → x <ℤ pos h → x ≢ neg_ℤ (pos h) → Quotient_in h (quotient x (negsuc 0))
turned_around h (pos j) some from to n = let e = div-one j in record { from = omega (arith, ints, e); to = omega (arith, ints, e) }
turned_around h (negsuc j) some from to n =
    let e = div-one (suc j) in
    let ne : suc j ≢ h = λ q. n (ap (λ z. neg_ℤ (pos z)) q) in
    let l : suc j < h = omega (arith, ints) in
    record { from = omega (arith, ints, e); to = omega (arith, ints, e) }

too_large : (h : ℕ) (x : ℤ) → 0 < h → x ≡ neg_ℤ (pos h) → quotient x (negsuc 0) ≡ pos h
too_large zero x some e = absurd (omega arith)
too_large (suc k) x some e = ap (λ z. quotient z (negsuc 0)) e ∙ ap pos (div-one (suc k))

no_greater : (ty : Ty) → ty.signed ≡ true → ¬ IsValue ty (pos (2 ^ (ty.width - 1)))
no_greater ty e h = let s = signed_of_value ty (pos (2 ^ (ty.width - 1))) e h in let t = s.to in absurd (omega (arith, ints, t))

quotient_fits : (ty : Ty) (x y : ℤ) → ty.signed ≡ true → IsValue ty x → y ≢ pos 0 → is_value ty (quotient x y) ≡ not (both (int_eq x (least ty)) (int_eq y (negsuc 0)))
quotient_fits ty x y e h n = by_minus (int_eq y (negsuc 0)) refl
  where
    s : IsSigned ty.width x
    s = signed_of_value ty x e h

    p : 0 < 2 ^ (ty.width - 1)
    p = pow_pos (ty.width - 1)

    by_least : (u : Bool) → int_eq x (least ty) ≡ u → y ≡ negsuc 0 → is_value ty (quotient x y) ≡ not (both u true)
    by_least true f g =
        let x_is : x ≡ neg_ℤ (pos (2 ^ (ty.width - 1))) = eq_is x (least ty) f ∙ least_signed ty e in
        ap (λ z. is_value ty (quotient x z)) g ∙ ap (is_value ty) (too_large (2 ^ (ty.width - 1)) x p x_is) ∙ no_value_test ty (pos (2 ^ (ty.width - 1))) (no_greater ty e)
    by_least false f g =
        let ne : x ≢ neg_ℤ (pos (2 ^ (ty.width - 1))) = λ q. false_true (sym f ∙ is_eq x (least ty) (q ∙ sym (least_signed ty e))) in
        let r = turned_around (2 ^ (ty.width - 1)) x p s.from s.to ne in
        ap (λ z. is_value ty (quotient x z)) g ∙ value_test ty (quotient x (negsuc 0)) (value_of_signed ty (quotient x (negsuc 0)) e r.from r.to)
      where
        false_true : false ≡ true → ⊥
        false_true q = cc

    by_minus : (t : Bool) → int_eq y (negsuc 0) ≡ t → is_value ty (quotient x y) ≡ not (both (int_eq x (least ty)) t)
    by_minus true f = by_least (int_eq x (least ty)) refl (eq_is y (negsuc 0) f)
    by_minus false f =
        let ne : y ≢ negsuc 0 = λ q. false_true (sym f ∙ is_eq y (negsuc 0) q) in
        let r = quotient_in (2 ^ (ty.width - 1)) x y p s.from s.to n ne in
        value_test ty (quotient x y) (value_of_signed ty (quotient x y) e r.from r.to) ∙ sym (ap not (both_false (int_eq x (least ty))))
      where
        false_true : false ≡ true → ⊥
        false_true q = cc

plain_fits : (ty : Ty) (x y : ℤ) → ty.signed ≡ false → IsValue ty x → IsValue ty y → is_value ty (quotient x y) ≡ true
plain_fits ty x y e h k = value_test ty (quotient x y) (go x y (subst (λ l. l ≤ℤ x) (least_plain ty e) h.from) (subst (λ g. x ≤ℤ g) (greatest_plain ty e) h.to) (subst (λ l. l ≤ℤ y) (least_plain ty e) k.from))
  where
    go : (x y : ℤ) → pos 0 ≤ℤ x → x ≤ℤ pos (2 ^ ty.width - 1) → pos 0 ≤ℤ y → IsValue ty (quotient x y)
    go (pos j) (pos i) a b c = let l = div-le_self j i in record { from = subst (λ l. l ≤ℤ pos (j / i)) (sym (least_plain ty e)) (omega (arith, ints)); to = subst (λ g. pos (j / i) ≤ℤ g) (sym (greatest_plain ty e)) (omega (arith, ints)) }
    go (negsuc j) y a b c = absurd (omega (arith, ints))
    go (pos j) (negsuc i) a b c = absurd (omega (arith, ints))

-- the test, by whether the divisor is 0
by_zero : (z r w : Bool) → (z ≡ false → w ≡ r) → both (not z) r ≡ not (z || not w)
by_zero true r w f = refl
by_zero false r w f = sym (not_not w ∙ f refl)

not_zero : (y : ℤ) → int_eq y (pos 0) ≡ false → y ≢ pos 0
not_zero y e q = go (int_eq y (pos 0)) e (is_eq y (pos 0) q)
  where
    go : (t : Bool) → t ≡ false → t ≡ true → ⊥
    go true a b = cc
    go false a b = cc

eq_gives : (v : ℕ → Bool) → v 0 ≡ true → (ty : Ty) (a : List Lit) (x c : ℤ) (m : Made) → ShowsValue v ty a x → Fits ty.signed ty.width c → Gives v m (int_eq x c) (eq a (constant ty.width c) m)
eq_gives v given ty a x c m s f =
    let t = values_tell v ty a x s in equal_shows v given ty.signed ty.width a (constant ty.width c) x c m t.some t.fits f t.shows (constants_show v given ty.width c)

value_fits : (ty : Ty) (c : ℤ) → ty.signed ≡ true → IsSigned ty.width c → Fits ty.signed ty.width c
value_fits ty c e h = subst (λ s. Fits s ty.width c) (sym e) h

signed_division : (v : ℕ → Bool) → v 0 ≡ true → (ty : Ty) (a b : List Lit) (x y : ℤ) (m : Made) → ty.signed ≡ true → ShowsValue v ty a x → ShowsValue v ty b y
    → Gives v m (not (breaks_division ty x y)) (signed_division_bit ty a b m)
unfolding breaks_division
signed_division v given ty a b x y m e sx sy = λ ok.
    let w = ty.width in
    let z = eq b (constant w (pos 0)) m in
    let l = eq a (constant w (least ty)) z.made in
    let o = eq b (constant w (negsuc 0)) l.made in
    let k = and l.bit o.bit o.made in
    let some = pow_pos (w - 1) in
    let gr = and_gives v given (negated z.bit) (negated k.bit) k.made ok in
    let gk = and_gives v given l.bit o.bit o.made gr.before in
    let go = eq_gives v given ty b y (negsuc 0) l.made sy (value_fits ty (negsuc 0) e (record { from = omega (arith, ints, some); to = omega (arith, ints, some) })) gk.before in
    let gl = eq_gives v given ty a x (least ty) z.made sx (value_fits ty (least ty) e (subst (IsSigned w) (sym (least_signed ty e)) (record { from = omega (arith, ints, some); to = omega (arith, ints, some) }))) go.before in
    let gz = eq_gives v given ty b y (pos 0) m sy (zero_fits ty.signed w) gl.before in
    record {
      before = gz.before;
      is = gr.is
          ∙ (λ i. both ((negated_value v z.bit ∙ ap not gz.is) i) ((negated_value v k.bit ∙ ap not (gk.is ∙ (λ j. both (gl.is j) (go.is j)))) i))
          ∙ by_zero (int_eq y (pos 0)) (not (both (int_eq x (least ty)) (int_eq y (negsuc 0)))) (is_value ty (quotient x y)) (λ f. quotient_fits ty x y e sx.value (not_zero y f));
    }

plain_division : (v : ℕ → Bool) → v 0 ≡ true → (ty : Ty) (a b : List Lit) (x y : ℤ) (m : Made) → ty.signed ≡ false → ShowsValue v ty a x → ShowsValue v ty b y
    → Gives v m (not (breaks_division ty x y)) (opposite (eq b (constant ty.width (pos 0)) m))
unfolding breaks_division
plain_division v given ty a b x y m e sx sy = λ ok.
    let z = eq b (constant ty.width (pos 0)) m in
    let gz = eq_gives v given ty b y (pos 0) m sy (zero_fits ty.signed ty.width) ok in
    record { before = gz.before; is = negated_value v z.bit ∙ ap not gz.is ∙ alone (int_eq y (pos 0)) (is_value ty (quotient x y)) (plain_fits ty x y e sx.value sy.value) }
  where
    alone : (z w : Bool) → w ≡ true → not z ≡ not (z || not w)
    alone true w e = refl
    alone false true e = refl
    alone false false e = sym e

pub divisions_are : DivisionsAre
divisions_are v given ty a b x y m sx sy = go ty.signed refl
  where
    go : (t : Bool) → ty.signed ≡ t → Gives v m (not (breaks_division ty x y)) (if t then signed_division_bit ty a b m else opposite (eq b (constant ty.width (pos 0)) m))
    go true e = signed_division v given ty a b x y m e sx sy
    go false e = plain_division v given ty a b x y m e sx sy

-- ---- amounts and indexes

within_gives : (v : ℕ → Bool) → v 0 ≡ true → (n : ℕ) (end : ℤ) (a : List Lit) (x : ℤ) (m : Made) → 1 ≤ n → IsSigned n x → IsSigned n end → Shows v n a x
    → Gives v m (both (not (int_lt x (pos 0))) (int_lt x end)) (within_bit n end a m)
within_gives v given n end a x m some fx fe s = λ ok.
    let low = lts a (constant n (pos 0)) m in
    let high = lts a (constant n end) low.made in
    let gr = and_gives v given (negated low.bit) high.bit high.made ok in
    let gh = less_shows v given true n a (constant n end) x end low.made some fx fe s (constants_show v given n end) gr.before in
    let gl = less_shows v given true n a (constant n (pos 0)) x (pos 0) m some fx (zero_fits true n) s (constants_show v given n (pos 0)) gh.before in
    record { before = gl.before; is = gr.is ∙ (λ i. both ((negated_value v low.bit ∙ ap not gl.is) i) (gh.is i)) }

two_pos : 0 < 2
two_pos = omega arith

power_up : (i j : ℕ) → i ≤ j → 2 ^ i ≤ 2 ^ j
power_up i j h = pow-le-pow_right two_pos h

-- a type's width has room in 8 bits
width_fits : (signed : Bool) (n w : ℕ) → 8 ≤ n → w ≤ 64 → Fits signed n (pos w)
width_fits true n w h l = let p : 2 ^ 7 ≤ 2 ^ (n - 1) = power_up 7 (n - 1) (omega (arith, h)) in record { from = omega (arith, ints); to = omega (arith, ints, p, l) }
width_fits false n w h l = let p : 2 ^ 7 ≤ 2 ^ n = power_up 7 n (omega (arith, h)) in record { from = omega (arith, ints); to = omega (arith, ints, p, l) }

shift_test : (a b : Bool) → both (not a) b ≡ not (a || not b)
shift_test true b = refl
shift_test false b = sym (not_not b)

plain_test : (a b : Bool) → a ≡ false → b ≡ not (a || not b)
plain_test true b e = absurd (cc)
plain_test false b e = sym (not_not b)

not_negative : (x : ℤ) → pos 0 ≤ℤ x → int_lt x (pos 0) ≡ false
not_negative x h = grind (arith, ints)

shift_at : (v : ℕ → Bool) → v 0 ≡ true → (ty : Ty) (signed : Bool) (n : ℕ) (a : List Lit) (x : ℤ) (m : Made) → 8 ≤ n → length a ≡ n → Tells v signed n a x
    → Gives v m (not (breaks_shift ty x)) (if signed then within_bit n (pos ty.width) a m else ltu a (constant n (pos ty.width)) m)
unfolding breaks_shift
shift_at v given ty true n a x m big e s = λ ok.
    let r = within_gives v given n (pos ty.width) a x m s.some s.fits (width_fits true n ty.width big (width_at_most ty)) s.shows ok in
    record { before = r.before; is = r.is ∙ shift_test (int_lt x (pos 0)) (int_lt x (pos ty.width)) }
shift_at v given ty false n a x m big e s = λ ok.
    let r = less_shows v given false n a (constant n (pos ty.width)) x (pos ty.width) m s.some s.fits (width_fits false n ty.width big (width_at_most ty)) s.shows (constants_show v given n (pos ty.width)) ok in
    record { before = r.before; is = r.is ∙ plain_test (int_lt x (pos 0)) (int_lt x (pos ty.width)) (not_negative x (let f = s.fits in f.from)) }

pub shifts_are : ShiftsAre
shifts_are v given ty signed n a x m big s =
    let size : n ≡ length a = sym (let h = s.shows in h.size) in
    shift_at v given ty signed (length a) a x m (subst (λ k. 8 ≤ k) size big) refl (subst (λ k. Tells v signed k a x) size s)

longer_fits : (signed : Bool) (n : ℕ) (x : ℤ) → 1 ≤ n → Fits signed n x → IsSigned (n + 2) x
longer_fits true n x some f =
    let e : n - 1 ≤ n + 2 - 1 = omega (arith, some) in
    let p : 2 ^ (n - 1) ≤ 2 ^ (n + 2 - 1) = power_up (n - 1) (n + 2 - 1) e in
    let a = f.from in let b = f.to in
    record { from = omega (arith, ints, p, a); to = omega (arith, ints, p, b) }
longer_fits false n x some f =
    let e : n ≤ n + 2 - 1 = omega (arith, some) in
    let p : 2 ^ n ≤ 2 ^ (n + 2 - 1) = power_up n (n + 2 - 1) e in
    let a = f.from in let b = f.to in
    record { from = omega (arith, ints, p, a); to = omega (arith, ints, p, b) }

end_fits : (n : ℕ) (end : ℤ) → 32 ≤ n → pos 0 ≤ℤ end → end ≤ℤ pos 65537 → IsSigned (n + 2) end
end_fits n end h from to =
    let e : 17 ≤ n + 2 - 1 = omega (arith, h) in
    let p : 2 ^ 17 ≤ 2 ^ (n + 2 - 1) = power_up 17 (n + 2 - 1) e in
    record { from = omega (arith, ints, from); to = omega (arith, ints, p, to) }

below_test : (x end : ℤ) → both (not (int_lt x (pos 0))) (int_lt x end) ≡ is_below end x
below_test x end = ap (λ t. both t (int_lt x end)) (at_most (pos 0) x) ∙ same (int_le (pos 0) x) (int_lt x end)
  where
    same : (a b : Bool) → both a b ≡ (a && b)
    same true b = refl
    same false b = refl

index_at : (v : ℕ → Bool) → v 0 ≡ true → (end : ℤ) (signed : Bool) (n : ℕ) (a : List Lit) (x : ℤ) (m : Made) → pos 0 ≤ℤ end → end ≤ℤ pos 65537 → 32 ≤ n → Tells v signed n a x
    → Gives v m (is_below end x) (within_bit (n + 2) end (extended (n + 2) signed a) m)
index_at v given end signed n a x m from to big s = λ ok.
    let r = within_gives v given (n + 2) end (extended (n + 2) signed a) x m (omega (arith, big)) (longer_fits signed n x s.some s.fits) (end_fits n end big from to) (resized_show v given signed n (n + 2) a x s) ok in
    record { before = r.before; is = r.is ∙ below_test x end }

pub indexes_are : IndexesAre
indexes_are v given end signed n a x m from to big s =
    let size : n ≡ length a = sym (let h = s.shows in h.size) in
    index_at v given end signed (length a) a x m from to (subst (λ k. 32 ≤ k) size big) (subst (λ k. Tells v signed k a x) size s)
