-- Operators on two pointers.
use Rattle.std.proofs.Common.{◌≡◌, ℕ, zero, suc, ◌+◌, ◌*◌, ◌^◌, ◌<◌, ◌==◌, ◌&&◌, Bool, true, false, not, if◌then◌else◌, ℤ, pos, ◌-ℤ◌, Option, Some, None, refl, sym, ap, ◌∙◌, subst, List, length, arith}
use Rattle.std.specs.Prelude.{nat_eq, nat_lt, nat_le}
use Rattle.std.proofs.lemmas.Bool.{eqb-true, eqb-false}
use Rattle.std.proofs.lemmas.Bool.Decides.{nat_tests}
use Rattle.l2_gates.specs.Gates.{Lit, Made, Bit}
use Rattle.l2_gates.specs.Models.{both, value, Ok, Gives}
use Rattle.l2_gates.proofs.Bools.{both_false}
use Rattle.l2_gates.proofs.Values.{negated_value}
use Rattle.l2_circuits.specs.Words.{truth_word, eq, ltu, sub, opposite}
use Rattle.l2_circuit_laws.specs.Values.{values, bit_number, number}
use Rattle.l2_circuit_laws.specs.Shows.{Shows}
use Rattle.l2_circuit_laws.proofs.Numbers.{equal_gives, less_gives}
use Rattle.l2_circuit_laws.proofs.Shown.{same_of_length, power_is, differences_show}
use Rattle.l2_circuit_laws.proofs.Signed.{values_length}
use Rattle.l2_circuit_laws.proofs.Choices.{truths_show}
use Rattle.l2_runs.specs.declared.cells.CellValue.{CellValue}
use Rattle.l2_runs.specs.declared.cells.CellValue.TheVariants.{Number, Null, Invalid, At}
use Rattle.l2_runs.specs.Operators.{truth}
use Rattle.l2_code.specs.declared.action.PointerOperator.{PointerOperator}
use Rattle.l2_code.specs.declared.action.PointerOperator.TheVariants as op
use Rattle.l2_code.specs.Values.{distance, in_order, on_equal, on_pointers}
use Rattle.l2_pointer_circuits.specs.Words.{selector, offset, extended_offset, as_word, operator_word}
use Rattle.l2_pointer_circuits.specs.Shows.{pointer_at, ShowsPointer, GainsNumber}
use Rattle.l2_pointer_circuits.specs.Law.{width_of, OperatorsShow}
use Rattle.l2_pointer_circuits.proofs.Halves.{values_append, number_append, selector_length, offset_length, halves_of, under_half}
use Rattle.l2_pointer_circuits.proofs.Values.{zero_suc, suc_zero, suc_suc, apart, beyond, itself, both_and}
use Rattle.l2_pointer_circuits.proofs.Moves.{extended_shows}
use Rattle.l2_pointer_circuits.proofs.Sets.{not_over}

-- ---- offsets

abbrev offset_in : CellValue → ℕ
offset_in (Number z) = 0
offset_in Null = 0
offset_in Invalid = 0
offset_in (At o f) = f

offset_at : (s f : ℕ) → offset_in (pointer_at s f) ≡ f
offset_at zero zero = refl
offset_at zero (suc f) = refl
offset_at (suc zero) zero = refl
offset_at (suc zero) (suc f) = refl
offset_at (suc (suc n)) f = refl

distance_is : (x y : CellValue) (z : ℤ) → distance x y ≡ Some (Number z) → pos (offset_in x) -ℤ pos (offset_in y) ≡ z
distance_is (Number n) y z e = cc
distance_is Null y z e = cc
distance_is Invalid y z e = cc
distance_is (At o f) (Number n) z e = cc
distance_is (At o f) Null z e = cc
distance_is (At o f) Invalid z e = cc
distance_is (At o f) (At p g) z e = go (o == p) e
  where
    go : (b : Bool) → (if b then Some (Number (pos f -ℤ pos g)) else None) ≡ Some (Number z) → pos f -ℤ pos g ≡ z
    go true e = cc
    go false e = cc

order_is : (h : ℕ → ℕ → Bool) (x y : CellValue) (z : ℤ) → in_order h x y ≡ Some (Number z) → truth (h (offset_in x) (offset_in y)) ≡ z
order_is h (Number n) y z e = cc
order_is h Null y z e = cc
order_is h Invalid y z e = cc
order_is h (At o f) (Number n) z e = cc
order_is h (At o f) Null z e = cc
order_is h (At o f) Invalid z e = cc
order_is h (At o f) (At p g) z e = go (o == p) e
  where
    go : (b : Bool) → (if b then Some (Number (truth (h f g))) else None) ≡ Some (Number z) → truth (h f g) ≡ z
    go true e = cc
    go false e = cc

-- ---- equality

off_first : (a b : Bool) → a ≡ false → both a b ≡ false
off_first a b e = ap (λ x. both x b) e

off_second : (a b : Bool) → b ≡ false → both a b ≡ false
off_second a b e = ap (both a) e ∙ both_false a

same_pair : (a b c : Bool) → a ≡ c → both a b ≡ (c && b)
same_pair a b c e = ap (λ x. both x b) e ∙ both_and c b

off_pair : (a b c d : Bool) → a ≡ false → c ≡ false → both a b ≡ (c && d)
off_pair a b c d e f = ap (λ x. both x b) e ∙ sym (ap (λ x. x && d) f)

-- equal halves are equal pointers
same_is : (s f t g : ℕ) → s < 131072 → t < 131072 → (h : Bool → Bool) (z : ℤ) → on_equal h (pointer_at s f) (pointer_at t g) ≡ Some (Number z) → truth (h (both (nat_eq s t) (nat_eq f g))) ≡ z
same_is s f t g a b h z e = go s f t g a b e
  where
    is : (x y : Bool) → x ≡ y → Some (Number (truth (h y))) ≡ Some (Number z) → truth (h x) ≡ z
    is x y q e = ap (λ b. truth (h b)) q ∙ (let r : truth (h y) ≡ z = cc in r)

    go : (s f t g : ℕ) → s < 131072 → t < 131072 → on_equal h (pointer_at s f) (pointer_at t g) ≡ Some (Number z) → truth (h (both (nat_eq s t) (nat_eq f g))) ≡ z
    go (suc zero) zero t g a b e = cc
    go zero zero (suc zero) zero a b e = cc
    go zero (suc f) (suc zero) zero a b e = cc
    go (suc zero) (suc f) (suc zero) zero a b e = cc
    go (suc (suc n)) f (suc zero) zero a b e = cc
    go zero zero zero zero a b e = is _ _ (ap (λ x. both x (nat_eq 0 0)) (itself 0) ∙ itself 0) e
    go zero zero zero (suc g) a b e = is _ _ (off_second (nat_eq 0 0) (nat_eq 0 (suc g)) (zero_suc g)) e
    go zero zero (suc zero) (suc g) a b e = is _ _ (off_first (nat_eq 0 1) (nat_eq 0 (suc g)) (zero_suc 0)) e
    go zero zero (suc (suc m)) g a b e = is _ _ (off_first (nat_eq 0 (suc (suc m))) (nat_eq 0 g) (zero_suc (suc m))) e
    go zero (suc f) zero zero a b e = is _ _ (off_second (nat_eq 0 0) (nat_eq (suc f) 0) (suc_zero f)) e
    go zero (suc f) zero (suc g) a b e = is _ _ (same_pair (nat_eq 0 0) (nat_eq (suc f) (suc g)) (131071 == 131071) (itself 0 ∙ sym (itself 131071))) e
    go zero (suc f) (suc zero) (suc g) a b e = is _ _ (off_pair (nat_eq 0 1) (nat_eq (suc f) (suc g)) (131071 == 0) (suc f == suc g) (zero_suc 0) (beyond 131071 0 (omega arith))) e
    go zero (suc f) (suc (suc m)) g a b e = is _ _ (off_pair (nat_eq 0 (suc (suc m))) (nat_eq (suc f) g) (131071 == suc m) (suc f == g) (zero_suc (suc m)) (beyond 131071 (suc m) (omega arith))) e
    go (suc zero) (suc f) zero zero a b e = is _ _ (off_first (nat_eq 1 0) (nat_eq (suc f) 0) (suc_zero 0)) e
    go (suc zero) (suc f) zero (suc g) a b e = is _ _ (off_pair (nat_eq 1 0) (nat_eq (suc f) (suc g)) (0 == 131071) (suc f == suc g) (suc_zero 0) (apart 0 131071 (omega arith))) e
    go (suc zero) (suc f) (suc zero) (suc g) a b e = is _ _ (same_pair (nat_eq 1 1) (nat_eq (suc f) (suc g)) (0 == 0) (itself 1 ∙ sym (itself 0))) e
    go (suc zero) (suc f) (suc (suc m)) g a b e = is _ _ (off_pair (nat_eq 1 (suc (suc m))) (nat_eq (suc f) g) (0 == suc m) (suc f == g) (apart 1 (suc (suc m)) (omega arith)) (zero_suc m)) e
    go (suc (suc n)) f zero zero a b e = is _ _ (off_first (nat_eq (suc (suc n)) 0) (nat_eq f 0) (suc_zero (suc n))) e
    go (suc (suc n)) f zero (suc g) a b e = is _ _ (off_pair (nat_eq (suc (suc n)) 0) (nat_eq f (suc g)) (suc n == 131071) (f == suc g) (suc_zero (suc n)) (apart (suc n) 131071 (omega arith))) e
    go (suc (suc n)) f (suc zero) (suc g) a b e = is _ _ (off_pair (nat_eq (suc (suc n)) 1) (nat_eq f (suc g)) (suc n == 0) (f == suc g) (beyond (suc (suc n)) 1 (omega arith)) (suc_zero n)) e
    go (suc (suc n)) f (suc (suc m)) g a b e = is _ _ (same_pair (nat_eq (suc (suc n)) (suc (suc m))) (nat_eq f g) (suc n == suc m) (suc_suc (suc n) (suc m))) e

-- numbers of two halves
two_halves : (s f t g : ℕ) → s < 131072 → t < 131072 → nat_eq (s + 131072 * f) (t + 131072 * g) ≡ both (nat_eq s t) (nat_eq f g)
two_halves s f t g a b = go (nat_eq s t) (nat_eq f g) refl refl
  where
    low : s + 131072 * f ≡ t + 131072 * g → s ≡ t
    low e = omega arith

    go : (x y : Bool) → nat_eq s t ≡ x → nat_eq f g ≡ y → nat_eq (s + 131072 * f) (t + 131072 * g) ≡ both x y
    go true true p q = let c = eqb-true s t p in let d = eqb-true f g q in (λ i. nat_eq (c i + 131072 * d i) (t + 131072 * g)) ∙ itself (t + 131072 * g)
    go true false p q = let c = eqb-true s t p in let d = eqb-false f g q in grind (arith, nat_tests)
    go false y p q = let c = eqb-false s t p in let l = low in grind (arith, nat_tests)

module _ (v : ℕ → Bool) (truth_is : v 0 ≡ true) where
  whole : (a : List Lit) → length a ≡ 34 → number (values v a) ≡ number (values v (selector a)) + 131072 * number (values v (offset a))
  whole a e =
      ap (λ w. number (values v w)) (sym (halves_of a)) ∙ ap number (values_append v (selector a) (offset a)) ∙ number_append (values v (selector a)) (values v (offset a))
      ∙ ap (λ p. number (values v (selector a)) + p * number (values v (offset a))) (power_is (values v (selector a)) ∙ ap (λ n. 2 ^ n) (values_length v (selector a) ∙ selector_length a e))

  equal_value : (a b : List Lit) (m : Made) → length a ≡ 34 → length b ≡ 34
      → Gives v m (both (nat_eq (number (values v (selector a))) (number (values v (selector b)))) (nat_eq (number (values v (offset a))) (number (values v (offset b))))) (eq a b m)
  equal_value a b m e f = λ ok.
      let g = equal_gives v truth_is a b m (same_of_length a b (e ∙ sym f)) ok in
      let s = number (values v (selector a)) in
      let t = number (values v (selector b)) in
      record {
        before = g.before;
        is = g.is ∙ (λ i. nat_eq (whole a e i) (whole b f i)) ∙ two_halves s (number (values v (offset a))) t (number (values v (offset b))) (under_half v (selector a) (selector_length a e)) (under_half v (selector b) (selector_length b f));
      }

  less_value : (a b : List Lit) (m : Made) → length a ≡ 34 → length b ≡ 34 → Gives v m (nat_lt (number (values v (offset a))) (number (values v (offset b)))) (ltu (offset a) (offset b) m)
  less_value a b m e f = less_gives v truth_is (offset a) (offset b) m (same_of_length (offset a) (offset b) (offset_length a e ∙ sym (offset_length b f)))

  truth_number : (b : Bool) → pos (bit_number b) ≡ truth b
  truth_number true = refl
  truth_number false = refl

  -- a truth value as a word, where there is one
  word_gains : (m : Made) (r : Bit) (b : Bool) (o : Option CellValue) → Ok v m → value v r.bit ≡ b → ((z : ℤ) → o ≡ Some (Number z) → truth b ≡ z) → GainsNumber v m 32 (as_word r).bits o
  word_gains m r b o ok e h = record {
    before = ok;
    size = (truths_show v truth_is r.bit).size;
    shows = λ z q. subst (Shows v 32 (truth_word r.bit)) (truth_number (value v r.bit) ∙ ap truth e ∙ h z q) (truths_show v truth_is r.bit);
  }

  module _ (a b : List Lit) (x y : CellValue) (m : Made) (s : ShowsPointer v a x) (t : ShowsPointer v b y) where
    abbrev S : ℕ
    S = number (values v (selector a))

    abbrev O : ℕ
    O = number (values v (offset a))

    abbrev S' : ℕ
    S' = number (values v (selector b))

    abbrev O' : ℕ
    O' = number (values v (offset b))

    offset_x : offset_in x ≡ O
    offset_x = ap offset_in (sym s.is) ∙ offset_at S O

    offset_y : offset_in y ≡ O'
    offset_y = ap offset_in (sym t.is) ∙ offset_at S' O'

    equal : (h : Bool → Bool) (z : ℤ) → on_equal h x y ≡ Some (Number z) → truth (h (both (nat_eq S S') (nat_eq O O'))) ≡ z
    equal h z e = same_is S O S' O' (under_half v (selector a) (selector_length a s.size)) (under_half v (selector b) (selector_length b t.size)) h z ((λ i. on_equal h (s.is i) (t.is i)) ∙ e)

    ordered : (h : ℕ → ℕ → Bool) (z : ℤ) → in_order h x y ≡ Some (Number z) → truth (h O O') ≡ z
    ordered h z e = (λ i. truth (h (sym offset_x i) (sym offset_y i))) ∙ order_is h x y z e

    operator_gains : (o : PointerOperator) → Ok v (operator_word o a b m).made → GainsNumber v m (width_of o) (operator_word o a b m).bits (on_pointers o x y)
    operator_gains op.Diff ok =
        let u = extended_offset 64 a in
        let w = extended_offset 64 b in
        let g = differences_show v truth_is 64 u w (pos O) (pos O') m (extended_shows v truth_is 64 a (omega arith) s.size) (extended_shows v truth_is 64 b (omega arith) t.size) ok in
        record { before = g.before; size = g.shows.size; shows = λ z e. subst (Shows v 64 (sub u w m).bits) ((λ i. pos (sym offset_x i) -ℤ pos (sym offset_y i)) ∙ distance_is x y z e) g.shows }
    operator_gains op.Eq ok =
        let g = equal_value a b m s.size t.size ok in
        word_gains m (eq a b m) (both (nat_eq S S') (nat_eq O O')) (on_equal (λ e. e) x y) g.before g.is (equal (λ e. e))
    operator_gains op.Ne ok =
        let g = equal_value a b m s.size t.size ok in
        word_gains m (opposite (eq a b m)) (not (both (nat_eq S S') (nat_eq O O'))) (on_equal not x y) g.before (negated_value v (eq a b m).bit ∙ ap not g.is) (equal not)
    operator_gains op.Lt ok =
        let g = less_value a b m s.size t.size ok in
        word_gains m (ltu (offset a) (offset b) m) (nat_lt O O') (in_order nat_lt x y) g.before g.is (ordered nat_lt)
    operator_gains op.Le ok =
        let l = ltu (offset b) (offset a) m in
        let g = less_value b a m t.size s.size ok in
        word_gains m (opposite l) (nat_le O O') (in_order nat_le x y) g.before (negated_value v l.bit ∙ ap not g.is ∙ not_over O' O) (ordered nat_le)

pub operators_show : OperatorsShow
operators_show v truth o a b x y m s t ok = operator_gains v truth a b x y m s t o ok
