-- What gates give where their clauses are true.
use Rattle.std.proofs.Common.{◌≡◌, ℕ, Bool, true, false, not, refl, sym, ap, ◌∙◌, List, [], ◌∷◌, ◌++◌, arith}
use Rattle.std.specs.Prelude.{nat_eq}
use Rattle.l2_gates.specs.Gates.{Lit, Pos, Neg, negated, T, F, same, Made, Bit, known, new_and, new_xor, new_mux, and, or, xor, mux}
use Rattle.l2_gates.specs.Models.{both, differ, chosen, value, some_true, all_true, Gives}
use Rattle.l2_gates.specs.Law.{GatesGive}
use Rattle.l2_gates.proofs.Bools.{both_false, both_true, both_self, both_not, both_first, both_second, not_not, differ_false, differ_true, differ_self, differ_not, chosen_same, chosen_or, chosen_or_self, chosen_and, chosen_and_not, chosen_implies, chosen_implies_not, chosen_both, chosen_both_self, and_bits, xor_bits, mux_bits, by_test}

nat_eq_is : (a b : ℕ) → nat_eq a b ≡ true → a ≡ b
nat_eq_is a b e = grind arith

same_is : (a b : Lit) → same a b ≡ true → a ≡ b
same_is (Pos n) (Pos m) e = ap Pos (nat_eq_is n m e)
same_is (Pos n) (Neg m) e = cc
same_is (Neg n) (Pos m) e = cc
same_is (Neg n) (Neg m) e = ap Neg (nat_eq_is n m e)

module _ (v : ℕ → Bool) where
  pub negated_value : (a : Lit) → value v (negated a) ≡ not (value v a)
  negated_value (Pos n) = refl
  negated_value (Neg n) = sym (not_not (v n))

  -- two clause lists, one behind the other
  pub all_first : (cs ds : List (List Lit)) → all_true v (cs ++ ds) ≡ true → all_true v cs ≡ true
  all_first [] ds h = refl
  all_first (c ∷ cs) ds h =
      let a = both_first (some_true v c) _ h in
      let b = all_first cs ds (both_second (some_true v c) _ h) in
      ap (λ x. both x (all_true v cs)) a ∙ b

  pub all_second : (cs ds : List (List Lit)) → all_true v (cs ++ ds) ≡ true → all_true v ds ≡ true
  all_second [] ds h = h
  all_second (c ∷ cs) ds h = all_second cs ds (both_second (some_true v c) _ h)

  pub known_gives : (l : Lit) (m : Made) (b : Bool) → value v l ≡ b → Gives v m b (known l m)
  known_gives l m b e = λ ok. record { before = ok; is = e }

  new_and_gives : (a b : Lit) (m : Made) → Gives v m (both (value v a) (value v b)) (new_and a b m)
  new_and_gives a b m = λ ok. record {
    before = all_first m.clauses _ ok;
    is = and_bits (v m.next) (value v a) (value v b) (rw (negated_value a, negated_value b) at (all_second m.clauses _ ok));
  }

  new_xor_gives : (a b : Lit) (m : Made) → Gives v m (differ (value v a) (value v b)) (new_xor a b m)
  new_xor_gives a b m = λ ok. record {
    before = all_first m.clauses _ ok;
    is = xor_bits (v m.next) (value v a) (value v b) (rw (negated_value a, negated_value b) at (all_second m.clauses _ ok));
  }

  new_mux_gives : (c a b : Lit) (m : Made) → Gives v m (chosen (value v c) (value v a) (value v b)) (new_mux c a b m)
  new_mux_gives c a b m = λ ok. record {
    before = all_first m.clauses _ ok;
    is = mux_bits (v m.next) (value v c) (value v a) (value v b) (rw (negated_value c, negated_value a, negated_value b) at (all_second m.clauses _ ok));
  }

  module _ (truth : v 0 ≡ true) where
    pub value_F : value v F ≡ false
    value_F = ap not truth

    pub is_F : (a : Lit) → same a F ≡ true → value v a ≡ false
    is_F a e = ap (value v) (same_is a F e) ∙ value_F

    pub is_T : (a : Lit) → same a T ≡ true → value v a ≡ true
    is_T a e = ap (value v) (same_is a T e) ∙ truth

    is_other : (a b : Lit) → same a b ≡ true → value v a ≡ value v b
    is_other a b e = ap (value v) (same_is a b e)

    is_negated : (a b : Lit) → same a (negated b) ≡ true → value v a ≡ not (value v b)
    is_negated a b e = ap (value v) (same_is a (negated b) e) ∙ negated_value b

    pub and_gives : (a b : Lit) (m : Made) → Gives v m (both (value v a) (value v b)) (and a b m)
    and_gives a b m =
        let P : Bit → Type 0 = Gives v m (both (value v a) (value v b)) in
        by_test P (same a F) _ _ (λ e. known_gives F m _ (value_F ∙ sym (ap (λ x. both x (value v b)) (is_F a e)))) λ n.
        by_test P (same b F) _ _ (λ e. known_gives F m _ (value_F ∙ sym (ap (both (value v a)) (is_F b e) ∙ both_false (value v a)))) λ n.
        by_test P (same a (negated b)) _ _ (λ e. known_gives F m _ (value_F ∙ sym (ap (λ x. both x (value v b)) (is_negated a b e) ∙ both_not (value v b)))) λ n.
        by_test P (same a T) _ _ (λ e. known_gives b m _ (sym (ap (λ x. both x (value v b)) (is_T a e)))) λ n.
        by_test P (same b T) _ _ (λ e. known_gives a m _ (sym (ap (both (value v a)) (is_T b e) ∙ both_true (value v a)))) λ n.
        by_test P (same a b) _ _ (λ e. known_gives a m _ (sym (ap (both (value v a)) (sym (is_other a b e)) ∙ both_self (value v a)))) λ n.
        new_and_gives a b m

    pub or_gives : (a b : Lit) (m : Made) → Gives v m (not (both (not (value v a)) (not (value v b)))) (or a b m)
    or_gives a b m = λ ok.
        let r = and_gives (negated a) (negated b) m ok in
        record { before = r.before; is = negated_value (and (negated a) (negated b) m).bit ∙ ap not (r.is ∙ ap (λ x. both x (value v (negated b))) (negated_value a) ∙ ap (both (not (value v a))) (negated_value b)) }

    pub xor_gives : (a b : Lit) (m : Made) → Gives v m (differ (value v a) (value v b)) (xor a b m)
    xor_gives a b m =
        let P : Bit → Type 0 = Gives v m (differ (value v a) (value v b)) in
        by_test P (same a F) _ _ (λ e. known_gives b m _ (sym (ap (λ x. differ x (value v b)) (is_F a e)))) λ n.
        by_test P (same a T) _ _ (λ e. known_gives (negated b) m _ (negated_value b ∙ sym (ap (λ x. differ x (value v b)) (is_T a e)))) λ n.
        by_test P (same b F) _ _ (λ e. known_gives a m _ (sym (ap (differ (value v a)) (is_F b e) ∙ differ_false (value v a)))) λ n.
        by_test P (same b T) _ _ (λ e. known_gives (negated a) m _ (negated_value a ∙ sym (ap (differ (value v a)) (is_T b e) ∙ differ_true (value v a)))) λ n.
        by_test P (same a b) _ _ (λ e. known_gives F m _ (value_F ∙ sym (ap (differ (value v a)) (sym (is_other a b e)) ∙ differ_self (value v a)))) λ n.
        by_test P (same a (negated b)) _ _ (λ e. known_gives T m _ (truth ∙ sym (ap (λ x. differ x (value v b)) (is_negated a b e) ∙ differ_not (value v b)))) λ n.
        new_xor_gives a b m

    -- a gate whose value is another's
    as_value : (m : Made) (a b : Bool) (r : Bit) → a ≡ b → Gives v m a r → Gives v m b r
    as_value m a b r e g = λ ok. let q = g ok in record { before = q.before; is = q.is ∙ e }

    pub mux_gives : (c a b : Lit) (m : Made) → Gives v m (chosen (value v c) (value v a) (value v b)) (mux c a b m)
    mux_gives c a b m =
        let P : Bit → Type 0 = Gives v m (chosen (value v c) (value v a) (value v b)) in
        by_test P (same c T) _ _ (λ e. known_gives a m _ (sym (ap (λ x. chosen x (value v a) (value v b)) (is_T c e)))) λ n.
        by_test P (same c F) _ _ (λ e. known_gives b m _ (sym (ap (λ x. chosen x (value v a) (value v b)) (is_F c e)))) λ n.
        by_test P (same a b) _ _ (λ e. known_gives a m _ (sym (ap (chosen (value v c) (value v a)) (sym (is_other a b e)) ∙ chosen_same (value v c) (value v a)))) λ n.
        by_test P (same a T) _ _ (λ e. as_value m _ _ _ (chosen_or (value v c) (value v b) ∙ ap (λ x. chosen (value v c) x (value v b)) (sym (is_T a e))) (or_gives c b m)) λ n.
        by_test P (same a c) _ _ (λ e. as_value m _ _ _ (chosen_or_self (value v c) (value v b) ∙ ap (λ x. chosen (value v c) x (value v b)) (sym (is_other a c e))) (or_gives c b m)) λ n.
        by_test P (same a F) _ _ (λ e. as_value m _ _ _ (ap (λ x. both x (value v b)) (negated_value c) ∙ chosen_and (value v c) (value v b) ∙ ap (λ x. chosen (value v c) x (value v b)) (sym (is_F a e))) (and_gives (negated c) b m)) λ n.
        by_test P (same a (negated c)) _ _ (λ e. as_value m _ _ _ (ap (λ x. both x (value v b)) (negated_value c) ∙ chosen_and_not (value v c) (value v b) ∙ ap (λ x. chosen (value v c) x (value v b)) (sym (is_negated a c e))) (and_gives (negated c) b m)) λ n.
        by_test P (same b T) _ _ (λ e. as_value m _ _ _ (ap (λ x. not (both (not x) (not (value v a)))) (negated_value c) ∙ chosen_implies (value v c) (value v a) ∙ ap (chosen (value v c) (value v a)) (sym (is_T b e))) (or_gives (negated c) a m)) λ n.
        by_test P (same b (negated c)) _ _ (λ e. as_value m _ _ _ (ap (λ x. not (both (not x) (not (value v a)))) (negated_value c) ∙ chosen_implies_not (value v c) (value v a) ∙ ap (chosen (value v c) (value v a)) (sym (is_negated b c e))) (or_gives (negated c) a m)) λ n.
        by_test P (same b F) _ _ (λ e. as_value m _ _ _ (chosen_both (value v c) (value v a) ∙ ap (chosen (value v c) (value v a)) (sym (is_F b e))) (and_gives c a m)) λ n.
        by_test P (same b c) _ _ (λ e. as_value m _ _ _ (chosen_both_self (value v c) (value v a) ∙ ap (chosen (value v c) (value v a)) (sym (is_other b c e))) (and_gives c a m)) λ n.
        new_mux_gives c a b m

pub gates_give : (v : ℕ → Bool) → v 0 ≡ true → (m : Made) → GatesGive v m
gates_give v truth m = record {
  ands = λ a b. and_gives v truth a b m;
  ors = λ a b. or_gives v truth a b m;
  xors = λ a b. xor_gives v truth a b m;
  muxes = λ c a b. mux_gives v truth c a b m;
}
