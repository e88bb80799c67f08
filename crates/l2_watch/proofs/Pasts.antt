-- A history's places and reasons, and histories that were added to.
use Rattle.std.proofs.Common.{add-one, ◌-◌, ◌*◌, Bool, true, false, replicate, ◌≡◌, ◌≢◌, inl, inr, ℕ, suc, zero, ◌+◌, ◌<◌, ◌≤◌, List, ◌++◌, [], ◌∷◌, take, length, get_or, set, refl, sym, ap, ◌∙◌, subst, arith}
use Rattle.std.specs.Prelude.{ℤ, pos, neg_ℤ, nat_abs, Contains}
use Rattle.std.proofs.lemmas.Bool.{cases_lt, cases_eq}
use Rattle.std.proofs.lemmas.List.Elements.{Contains-append_left, Contains-push, Contains-push_cases}
use Rattle.l2_cnf.specs.Lit.{code_of}
use Rattle.l2_cnf.specs.Trail.{AreApart}
use Rattle.l2_watch.proofs.Moves.{code_of_injective, code_within, Contains-take}
use Rattle.std.proofs.lemmas.List.{get_or-set_same, get_or-set_other, length-set, get_or_append_left, get_or_push, get_or_default, length_push, get_or-take, take-take, take-append-le, take_all, get_or_past, get_or-replicate, length-replicate, length-take-le}
use Rattle.l2_watch.specs.Past.{Past, IsPlaced, AreTold, IsReason, IsImplied, IsGrown}

-- one more literal
pub IsPlaced-push : (literals : List ℤ) (reasons places : List ℕ) (n : ℕ) (l : ℤ) (reason at : ℕ) → IsPlaced literals reasons places n → at ≡ length literals → nat_abs l ≤ n → ((m : ℤ) → Contains literals m → nat_abs m ≡ nat_abs l → ⊥) → IsPlaced (literals ++ l ∷ []) (set reasons at reason) (set places (nat_abs l) at) n
IsPlaced-push literals reasons places n l reason at is e within new = record {
  reasons_room = omega (arith, is.reasons_room, length-set reasons at reason);
  places_room = omega (arith, is.places_room, length-set places (nat_abs l) at);
  at = λ k h. elim (cases_lt k (length literals)) [
    | inl b ↦
        let here : get_or (literals ++ l ∷ []) k (pos 0) ≡ get_or literals k (pos 0) = get_or_append_left literals (l ∷ []) (pos 0) k b in
        let there : Contains literals (get_or literals k (pos 0)) = (k, b, get_or_default literals k _ _ b) in
        ap (λ x. get_or (set places (nat_abs l) at) (nat_abs x) 0) here ∙ get_or-set_other places (nat_abs l) (nat_abs (get_or literals k (pos 0))) at 0 (new _ there) ∙ is.at k b
    | inr b ↦
        let same : k ≡ length literals = omega (arith, length_push literals l) in
        let here : get_or (literals ++ l ∷ []) k (pos 0) ≡ l = get_or_push literals l (pos 0) k (sym same) in
        ap (λ x. get_or (set places (nat_abs l) at) (nat_abs x) 0) here ∙ get_or-set_same places (nat_abs l) at 0 (omega (arith, is.places_room)) ∙ e ∙ sym same
  ];
}

-- literals taken out
pub IsPlaced-pop : (literals : List ℤ) (reasons places : List ℕ) (n m : ℕ) → IsPlaced literals reasons places n → m ≤ length literals → IsPlaced (take m literals) reasons places n
IsPlaced-pop literals reasons places n m is h = record {
  reasons_room = is.reasons_room;
  places_room = is.places_room;
  at = λ k b.
      let before : k < m = omega (arith, b, length-take-le m literals h) in
      ap (λ x. get_or places (nat_abs x) 0) (get_or-take m literals k (pos 0) before) ∙ is.at k (omega (arith, before, h));
}

-- a clause whose literals but one are false gives a reason for it
pub IsReason-push : (literals clause : List ℤ) (l : ℤ) → Contains clause l → ((m : ℤ) → Contains clause m → m ≢ l → Contains literals (neg_ℤ m)) → IsReason (literals ++ l ∷ []) (length literals) clause
IsReason-push literals clause l h others =
    let here : get_or (literals ++ l ∷ []) (length literals) (pos 0) ≡ l = get_or_push literals l (pos 0) (length literals) refl in
    record {
      stands = subst (Contains clause) (sym here) h;
      others = λ m c ne.
          let there = others m c (λ e. ne (e ∙ sym here)) in
          (there.0, there.1, get_or_append_left literals (l ∷ []) (pos 0) there.0 there.1 ∙ get_or_default literals there.0 (pos 0) (neg_ℤ m) there.1 ∙ there.2);
    }

-- a reason stays as the literals up to it do
pub IsReason-same : (old new clause : List ℤ) (k : ℕ) → IsReason old k clause → ((j : ℕ) → j ≤ k → get_or new j (pos 0) ≡ get_or old j (pos 0)) → IsReason new k clause
IsReason-same old new clause k is same =
    let here = same k (omega arith) in
    record {
      stands = subst (Contains clause) (sym here) is.stands;
      others = λ m c ne.
          let there = is.others m c (λ e. ne (e ∙ sym here)) in
          (there.0, there.1, same there.0 (omega (arith, there.1)) ∙ there.2);
    }

pub IsImplied-same : (clauses : List (List ℤ)) (old new : List ℤ) (k reason : ℕ) → IsImplied clauses old k reason → ((j : ℕ) → j ≤ k → get_or new j (pos 0) ≡ get_or old j (pos 0)) → IsImplied clauses new k reason
IsImplied-same clauses old new k zero is same = absurd is
IsImplied-same clauses old new k (suc r) is same = (is.0, IsReason-same old new (get_or clauses r []) k is.1 same)

-- the literals of a part
pub part_same : (n : ℕ) (old new : List ℤ) → take n new ≡ old → (j : ℕ) → j < n → get_or new j (pos 0) ≡ get_or old j (pos 0)
part_same n old new e j h = sym (get_or-take n new j (pos 0) h) ∙ ap (λ x. get_or x j (pos 0)) e

pub IsGrown-push : (clauses : List (List ℤ)) (old new : Past) (l : ℤ) (r : ℕ) → length old.reasons ≡ length old.literals → r < length clauses → Contains (get_or clauses r []) l → ((m : ℤ) → Contains (get_or clauses r []) m → m ≢ l → Contains old.literals (neg_ℤ m))
    → new.literals ≡ old.literals ++ l ∷ [] → new.reasons ≡ old.reasons ++ (r + 1) ∷ [] → new.variables ≡ old.variables → IsGrown clauses old new
IsGrown-push clauses old new l r count h stands others e f g =
    let n : length new.literals ≡ length old.literals + 1 = ap length e ∙ length_push old.literals l in
    let m : length new.reasons ≡ length old.reasons + 1 = ap length f ∙ length_push old.reasons (r + 1) in
    record {
      variables = g;
      longer = omega arith;
      literals = ap (take (length old.literals)) e ∙ take-append-le (length old.literals) old.literals (l ∷ []) (omega arith) ∙ take_all (length old.literals) old.literals (omega arith);
      count = omega arith;
      reasons = ap (take (length old.literals)) f ∙ take-append-le (length old.literals) old.reasons ((r + 1) ∷ []) (omega arith) ∙ take_all (length old.literals) old.reasons (omega arith);
      caused = λ k low high.
          let same : k ≡ length old.literals = omega arith in
          let reason : get_or new.reasons k 0 ≡ suc r = ap (λ x. get_or x k 0) f ∙ get_or_push old.reasons (r + 1) 0 k (omega arith) ∙ add-one r in
          let is : IsReason (old.literals ++ l ∷ []) (length old.literals) (get_or clauses r []) = IsReason-push old.literals (get_or clauses r []) l stands others in
          let there : IsReason new.literals k (get_or clauses r []) = rw (e, same) is in
          subst (IsImplied clauses new.literals k) (sym reason) (h, there);
    }

pub IsGrown-none : (clauses : List (List ℤ)) (past : Past) → length past.reasons ≡ length past.literals → IsGrown clauses past past
IsGrown-none clauses past count = record {
  variables = refl;
  longer = omega arith;
  literals = take_all (length past.literals) past.literals (omega arith);
  count = count;
  reasons = take_all (length past.literals) past.reasons (omega arith);
  caused = λ k low high. absurd (omega arith);
}

pub IsGrown-then : (clauses : List (List ℤ)) (old mid new : Past) → IsGrown clauses old mid → IsGrown clauses mid new → IsGrown clauses old new
IsGrown-then clauses old mid new one two = record {
  variables = two.variables ∙ one.variables;
  longer = omega (arith, one.longer, two.longer);
  literals = sym (take-take (length old.literals) (length mid.literals) new.literals one.longer) ∙ ap (take (length old.literals)) two.literals ∙ one.literals;
  count = two.count;
  reasons = sym (take-take (length old.literals) (length mid.literals) new.reasons one.longer) ∙ ap (take (length old.literals)) two.reasons ∙ one.reasons;
  caused = λ k low high. elim (cases_lt k (length mid.literals)) [
    | inl b ↦
        let same : get_or new.reasons k 0 ≡ get_or mid.reasons k 0 = sym (get_or-take (length mid.literals) new.reasons k 0 b) ∙ ap (λ x. get_or x k 0) two.reasons in
        subst (IsImplied clauses new.literals k) (sym same) (IsImplied-same clauses mid.literals new.literals k (get_or mid.reasons k 0) (one.caused k low b) (λ j h. part_same (length mid.literals) mid.literals new.literals two.literals j (omega arith)))
    | inr b ↦ two.caused k (omega arith) high
  ];
}

-- what was true stays so
pub grown_more : (clauses : List (List ℤ)) (old new : Past) → IsGrown clauses old new → (m : ℤ) → Contains old.literals m → Contains new.literals m
grown_more clauses old new is m (k, h, e) =
    let same = part_same (length old.literals) old.literals new.literals is.literals k h in
    (k, omega (arith, is.longer), get_or_default new.literals k m (pos 0) (omega (arith, is.longer)) ∙ same ∙ get_or_default old.literals k (pos 0) m h ∙ e)

pub grown_part : (clauses : List (List ℤ)) (old new : Past) (b : ℕ) → IsGrown clauses old new → b ≤ length old.literals → take b new.literals ≡ take b old.literals
grown_part clauses old new b is h = sym (take-take b (length old.literals) new.literals h) ∙ ap (take b) is.literals

-- no literal is true
pub AreTold-none : (literals : List ℤ) (n : ℕ) → literals ≡ [] → AreTold literals (replicate (2 * n + 2) false) n
AreTold-none literals n none = record {
  room = omega (arith, length-replicate (2 * n + 2) false);
  told = λ l.
      let no : get_or (replicate (2 * n + 2) false) (code_of l) false ≡ false = elim (cases_lt (code_of l) (2 * n + 2)) [
        | inl b ↦ get_or-replicate (2 * n + 2) (code_of l) false false b
        | inr b ↦ get_or_past (replicate (2 * n + 2) false) (code_of l) false (omega (arith, b, length-replicate (2 * n + 2) false))
      ] in
      ((λ t. absurd (let f : true ≡ false = sym t ∙ no in cc)), (λ h. absurd (omega (arith, h.1, ap length none))));
}

-- one more literal is true
pub AreTold-push : (literals : List ℤ) (truths : List Bool) (n k : ℕ) (l : ℤ) → AreTold literals truths n → k ≡ code_of l → nat_abs l ≤ n → AreTold (literals ++ l ∷ []) (set truths k true) n
AreTold-push literals truths n k l are e within = record {
  room = omega (arith, are.room, length-set truths k true);
  told = λ m. elim (cases_eq (code_of m) k) [
    | inl same ↦
        let s : l ≡ m = code_of_injective l m (sym e ∙ sym same) in
        let t : get_or (set truths k true) (code_of m) false ≡ true = ap (λ j. get_or (set truths k true) j false) same ∙ get_or-set_same truths k true false (omega (arith, code_within l n within, are.room, e)) in
        ((λ h. subst (Contains (literals ++ l ∷ [])) s (Contains-push literals l)), (λ h. t))
    | inr differ ↦
        let t : get_or (set truths k true) (code_of m) false ≡ get_or truths (code_of m) false = get_or-set_other truths k (code_of m) true false differ in (
          (λ h. Contains-append_left literals (l ∷ []) m ((are.told m).0 (sym t ∙ h))),
          (λ h. t ∙ (are.told m).1 (elim (Contains-push_cases literals l m h) [ inl old ↦ old | inr s ↦ absurd (differ (ap code_of (sym s) ∙ sym e)) ])),
        )
  ];
}

-- the last literal is taken out
pub AreTold-pop : (literals : List ℤ) (truths : List Bool) (n k : ℕ) (l : ℤ) → AreTold literals truths n → AreApart literals → 0 < length literals → get_or literals (length literals - 1) (pos 0) ≡ l → k ≡ code_of l → nat_abs l ≤ n → AreTold (take (length literals - 1) literals) (set truths k false) n
AreTold-pop literals truths n k l are apart some is e within =
    let last : ℕ = length literals - 1 in
    let low : length (take last literals) ≡ last = length-take-le last literals (omega arith) in
    record {
      room = omega (arith, are.room, length-set truths k false);
      told = λ m. elim (cases_eq (code_of m) k) [
        | inl same ↦
            let s : l ≡ m = code_of_injective l m (sym e ∙ sym same) in
            let t : get_or (set truths k false) (code_of m) false ≡ false = ap (λ j. get_or (set truths k false) j false) same ∙ get_or-set_same truths k false false (omega (arith, code_within l n within, are.room, e)) in (
              (λ h. absurd (let f : true ≡ false = sym h ∙ t in cc)),
              (λ (j, b, there).
                  let before : j < last = omega (arith, b, low) in
                  let at : get_or literals j (pos 0) ≡ m = get_or_default literals j (pos 0) m (omega (arith, before, some)) ∙ sym (get_or-take last literals j m before) ∙ there in
                  absurd (apart j last before (omega (arith, some)) (ap nat_abs (at ∙ sym s ∙ sym is)))),
            )
        | inr differ ↦
            let t : get_or (set truths k false) (code_of m) false ≡ get_or truths (code_of m) false = get_or-set_other truths k (code_of m) false false differ in (
              (λ h. (let old = (are.told m).0 (sym t ∙ h) in elim (cases_lt old.0 last) [
                | inl b ↦ (old.0, omega (arith, b, low), get_or-take last literals old.0 m b ∙ old.2)
                | inr b ↦
                    let at : old.0 ≡ last = omega (arith, b, old.1) in
                    let s : m ≡ l = sym old.2 ∙ get_or_default literals old.0 m (pos 0) old.1 ∙ ap (λ j. get_or literals j (pos 0)) at ∙ is in
                    absurd (differ (ap code_of s ∙ sym e))
              ])),
              (λ h. t ∙ (are.told m).1 (Contains-take last literals m (omega arith) h)),
            )
      ];
    }
