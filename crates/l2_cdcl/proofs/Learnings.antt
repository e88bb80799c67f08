-- The clauses added and those learnt, as one list grows.
use Rattle.std.proofs.Common.{◌≡◌, ◌≢◌, inl, inr, ℕ, suc, zero, ◌+◌, ◌<◌, List, ◌++◌, [], ◌∷◌, length, get_or, refl, sym, ap, ◌∙◌, subst, arith, Bool, true, false, cond, eqb}
use Rattle.std.specs.Prelude.{ℤ, Contains}
use Rattle.std.specs.List.{list_any}
use Rattle.std.specs.Cmp.{nat_eq_equiv}
use Rattle.std.proofs.lemmas.List.{get_or_default, get_or_append_left, get_or_push, map_push, length-map, get_or-map}
use Rattle.std.proofs.lemmas.List.Elements.{Contains-append_left, Contains-append_right, Contains-append_cases, Contains-push, Contains-push_cases}
use Rattle.std.proofs.lemmas.Map.Views.{list_any-from_Contains, Contains-from_any}
use Rattle.l2_cdcl.specs.Learning.{learnt_of, others_from, added_of}
use Rattle.l2_cdcl.proofs.Measure.{eqb_same}

-- an index that isn't among these
pub not_among : (i : ℕ) (at : List ℕ) → ¬ Contains at i → list_any (eqb i) at ≡ false
not_among i at none =
    let b : (x : Bool) → list_any (eqb i) at ≡ x → x ≡ false = elim [ true ↦ λ e. absurd (none (Contains-from_any eqb_same i at e)) | false ↦ λ e. refl ] in
    b (list_any (eqb i) at) refl

pub among : (i : ℕ) (at : List ℕ) → Contains at i → list_any (eqb i) at ≡ true
among i at h = list_any-from_Contains nat_eq_equiv i at h

same_among : (i n : ℕ) (at : List ℕ) → i ≢ n → list_any (eqb i) (at ++ n ∷ []) ≡ list_any (eqb i) at
same_among i n at ne =
    let b : (x : Bool) → list_any (eqb i) at ≡ x → list_any (eqb i) (at ++ n ∷ []) ≡ x = elim [
      | true ↦ λ e. among i (at ++ n ∷ []) (Contains-append_left at (n ∷ []) i (Contains-from_any eqb_same i at e))
      | false ↦ λ e. not_among i (at ++ n ∷ []) (λ h. elim (Contains-push_cases at n i h) [
        | inl old ↦ (let t : true ≡ false = sym (among i at old) ∙ e in cc)
        | inr s ↦ ne (sym s)
      ])
    ] in
    b (list_any (eqb i) at) refl

-- a clause that is added behind
pub others-added : (i : ℕ) (at : List ℕ) (clauses : List (List ℤ)) (clause : List ℤ) → ¬ Contains at (i + length clauses) → others_from i at (clauses ++ clause ∷ []) ≡ others_from i at clauses ++ clause ∷ []
others-added i at [] clause none = (let e : list_any (eqb i) at ≡ false = not_among i at (subst (λ n. ¬ Contains at n) (omega arith) none) in rw e refl)
others-added i at (c ∷ clauses) clause none =
    let rest = others-added (suc i) at clauses clause (subst (λ n. ¬ Contains at n) (omega arith) none) in
    let b : (x : Bool) → cond x (others_from (suc i) at (clauses ++ clause ∷ [])) (c ∷ others_from (suc i) at (clauses ++ clause ∷ [])) ≡ cond x (others_from (suc i) at clauses) (c ∷ others_from (suc i) at clauses) ++ clause ∷ [] = elim [ true ↦ rest | false ↦ ap (λ x. c ∷ x) rest ] in
    b (list_any (eqb i) at)

-- a clause that is learnt behind
pub others-learnt : (i n : ℕ) (at : List ℕ) (clauses : List (List ℤ)) (clause : List ℤ) → n ≡ i + length clauses → others_from i (at ++ n ∷ []) (clauses ++ clause ∷ []) ≡ others_from i at clauses
others-learnt i n at [] clause e = (let s : list_any (eqb i) (at ++ n ∷ []) ≡ true = among i (at ++ n ∷ []) (subst (Contains (at ++ n ∷ [])) (omega (arith, e)) (Contains-push at n)) in rw s refl)
others-learnt i n at (c ∷ clauses) clause e =
    let rest = others-learnt (suc i) n at clauses clause (omega (arith, e)) in
    let s : list_any (eqb i) (at ++ n ∷ []) ≡ list_any (eqb i) at = same_among i n at (omega (arith, e)) in
    let b : (x : Bool) → cond x (others_from (suc i) (at ++ n ∷ []) (clauses ++ clause ∷ [])) (c ∷ others_from (suc i) (at ++ n ∷ []) (clauses ++ clause ∷ [])) ≡ cond x (others_from (suc i) at clauses) (c ∷ others_from (suc i) at clauses) = elim [ true ↦ rest | false ↦ ap (λ x. c ∷ x) rest ] in
    rw s (b (list_any (eqb i) at))

-- the learnt clauses stay as the list grows
pub learnt-same : (at : List ℕ) (clauses : List (List ℤ)) (clause : List ℤ) → ((i : ℕ) → Contains at i → i < length clauses) → learnt_of at (clauses ++ clause ∷ []) ≡ learnt_of at clauses
learnt-same [] clauses clause within = refl
learnt-same (i ∷ at) clauses clause within =
    let first : get_or (clauses ++ clause ∷ []) i [] ≡ get_or clauses i [] = get_or_append_left clauses (clause ∷ []) [] i (within i (0, omega arith, refl)) in
    let rest : learnt_of at (clauses ++ clause ∷ []) ≡ learnt_of at clauses = learnt-same at clauses clause (λ j h. within j (Contains-append_right (i ∷ []) at j h)) in
    λ k. first k ∷ rest k

pub learnt-more : (at : List ℕ) (clauses : List (List ℤ)) (clause : List ℤ) (n : ℕ) → n ≡ length clauses → ((i : ℕ) → Contains at i → i < length clauses) → learnt_of (at ++ n ∷ []) (clauses ++ clause ∷ []) ≡ learnt_of at clauses ++ clause ∷ []
learnt-more at clauses clause n e within =
    map_push (λ i. get_or (clauses ++ clause ∷ []) i []) at n ∙ (λ k. learnt-same at clauses clause within k ++ (get_or_push clauses clause [] n (sym e) k) ∷ [])

-- each clause of the list was added or learnt
pub others_inside : (i : ℕ) (at : List ℕ) (clauses : List (List ℤ)) (c : List ℤ) → Contains (others_from i at clauses) c → Contains clauses c
others_inside i at [] c h = h
others_inside i at (d ∷ clauses) c h =
    let b : (x : Bool) → Contains (cond x (others_from (suc i) at clauses) (d ∷ others_from (suc i) at clauses)) c → Contains (d ∷ clauses) c = elim [
      | true ↦ λ k. Contains-append_right (d ∷ []) clauses c (others_inside (suc i) at clauses c k)
      | false ↦ λ k. elim (Contains-append_cases (d ∷ []) (others_from (suc i) at clauses) c k) [
        | inl here ↦ Contains-append_left (d ∷ []) clauses c here
        | inr there ↦ Contains-append_right (d ∷ []) clauses c (others_inside (suc i) at clauses c there)
      ]
    ] in
    b (list_any (eqb i) at) h

pub others_has : (i : ℕ) (at : List ℕ) (clauses : List (List ℤ)) (k : ℕ) → k < length clauses → ¬ Contains at (i + k) → Contains (others_from i at clauses) (get_or clauses k [])
others_has i at [] k h none = absurd (omega (arith, h))
others_has i at (d ∷ clauses) zero h none = (let e : list_any (eqb i) at ≡ false = not_among i at (subst (λ n. ¬ Contains at n) (omega arith) none) in rw e (0, omega arith, refl))
others_has i at (d ∷ clauses) (suc k) h none =
    let rest = others_has (suc i) at clauses k (omega (arith, h)) (subst (λ n. ¬ Contains at n) (omega arith) none) in
    let b : (x : Bool) → Contains (cond x (others_from (suc i) at clauses) (d ∷ others_from (suc i) at clauses)) (get_or clauses k []) = elim [ true ↦ rest | false ↦ Contains-append_right (d ∷ []) (others_from (suc i) at clauses) (get_or clauses k []) rest ] in
    b (list_any (eqb i) at)

pub learnt_inside : (at : List ℕ) (clauses : List (List ℤ)) (c : List ℤ) → ((i : ℕ) → Contains at i → i < length clauses) → Contains (learnt_of at clauses) c → Contains clauses c
learnt_inside at clauses c within (k, h, e) =
    let b : k < length at = omega (arith, h, length-map at (λ i. get_or clauses i [])) in
    let i : ℕ = get_or at k 0 in
    let low : i < length clauses = within i (k, b, get_or_default at k _ _ b) in
    (i, low, get_or_default clauses i c [] low ∙ sym (get_or-map (λ j. get_or clauses j []) at k 0 c b) ∙ e)

pub learnt_has : (at : List ℕ) (clauses : List (List ℤ)) (k : ℕ) → Contains at k → Contains (learnt_of at clauses) (get_or clauses k [])
learnt_has at clauses k (j, h, e) =
    (j, omega (arith, h, length-map at (λ i. get_or clauses i [])), get_or-map (λ i. get_or clauses i []) at j k _ h ∙ ap (λ x. get_or clauses x []) e)

-- the list holds what was added and what was learnt
pub all_inside : (at : List ℕ) (clauses : List (List ℤ)) (c : List ℤ) → ((i : ℕ) → Contains at i → i < length clauses) → Contains (added_of at clauses ++ learnt_of at clauses) c → Contains clauses c
all_inside at clauses c within h = elim (Contains-append_cases (added_of at clauses) (learnt_of at clauses) c h) [
  | inl added ↦ others_inside 0 at clauses c added
  | inr learnt ↦ learnt_inside at clauses c within learnt
]

pub inside_all : (at : List ℕ) (clauses : List (List ℤ)) (c : List ℤ) → Contains clauses c → Contains (added_of at clauses ++ learnt_of at clauses) c
inside_all at clauses c (k, h, e) =
    let is : get_or clauses k [] ≡ c = get_or_default clauses k [] c h ∙ e in
    let b : (x : Bool) → list_any (eqb k) at ≡ x → Contains (added_of at clauses ++ learnt_of at clauses) (get_or clauses k []) = elim [
      | true ↦ λ s. Contains-append_right (added_of at clauses) (learnt_of at clauses) (get_or clauses k []) (learnt_has at clauses k (Contains-from_any eqb_same k at s))
      | false ↦ λ s. Contains-append_left (added_of at clauses) (learnt_of at clauses) (get_or clauses k []) (others_has 0 at clauses k h (λ there. (let z : 0 + k ≡ k = omega arith in let t : true ≡ false = sym (among k at (subst (Contains at) z there)) ∙ s in cc)))
    ] in
    subst (Contains (added_of at clauses ++ learnt_of at clauses)) is (b (list_any (eqb k) at) refl)
