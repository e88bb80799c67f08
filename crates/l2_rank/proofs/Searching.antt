-- What the search for a list of forms keeps.
use Rattle.std.proofs.Common.{◌≡◌, inl, inr, ℕ, zero, suc, ◌+◌, ◌<◌, ◌≤◌, Bool, true, false, List, [], ◌∷◌, ◌++◌, length, drop, replicate, refl, sym, ap, ◌∙◌, subst, arith, append_assoc}
use Rattle.std.specs.Prelude.{◌↔◌, IsTrue, MatchOption, Option, Some, None, slice_get, slice_index_or, slice_set, Contains}
use Rattle.std.proofs.lemmas.Bool.{cases_eq}
use native.Mathlib.Decide.{dec_lt}
use Rattle.std.proofs.lemmas.List.{append-nil, drop_more, drop_all, length-append, length-set, get_or-set_other, get_or-replicate, get_or_past, length-replicate}
use Rattle.std.proofs.lemmas.List.Elements.{Contains-append_left, Contains-push}
use Rattle.std.proofs.lemmas.List.Sums.{sum_by-set}
use Rattle.l2_runs.specs.Numbers.{at_number}
use Rattle.l2_program.specs.declared.program.LoopInfo.{LoopInfo}
use Rattle.l2_templates.specs.declared.form.Form.{Form}
use Rattle.l2_templates.specs.Forms.{no_form, form_at}
use Rattle.l2_rank.specs.Greedy.{Serves, IsFirstServing, NoneServes, IsGreedy, IsStuck, candidates_of, or_no_forms, AreRanks}
use Rattle.l2_rank.specs.Search.{unused, left, AreMarked, IsBegun}

-- ---- the first that serves

module _ (Moves : List Form → Form → Bool → Type 0) (fs cs : List Form) where
  -- the candidates before this index don't serve
  pub record IsPassed (i : ℕ) : Type 0 where
    pub first : (f : Form) → IsFirstServing Moves fs (drop i cs) f → IsFirstServing Moves fs cs f
    pub none : NoneServes Moves fs (drop i cs) → NoneServes Moves fs cs

  pub passed_first : IsPassed 0
  passed_first = record { first = λ f h. h; none = λ h. h }

  pub passed_more : (i : ℕ) → i < length cs → IsPassed i → ¬ Serves Moves fs (form_at cs i) → IsPassed (i + 1)
  passed_more i h p not_so =
      let e : drop i cs ≡ form_at cs i ∷ drop (i + 1) cs = drop_more cs i no_form h in record {
        first = λ f k. p.first f (subst (λ x. IsFirstServing Moves fs x f) (sym e) (inr (not_so, k)));
        none = λ k. p.none (subst (NoneServes Moves fs) (sym e) (not_so, k));
      }

  pub passed_found : (i : ℕ) → i < length cs → IsPassed i → Serves Moves fs (form_at cs i) → IsFirstServing Moves fs cs (form_at cs i)
  passed_found i h p so =
      let e : drop i cs ≡ form_at cs i ∷ drop (i + 1) cs = drop_more cs i no_form h in
      p.first (form_at cs i) (subst (λ x. IsFirstServing Moves fs x (form_at cs i)) (sym e) (inl (refl, so)))

  pub passed_all : (i : ℕ) → length cs ≤ i → IsPassed i → NoneServes Moves fs cs
  passed_all i h p = p.none (subst (NoneServes Moves fs) (sym (drop_all i cs h)) tt)

  -- what stands in the list doesn't serve
  pub kept_serves : ((f : Form) (up : Bool) → Contains fs f → ¬ Moves fs f up) → (used : List Bool) → AreMarked cs fs used → (i : ℕ) → slice_index_or used i false ≡ true → ¬ Serves Moves fs (form_at cs i)
  kept_serves kept used marked i u so = kept (form_at cs i) false (marked.stand i u) so.1

-- ---- the list

module _ (Moves : List Form → Form → Bool → Type 0) (Stays : List Form → Type 0) (cs : List Form) where
  pub begun_none : IsBegun Moves Stays cs []
  begun_none = record { greedy = λ gs h. h; stuck = λ gs h. h }

  pub begun_more : (fs : List Form) (g : Form) → IsBegun Moves Stays cs fs → IsFirstServing Moves fs cs g → IsBegun Moves Stays cs (fs ++ g ∷ [])
  begun_more fs g b first = record {
    greedy = λ gs h. subst (IsGreedy Moves Stays cs []) (sym (append_assoc fs (g ∷ []) gs)) (b.greedy (g ∷ gs) (first, h));
    stuck = λ gs h. subst (IsStuck Moves Stays cs []) (sym (append_assoc fs (g ∷ []) gs)) (b.stuck (g ∷ gs) (first, h));
  }

  pub begun_greedy : (fs : List Form) → IsBegun Moves Stays cs fs → ¬ Stays fs → IsGreedy Moves Stays cs [] fs
  begun_greedy fs b none = subst (IsGreedy Moves Stays cs []) (append-nil fs) (b.greedy [] none)

  pub begun_stuck : (fs : List Form) → IsBegun Moves Stays cs fs → Stays fs → NoneServes Moves fs cs → IsStuck Moves Stays cs [] fs
  begun_stuck fs b stays none = subst (IsStuck Moves Stays cs []) (append-nil fs) (b.stuck [] (stays, none))

-- ---- marks

unmarked : (n i : ℕ) → slice_index_or (replicate n false) i false ≡ false
unmarked n i = go (dec_lt i n)
  where
    go : Dec (i < n) → slice_index_or (replicate n false) i false ≡ false
    go (yes h) = get_or-replicate n i false false h
    go (no h) = get_or_past (replicate n false) i false (let e = length-replicate n false in omega (arith, h, e))

pub marked_none : (cs : List Form) (used : List Bool) → used ≡ replicate (length cs) false → AreMarked cs [] used
marked_none cs used e = record {
  all = ap length e ∙ length-replicate (length cs) false;
  stand = λ i h. absurd (let t : false ≡ true = sym (ap (λ u. slice_index_or u i false) e ∙ unmarked (length cs) i) ∙ h in cc);
}

pub marked_more : (cs fs : List Form) (used : List Bool) (i : ℕ) → i < length cs → AreMarked cs fs used → AreMarked cs (fs ++ form_at cs i ∷ []) (slice_set used i true)
marked_more cs fs used i h m = record {
  all = length-set used i true ∙ m.all;
  stand = λ j k. elim (cases_eq j i) [
    | inl e ↦ subst (λ x. Contains (fs ++ form_at cs i ∷ []) (form_at cs x)) (sym e) (Contains-push fs (form_at cs i))
    | inr ne ↦ Contains-append_left fs (form_at cs i ∷ []) (form_at cs j) (m.stand j (sym (get_or-set_other used i j true false ne) ∙ k))
  ];
}

pub left_fewer : (used : List Bool) (i : ℕ) → i < length used → slice_index_or used i false ≡ false → left (slice_set used i true) < left used
left_fewer used i h u = let s = sum_by-set unused used i true false h in let e : unused (slice_index_or used i false) ≡ 1 = ap unused u in omega (arith, s, e)

-- ---- all loops

pub get_before : {A : Type 0} (xs : List A) (y : A) (n : ℕ) → n < length xs → slice_get (xs ++ y ∷ []) n ≡ slice_get xs n
get_before [] y n h = absurd (omega (arith, h))
get_before (x ∷ xs) y zero h = refl
get_before (x ∷ xs) y (suc n) h = get_before xs y n (omega (arith, h))

pub get_behind : {A : Type 0} (xs : List A) (y : A) → slice_get (xs ++ y ∷ []) (length xs) ≡ Some y
get_behind [] y = refl
get_behind (x ∷ xs) y = get_behind xs y

inside : {A : Type 0} (xs : List A) (n : ℕ) (x : A) → slice_get xs n ≡ Some x → n < length xs
inside [] n x e = absurd (let t : None ≡ Some x = e in cc)
inside (y ∷ xs) zero x e = omega arith
inside (y ∷ xs) (suc n) x e = let h = inside xs n x e in omega (arith, h)

module _ (Moves : ℕ → List Form → Form → Bool → Type 0) (Stays : ℕ → List Form → Type 0) (loops : List LoopInfo) where
  abbrev Is : ℕ → LoopInfo → List Form → Type 0
  Is l loop r = IsGreedy (Moves l) (Stays l) (candidates_of loop) [] r

  -- the first loops have these lists
  pub record AreRanked (i : ℕ) (ranks : List (List Form)) : Type 0 where
    pub all : length ranks ≡ i
    pub lists : (n : ℕ) (loop : LoopInfo) → n < i → slice_get loops n ≡ Some loop → Is (suc n) loop (or_no_forms (slice_get ranks n))

  pub ranked_none : AreRanked 0 []
  ranked_none = record { all = refl; lists = λ n loop h e. absurd (omega (arith, h)) }

  pub ranked_more : (i : ℕ) (ranks : List (List Form)) (loop : LoopInfo) (list : List Form) → slice_get loops i ≡ Some loop → Is (suc i) loop list → AreRanked i ranks → AreRanked (i + 1) (ranks ++ list ∷ [])
  ranked_more i ranks loop list at is r = record {
    all = length-append ranks (list ∷ []) ∙ ap (λ n. n + 1) r.all;
    lists = λ n other h e. elim (cases_eq n i) [
      | inl same ↦ subst (λ m. slice_get loops m ≡ Some other → Is (suc m) other (or_no_forms (slice_get (ranks ++ list ∷ []) m))) (sym same) last e
      | inr ne ↦ subst (λ o. Is (suc n) other (or_no_forms o)) (sym (get_before ranks list n (let k = r.all in omega (arith, k, h, ne)))) (r.lists n other (omega (arith, h, ne)) e)
    ];
  }
    where
      some_inside : (a b : LoopInfo) → Some a ≡ Some b → a ≡ b
      some_inside a b e = cc

      last : {other : LoopInfo} → slice_get loops i ≡ Some other → Is (suc i) other (or_no_forms (slice_get (ranks ++ list ∷ []) i))
      last {other} e =
          subst (λ m. Is (suc i) other (or_no_forms (slice_get (ranks ++ list ∷ []) m))) r.all
          (subst (λ o. Is (suc i) other (or_no_forms o)) (sym (get_behind ranks list)) (subst (λ x. Is (suc i) x list) (some_inside loop other (sym at ∙ e)) is))

  pub ranked_all : (i : ℕ) (ranks : List (List Form)) → length loops ≡ i → AreRanked i ranks → AreRanks Moves Stays loops (Some ranks)
  ranked_all i ranks e r = (r.all ∙ sym e, at)
    where
      at : (l : ℕ) (loop : LoopInfo) → at_number loops l ≡ Some loop → Is l loop (or_no_forms (at_number ranks l))
      at zero loop h = absurd (let t : None ≡ Some loop = h in cc)
      at (suc n) loop h = r.lists n loop (let k = inside loops n loop h in omega (arith, k, e)) h

-- ---- answers

pub of_none : {A : Type 0} (x : Option A) (N : Type 0) (S : A → Type 0) → MatchOption x N S → x ≡ None → N
of_none x N S h e = subst (λ o. MatchOption o N S) e h

pub of_some : {A : Type 0} (x : Option A) (N : Type 0) (S : A → Type 0) (a : A) → MatchOption x N S → x ≡ Some a → S a
of_some x N S a h e = subst (λ o. MatchOption o N S) e h

pub not_so : (b : Bool) (S : Type 0) → (IsTrue b ↔ S) → b ≡ false → ¬ S
not_so b S h e s = let t : b ≡ true = h.1 s in let c : true ≡ false = sym t ∙ e in cc

-- ---- one loop of all

got_loop : (loops : List LoopInfo) (i : ℕ) (loop : LoopInfo) → i < length loops → loop ≡ slice_index_or loops i loop → slice_get loops i ≡ Some loop
got_loop [] i loop h e = absurd (omega (arith, h))
got_loop (x ∷ loops) zero loop h e = ap Some (sym e)
got_loop (x ∷ loops) (suc i) loop h e = got_loop loops i loop (omega (arith, h)) e

module _ (Moves : ℕ → List Form → Form → Bool → Type 0) (Stays : ℕ → List Form → Type 0) (loops : List LoopInfo) (i n : ℕ) (loop : LoopInfo) (forms : List Form) (inside_loops : i < length loops) (is : loop ≡ slice_index_or loops i loop) (number : n ≡ suc i) (all : forms ≡ candidates_of loop) where
  pub stuck_at : (fs : List Form) × IsStuck (Moves n) (Stays n) forms [] fs → AreRanks Moves Stays loops None
  stuck_at (fs, h) =
      (suc i, loop, got_loop loops i loop inside_loops is, (fs, subst (λ m. IsStuck (Moves m) (Stays m) (candidates_of loop) [] fs) number (subst (λ x. IsStuck (Moves n) (Stays n) x [] fs) all h)))

  pub ranked_at : (ranks new : List (List Form)) (list : List Form) → IsGreedy (Moves n) (Stays n) forms [] list → new ≡ ranks ++ list ∷ [] → AreRanked Moves Stays loops i ranks → AreRanked Moves Stays loops (i + 1) new
  ranked_at ranks new list h e r =
      subst (AreRanked Moves Stays loops (i + 1)) (sym e) (ranked_more Moves Stays loops i ranks loop list (got_loop loops i loop inside_loops is)
      (subst (λ m. IsGreedy (Moves m) (Stays m) (candidates_of loop) [] list) number (subst (λ x. IsGreedy (Moves n) (Stays n) x [] list) all h)) r)
