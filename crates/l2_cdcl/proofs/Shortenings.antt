-- Literals are taken out of the clause of a point, each by the reason of its negation.
use Rattle.std.proofs.Common.{◌≡◌, ◌≢◌, ◌⊎◌, inl, inr, ℕ, ◌-◌, ◌<◌, ◌≤◌, List, ◌++◌, [], ◌∷◌, length, reverse, get_or, set, sym, ap, ◌∙◌, subst, arith, Bool, true, false}
use Rattle.std.specs.Prelude.{ℤ, pos, nat_abs, neg_ℤ, Contains}
use Rattle.std.proofs.lemmas.Bool.{cases_eq}
use Rattle.std.proofs.lemmas.List.{get_or-set_same, get_or-set_other}
use lib.IntN.{neg_ℤ-neg_ℤ}
use Rattle.l2_cnf.specs.Trail.{AreApart}
use Rattle.l2_cnf.proofs.Laws.{nat_abs-neg_ℤ}
use Rattle.l2_watch.specs.Past.{IsReason}
use Rattle.l2_watch.specs.Watch.{Refutes}
use Rattle.l2_watch.proofs.Closed.{Refutes-resolve}
use Rattle.l2_cdcl.specs.Analysis.{IsMarked, IsFalseBefore, HasVariable, IsAside, IsLeft, IsPoint}
use Rattle.l2_cdcl.specs.Chain.{Chain, IsLater, IsResolved}
use Rattle.l2_cdcl.specs.Shortening.{IsKept, IsGone}
use Rattle.l2_cdcl.proofs.Analyses.{Refutes-more, one_place}
use Rattle.l2_cdcl.proofs.Chains.{Chain-more, chain_step, reverse-push}

-- marks after one was taken off
marked_other : (marks : List Bool) (v w : ℕ) → w ≢ v → IsMarked marks w → IsMarked (set marks v false) w
marked_other marks v w ne is = get_or-set_other marks v w false false ne ∙ is

unmarked_now : (marks : List Bool) (v w : ℕ) → v < length marks → w ≡ v → ¬ IsMarked (set marks v false) w
unmarked_now marks v w h e is = let t : true ≡ false = sym is ∙ ap (λ x. get_or (set marks v false) x false) e ∙ get_or-set_same marks v false false h in cc

pub marked_less : (marks : List Bool) (v w : ℕ) → v < length marks → IsMarked (set marks v false) w → IsMarked marks w
marked_less marks v w h is = elim (cases_eq w v) [
  | inl e ↦ absurd (unmarked_now marks v w h e is)
  | inr ne ↦ sym (get_or-set_other marks v w false false ne) ∙ is
]

unmarked_still : (marks : List Bool) (v w : ℕ) → v < length marks → ¬ IsMarked marks w → ¬ IsMarked (set marks v false) w
unmarked_still marks v w h none is = none (marked_less marks v w h is)

-- all that is left at a point is kept
pub kept_start : (trail : List ℤ) (low start k : ℕ) (marks : List Bool) (aside : List ℤ) → IsAside trail low start marks aside → (m : ℤ) → IsLeft trail low k aside m → IsKept trail low start k marks m
kept_start trail low start k marks aside is m (inl e) = inl e
kept_start trail low start k marks aside is m (inr (inl put)) = inr (inr (is.below m put, is.noted m put))
kept_start trail low start k marks aside is m (inr (inr base)) = inr (inl base)

-- what is kept is left where the literals are those put aside that are marked
pub kept_end : (trail : List ℤ) (low start k : ℕ) (marks marks' : List Bool) (aside aside' : List ℤ) → IsAside trail low start marks aside → ((v : ℕ) → IsMarked marks' v → IsMarked marks v) → ((m : ℤ) → Contains aside m → IsMarked marks' (nat_abs m) → Contains aside' m)
    → (m : ℤ) → IsKept trail low start k marks' m → IsLeft trail low k aside' m
kept_end trail low start k marks marks' aside aside' is less all m (inl e) = inl e
kept_end trail low start k marks marks' aside aside' is less all m (inr (inl base)) = inr (inr base)
kept_end trail low start k marks marks' aside aside' is less all m (inr (inr (below, marked))) = elim (is.marked m below (less (nat_abs m) marked)) [
  | inl base ↦ inr (inr base)
  | inr put ↦ inr (inl (all m put marked))
]

pub gone_end : (trail : List ℤ) (from start k : ℕ) (marks : List Bool) (aside : List ℤ) → start ≤ k → ((m : ℤ) → Contains aside m → IsMarked marks (nat_abs m)) → (l : ℤ) → IsGone trail from start k marks l → IsResolved trail k aside l
gone_end trail from start k marks aside first marked l (inl later) = inl later
gone_end trail from start k marks aside first marked l (inr (j, a, b, e, none)) = inr (j, omega (arith, b, first), e, λ m h same. none (subst (IsMarked marks) same (marked m h)))

-- the literal at a place is taken out by its reason, whose other literals need no care or are marked
module _ (clauses : List (List ℤ)) (trail : List ℤ) (low start k place : ℕ) (reason : List ℤ) (marks : List Bool) (apart : AreApart trail) (within : start ≤ length trail) (first : start ≤ k) (here : place < start) (is : IsReason trail place reason)
    (covered : (m : ℤ) → Contains reason m → m ≢ get_or trail place (pos 0) → IsFalseBefore trail low m ⊎ IsMarked marks (nat_abs m)) (room : nat_abs (get_or trail place (pos 0)) < length marks) where
  abbrev l : ℤ
  l = get_or trail place (pos 0)

  abbrev marks' : List Bool
  marks' = set marks (nat_abs l) false

  -- a literal at another place has another variable
  other_var : (j : ℕ) (m : ℤ) → j < length trail → get_or trail j (pos 0) ≡ neg_ℤ m → nat_abs m ≡ nat_abs l → (place ≡ j) × (m ≡ neg_ℤ l)
  other_var j m h e same = one_place trail place j (neg_ℤ l) m apart (omega (arith, here, within)) h (sym (neg_ℤ-neg_ℤ l)) e (same ∙ sym (nat_abs-neg_ℤ l))

  pub take_others : (m : ℤ) → Contains reason m → m ≢ l → IsKept trail low start k marks' m
  take_others m c ne =
      let (j, b, e) = is.others m c ne in
      elim (covered m c ne) [
        | inl base ↦ inr (inl base)
        | inr marked ↦ inr (inr (
          (j, omega (arith, b, here), e),
          marked_other marks (nat_abs l) (nat_abs m) (λ same. let one = other_var j m (omega (arith, b, here, within)) e same in omega (arith, one.0, b)) marked,
        ))
      ]

  pub take_rest : (m : ℤ) → IsKept trail low start k marks m → (m ≡ neg_ℤ l) ⊎ IsKept trail low start k marks' m
  take_rest m (inl e) = inr (inl e)
  take_rest m (inr (inl base)) = inr (inr (inl base))
  take_rest m (inr (inr ((j, b, e), marked))) = elim (cases_eq (nat_abs m) (nat_abs l)) [
    | inl same ↦ inl (other_var j m (omega (arith, b, within)) e same).1
    | inr ne ↦ inr (inr (inr ((j, b, e), marked_other marks (nat_abs l) (nat_abs m) ne marked)))
  ]

  pub take_refutes : Contains clauses reason → Refutes clauses (IsKept trail low start k marks) → Refutes clauses (IsKept trail low start k marks')
  take_refutes inside refutes =
      let back : l ≡ neg_ℤ (neg_ℤ l) = sym (neg_ℤ-neg_ℤ l) in
      Refutes-resolve clauses (IsKept trail low start k marks) (IsKept trail low start k marks') reason (neg_ℤ l) inside (subst (Contains reason) back is.stands) (λ m c ne. take_others m c (λ e. ne (e ∙ back))) take_rest refutes

  pub take_chain : (last number : ℕ) (numbers : List ℕ) → place < last → number ≢ 0 → number - 1 < length clauses → reason ≡ get_or clauses (number - 1) []
      → Chain clauses (IsKept trail low start k marks) (IsGone trail last start k marks) (reverse numbers) → Chain clauses (IsKept trail low start k marks') (IsGone trail place start k marks') (reverse (numbers ++ number ∷ []))
  take_chain last number numbers order some inside same chain =
      subst (Chain clauses (IsKept trail low start k marks') (IsGone trail place start k marks')) (sym (reverse-push numbers number))
      (Chain-more clauses (IsKept trail low start k marks') (IsKept trail low start k marks') (λ x. (x ≡ l) ⊎ IsGone trail last start k marks x) (IsGone trail place start k marks') (number ∷ reverse numbers) (λ m h. h)
      (λ x r. elim r [
        | inl s ↦ inr (place, omega arith, here, sym s, unmarked_now marks (nat_abs l) (nat_abs x) room (ap nat_abs s))
        | inr (inl later) ↦ inl later
        | inr (inr (j, a, b, e, none)) ↦ inr (j, omega (arith, a, order), b, e, unmarked_still marks (nat_abs l) (nat_abs x) room none)
      ])
      (chain_step clauses (IsKept trail low start k marks) (IsKept trail low start k marks') (IsGone trail last start k marks) number (reverse numbers) l (omega (arith, some), omega (arith, some, inside)) (subst (λ c. Contains c l) same is.stands)
      (λ m c ne. take_others m (subst (λ x. Contains x m) (sym same) c) ne) take_rest
      (λ x r clash. elim r [
        | inl (j, b, c, f) ↦ apart place j (omega (arith, b, first, here)) c (clash ∙ ap nat_abs (sym f))
        | inr (j, a, b, f, none) ↦ apart place j (omega (arith, a, order)) (omega (arith, b, within)) (clash ∙ ap nat_abs (sym f))
      ])
      chain))

-- nothing is taken out at a place
pub gone_lower : (trail : List ℤ) (last place start k : ℕ) (marks : List Bool) → place ≤ last → (l : ℤ) → IsGone trail last start k marks l → IsGone trail place start k marks l
gone_lower trail last place start k marks order l (inl later) = inl later
gone_lower trail last place start k marks order l (inr (j, a, b, e, none)) = inr (j, omega (arith, a, order), b, e, none)

pub skip_chain : (clauses : List (List ℤ)) (trail : List ℤ) (low last place start k : ℕ) (marks : List Bool) (hints : List ℕ) → place ≤ last → Chain clauses (IsKept trail low start k marks) (IsGone trail last start k marks) hints → Chain clauses (IsKept trail low start k marks) (IsGone trail place start k marks) hints
skip_chain clauses trail low last place start k marks hints order chain = Chain-more clauses (IsKept trail low start k marks) (IsKept trail low start k marks) (IsGone trail last start k marks) (IsGone trail place start k marks) hints (λ m h. h) (gone_lower trail last place start k marks order) chain

-- where nothing was taken out yet
pub start_refutes : (clauses : List (List ℤ)) (trail : List ℤ) (low start k : ℕ) (marks : List Bool) (aside : List ℤ) → IsAside trail low start marks aside → Refutes clauses (IsLeft trail low k aside) → Refutes clauses (IsKept trail low start k marks)
start_refutes clauses trail low start k marks aside is refutes = Refutes-more clauses (IsLeft trail low k aside) (IsKept trail low start k marks) (kept_start trail low start k marks aside is) refutes

pub start_chain : (clauses : List (List ℤ)) (trail : List ℤ) (low start k : ℕ) (marks : List Bool) (aside : List ℤ) (hints : List ℕ) → IsAside trail low start marks aside → Chain clauses (IsLeft trail low k aside) (IsLater trail k) hints → Chain clauses (IsKept trail low start k marks) (IsGone trail start start k marks) hints
start_chain clauses trail low start k marks aside hints is chain = Chain-more clauses (IsLeft trail low k aside) (IsKept trail low start k marks) (IsLater trail k) (IsGone trail start start k marks) hints (kept_start trail low start k marks aside is) (λ l later. inl later) chain

-- the clause of a point with more put aside
left_more : (trail : List ℤ) (low k : ℕ) (aside aside' : List ℤ) → ((m : ℤ) → Contains aside m → Contains aside' m) → (m : ℤ) → IsLeft trail low k aside m → IsLeft trail low k aside' m
left_more trail low k aside aside' more m (inl e) = inl e
left_more trail low k aside aside' more m (inr (inl put)) = inr (inl (more m put))
left_more trail low k aside aside' more m (inr (inr base)) = inr (inr base)

pub more_point : (clauses : List (List ℤ)) (trail : List ℤ) (low start k : ℕ) (marks : List Bool) (aside aside' : List ℤ) → IsPoint clauses trail low start k aside → ((m : ℤ) → Contains aside m → Contains aside' m) → IsAside trail low start marks aside' → ((v : ℕ) → IsMarked marks v → HasVariable clauses v) → IsPoint clauses trail low start k aside'
more_point clauses trail low start k marks aside aside' point more is known = record {
  first = point.first;
  within = point.within;
  below = is.below;
  refutes = Refutes-more clauses (IsLeft trail low k aside) (IsLeft trail low k aside') (left_more trail low k aside aside' more) point.refutes;
  apart = is.apart;
  here = point.here;
  known = λ m h. known (nat_abs m) (is.noted m h);
}

pub more_chain : (clauses : List (List ℤ)) (trail : List ℤ) (low k : ℕ) (aside aside' : List ℤ) (hints : List ℕ) → ((m : ℤ) → Contains aside m → Contains aside' m) → Chain clauses (IsLeft trail low k aside) (IsLater trail k) hints → Chain clauses (IsLeft trail low k aside') (IsLater trail k) hints
more_chain clauses trail low k aside aside' hints more chain = Chain-more clauses (IsLeft trail low k aside) (IsLeft trail low k aside') (IsLater trail k) (IsLater trail k) hints (left_more trail low k aside aside' more) (λ l h. h) chain

-- the clause of a point without what was taken out
module _ (clauses : List (List ℤ)) (trail : List ℤ) (low start k : ℕ) (marks marks' : List Bool) (aside aside' : List ℤ) (is : IsAside trail low start marks aside) (less : (v : ℕ) → IsMarked marks' v → IsMarked marks v)
    (all : (m : ℤ) → Contains aside m → IsMarked marks' (nat_abs m) → Contains aside' m) (part : (m : ℤ) → Contains aside' m → (Contains aside m) × (IsMarked marks' (nat_abs m))) where
  pub end_point : IsPoint clauses trail low start k aside → Refutes clauses (IsKept trail low start k marks') → AreApart aside' → IsPoint clauses trail low start k aside'
  end_point point refutes apart = record {
    first = point.first;
    within = point.within;
    below = λ m h. point.below m (part m h).0;
    refutes = Refutes-more clauses (IsKept trail low start k marks') (IsLeft trail low k aside') (kept_end trail low start k marks marks' aside aside' is less all) refutes;
    apart = apart;
    here = point.here;
    known = λ m h. point.known m (part m h).0;
  }

  pub end_chain : (last : ℕ) (hints : List ℕ) → start ≤ k → Chain clauses (IsKept trail low start k marks') (IsGone trail last start k marks') hints → Chain clauses (IsLeft trail low k aside') (IsResolved trail k aside') hints
  end_chain last hints first chain = Chain-more clauses (IsKept trail low start k marks') (IsLeft trail low k aside') (IsGone trail last start k marks') (IsResolved trail k aside') hints (kept_end trail low start k marks marks' aside aside' is less all)
      (gone_end trail last start k marks' aside' first (λ m h. (part m h).1)) chain
