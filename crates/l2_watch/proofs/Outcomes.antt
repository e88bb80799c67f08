-- What the answers of the search rest on.
use Rattle.std.proofs.Common.{◌≡◌, ◌⊎◌, inl, inr, ℕ, ◌≤◌, List, ◌++◌, [], ◌∷◌, sym, ◌∙◌, subst, Bool, true, false}
use Rattle.std.specs.Prelude.{ℤ, nat_abs, neg_ℤ, Contains}
use Rattle.std.proofs.lemmas.List.Elements.{Contains-append_cases, Contains-push_cases, Contains-append_right}
use Rattle.l2_cnf.specs.Logic.{Conflicts, Follows, Satisfies, HasTrue, literal_true, Settles}
use Rattle.l2_cnf.specs.Trail.{AreOver}
use Rattle.l2_cnf.proofs.Laws.{decide, no_model, Follows-implied}
use Rattle.l2_watch.specs.Watch.{IsConsistent, IsClosed}
use Rattle.l2_watch.proofs.Closed.{no_conflict_within}

-- Sat: a closed trail that has each variable or its negation makes every clause true
pub closed_satisfies : (v : ℕ → Bool) (n : ℕ) (list : List (List ℤ)) (trail : List ℤ) → IsClosed list trail → ((l : ℤ) → Contains trail l → literal_true v l ≡ true) → ((l : ℤ) → 1 ≤ nat_abs l → nat_abs l ≤ n → Contains trail l ⊎ Contains trail (neg_ℤ l)) → ((c : List ℤ) → Contains list c → AreOver n c) → Satisfies v list
closed_satisfies v n list trail closed holds total over clause c = elim (decide v clause) [
  | inl found ↦ found
  | inr none ↦ absurd (closed.live clause c (λ m k. elim (total m (over clause c m k).0 (over clause c m k).1) [
    | inl there ↦ absurd (let t : true ≡ false = sym (holds m there) ∙ none m k in cc)
    | inr away ↦ away
  ]))
]

-- where a closed, consistent trail has all assumptions, the list doesn't settle them
pub not_settled : (list : List (List ℤ)) (trail assumptions : List ℤ) → IsClosed list trail → IsConsistent trail → ((l : ℤ) → Contains assumptions l → Contains trail l) → ¬ Settles list assumptions
not_settled list trail assumptions closed consistent inside (inl (l, a, b)) = consistent l (inside l a) (inside (neg_ℤ l) b)
not_settled list trail assumptions closed consistent inside (inr conflict) = no_conflict_within list trail (Contains assumptions) closed inside conflict

-- Unsat: where the list with what is learnt leads the core to a conflict, no model of the list makes the core true
pub core_is_refuted : (v : ℕ → Bool) (added learnt : List (List ℤ)) (core : List ℤ) → (Satisfies v added → Satisfies v (added ++ learnt)) → Conflicts (added ++ learnt) (Contains core) → Satisfies v added → ((l : ℤ) → Contains core l → literal_true v l ≡ true) → ⊥
core_is_refuted v added learnt core implied conflict model holds = no_model v (added ++ learnt) (Contains core) conflict (implied model) holds

-- what follows from a list that is implied keeps it so
pub implied_more : (v : ℕ → Bool) (added learnt : List (List ℤ)) (clause : List ℤ) → ((l : ℤ) → Contains clause l → 1 ≤ nat_abs l) → Follows (added ++ learnt) clause → (Satisfies v added → Satisfies v (added ++ learnt)) → Satisfies v added → Satisfies v (added ++ (learnt ++ clause ∷ []))
implied_more v added learnt clause literals follows implied model c there = elim (Contains-append_cases added (learnt ++ clause ∷ []) c there) [
  | inl first ↦ model c first
  | inr more ↦ elim (Contains-push_cases learnt clause c more) [
    | inl old ↦ implied model c (Contains-append_right added learnt c old)
    | inr e ↦ subst (HasTrue v) e (Follows-implied v (added ++ learnt) clause literals follows (implied model))
  ]
]
