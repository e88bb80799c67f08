-- What a search keeps as it goes on.
use Rattle.std.proofs.Common.{◌≡◌, ◌≢◌, ◌⊎◌, inl, inr, ℕ, ◌+◌, ◌<◌, ◌≤◌, List, ◌++◌, [], ◌∷◌, length, sym, ap, ◌∙◌, subst, arith, Bool, true, false}
use Rattle.std.specs.Prelude.{ℤ, nat_abs, Contains}
use Rattle.std.proofs.lemmas.List.{length_push}
use Rattle.std.proofs.lemmas.List.Elements.{Contains-append_left, Contains-push, Contains-push_cases}
use Rattle.l2_cnf.specs.Logic.{Satisfies, HasTrue, Follows}
use Rattle.l2_cnf.proofs.Laws.{Follows-implied}
use Rattle.l2_watch.specs.Board.{Board}
use Rattle.l2_cdcl.specs.Learning.{learnt_of, added_of}
use Rattle.l2_cnf.specs.Lines.{step_of}
use Rattle.l2_cnf.specs.Steps.{IsStep}
use Rattle.l2_cdcl.specs.Log.{Logged, greatest_of, IsKeptLog}
use Rattle.l2_cdcl.specs.Search.{IsEngine}
use Rattle.l2_cdcl.proofs.Logs.{log_add, log_learn, log_none}
use Rattle.l2_cdcl.proofs.Learnings.{others-added, others-learnt, learnt-same, learnt-more}

-- the clauses stay
pub IsEngine-same : (at : List ℕ) (b b' : Board) (marks marks' : List Bool) (refuted : Bool) (log : Logged) → IsEngine at b marks refuted log → b'.clauses ≡ b.clauses → (b'.ready ≡ true → b'.variables < length marks') → IsEngine at b' marks' refuted log
IsEngine-same at b b' marks marks' refuted log is e room = record {
  within = rw e is.within;
  parts = rw e is.parts;
  implied = rw e is.implied;
  found = rw e is.found;
  told = rw e is.told;
  room = room;
  logged = rw e is.logged;
}

-- the steps stay, if they are kept
pub IsEngine-log : (at : List ℕ) (b : Board) (marks : List Bool) (refuted : Bool) (log log' : Logged) → IsEngine at b marks refuted log → log'.kept ≡ log.kept → (log.kept ≡ true → log'.steps ≡ log.steps) → IsEngine at b marks refuted log'
IsEngine-log at b marks refuted log log' is e same = record {
  within = is.within;
  parts = is.parts;
  implied = is.implied;
  found = is.found;
  told = is.told;
  room = is.room;
  logged = λ t. (let was : log.kept ≡ true = sym e ∙ t in subst (IsKeptLog (added_of at b.clauses) (learnt_of at b.clauses) b.clauses) (sym (same was)) (is.logged was));
}

not_yet : (at : List ℕ) (n : ℕ) → ((i : ℕ) → Contains at i → i < n) → ¬ Contains at n
not_yet at n within h = omega (arith, within n h)

pub added_add : (at : List ℕ) (clauses clauses' : List (List ℤ)) (clause : List ℤ) → ((i : ℕ) → Contains at i → i < length clauses) → clauses' ≡ clauses ++ clause ∷ [] → added_of at clauses' ≡ added_of at clauses ++ clause ∷ []
added_add at clauses clauses' clause within e = ap (added_of at) e ∙ others-added 0 at clauses clause (subst (λ n. ¬ Contains at n) (omega arith) (not_yet at (length clauses) within))

pub learnt_add : (at : List ℕ) (clauses clauses' : List (List ℤ)) (clause : List ℤ) → ((i : ℕ) → Contains at i → i < length clauses) → clauses' ≡ clauses ++ clause ∷ [] → learnt_of at clauses' ≡ learnt_of at clauses
learnt_add at clauses clauses' clause within e = ap (learnt_of at) e ∙ learnt-same at clauses clause within

pub added_learn : (at at' : List ℕ) (clauses clauses' : List (List ℤ)) (clause : List ℤ) (n : ℕ) → n ≡ length clauses → at' ≡ at ++ n ∷ [] → clauses' ≡ clauses ++ clause ∷ [] → added_of at' clauses' ≡ added_of at clauses
added_learn at at' clauses clauses' clause n e f g = (λ i. added_of (f i) (g i)) ∙ others-learnt 0 n at clauses clause (omega (arith, e))

pub learnt_learn : (at at' : List ℕ) (clauses clauses' : List (List ℤ)) (clause : List ℤ) (n : ℕ) → ((i : ℕ) → Contains at i → i < length clauses) → n ≡ length clauses → at' ≡ at ++ n ∷ [] → clauses' ≡ clauses ++ clause ∷ [] → learnt_of at' clauses' ≡ learnt_of at clauses ++ clause ∷ []
learnt_learn at at' clauses clauses' clause n within e f g = (λ i. learnt_of (f i) (g i)) ∙ learnt-more at clauses clause n e within

satisfies_front : (v : ℕ → Bool) (list : List (List ℤ)) (clause : List ℤ) → Satisfies v (list ++ clause ∷ []) → Satisfies v list
satisfies_front v list clause model c h = model c (Contains-append_left list (clause ∷ []) c h)

satisfies_more : (v : ℕ → Bool) (list : List (List ℤ)) (clause : List ℤ) → Satisfies v list → HasTrue v clause → Satisfies v (list ++ clause ∷ [])
satisfies_more v list clause model here c h = elim (Contains-push_cases list clause c h) [ inl old ↦ model c old | inr e ↦ subst (HasTrue v) e here ]

satisfies_last : (v : ℕ → Bool) (list : List (List ℤ)) (clause : List ℤ) → Satisfies v (list ++ clause ∷ []) → HasTrue v clause
satisfies_last v list clause model = model clause (Contains-push list clause)

-- a clause is added
pub IsEngine-add : (at : List ℕ) (b b' : Board) (marks : List Bool) (refuted : Bool) (log : Logged) (clause : List ℤ) → IsEngine at b marks refuted log → b'.clauses ≡ b.clauses ++ clause ∷ [] → b'.ready ≡ false → (log.kept ≡ true → learnt_of at b.clauses ≡ []) → IsEngine at b' marks refuted log
IsEngine-add at b b' marks refuted log clause is e idle none =
    let added : added_of at b'.clauses ≡ added_of at b.clauses ++ clause ∷ [] = added_add at b.clauses b'.clauses clause is.within e in
    let learnt : learnt_of at b'.clauses ≡ learnt_of at b.clauses = learnt_add at b.clauses b'.clauses clause is.within e in
    record {
      within = λ i h. omega (arith, is.within i h, ap length e, length_push b.clauses clause);
      parts = omega (arith, is.parts, ap length added, length_push (added_of at b.clauses) clause, ap length e, length_push b.clauses clause);
      implied = λ v model.
          let all : Satisfies v (added_of at b.clauses ++ clause ∷ []) = subst (Satisfies v) added model in
          subst (Satisfies v) (sym e) (satisfies_more v b.clauses clause (is.implied v (satisfies_front v (added_of at b.clauses) clause all)) (satisfies_last v (added_of at b.clauses) clause all));
      found = λ t. subst (λ x. Contains x []) (sym learnt) (is.found t);
      told = λ h. is.told (subst (λ x. Contains x []) learnt h);
      room = λ t. absurd (let z : true ≡ false = sym t ∙ idle in cc);
      logged = λ t. rw (added, learnt, e) (log_add (added_of at b.clauses) (learnt_of at b.clauses) b.clauses log.steps clause (is.logged t) (none t));
    }

-- a clause is learnt
pub IsEngine-learn : (at at' : List ℕ) (b b' : Board) (marks marks' : List Bool) (refuted refuted' : Bool) (log log' : Logged) (clause : List ℤ) (hints : List ℕ) (n : ℕ) → IsEngine at b marks refuted log → n ≡ length b.clauses → at' ≡ at ++ n ∷ [] → b'.clauses ≡ b.clauses ++ clause ∷ []
    → ((l : ℤ) → Contains clause l → 1 ≤ nat_abs l) → Follows b.clauses clause → (b'.ready ≡ true → b'.variables < length marks') → ((clause ≡ []) × (refuted' ≡ true)) ⊎ ((clause ≢ []) × (refuted' ≡ refuted))
    → log'.kept ≡ log.kept → (log.kept ≡ true → log'.steps ≡ log.steps ++ step_of (n + 1) clause hints ∷ []) → (log.kept ≡ true → IsStep b.clauses (greatest_of (added_of at b.clauses)) (length b.clauses + 1) clause hints) → IsEngine at' b' marks' refuted' log'
IsEngine-learn at at' b b' marks marks' refuted refuted' log log' clause hints n is e f g literals follows room end same line step =
    let added : added_of at' b'.clauses ≡ added_of at b.clauses = added_learn at at' b.clauses b'.clauses clause n e f g in
    let learnt : learnt_of at' b'.clauses ≡ learnt_of at b.clauses ++ clause ∷ [] = learnt_learn at at' b.clauses b'.clauses clause n is.within e f g in
    record {
      within = λ i h. elim (Contains-push_cases at n i (subst (λ x. Contains x i) f h)) [
        | inl old ↦ omega (arith, is.within i old, ap length g, length_push b.clauses clause)
        | inr s ↦ omega (arith, s, e, ap length g, length_push b.clauses clause)
      ];
      parts = omega (arith, is.parts, ap length added, ap length f, length_push at n, ap length g, length_push b.clauses clause);
      implied = λ v model.
          let old : Satisfies v b.clauses = is.implied v (subst (Satisfies v) added model) in
          subst (Satisfies v) (sym g) (satisfies_more v b.clauses clause old (Follows-implied v b.clauses clause literals follows old));
      found = λ t. subst (λ x. Contains x []) (sym learnt) (elim end [
        | inl (none, r) ↦ subst (λ c. Contains (learnt_of at b.clauses ++ clause ∷ []) c) none (Contains-push (learnt_of at b.clauses) clause)
        | inr (some, r) ↦ Contains-append_left (learnt_of at b.clauses) (clause ∷ []) [] (is.found (sym r ∙ t))
      ]);
      told = λ h. elim end [
        | inl (none, r) ↦ r
        | inr (some, r) ↦ elim (Contains-push_cases (learnt_of at b.clauses) clause [] (subst (λ x. Contains x []) learnt h)) [
          | inl old ↦ r ∙ is.told old
          | inr s ↦ absurd (some s)
        ]
      ];
      room = room;
      logged = λ t. (let was : log.kept ≡ true = sym same ∙ t in rw (added, learnt, g) (log_learn (added_of at b.clauses) (learnt_of at b.clauses) b.clauses log.steps log'.steps clause hints n (is.logged was) e (line was) (step was)));
    }

-- nothing yet
pub IsEngine-none : (at : List ℕ) (b : Board) (marks : List Bool) (log : Logged) → at ≡ [] → b.clauses ≡ [] → b.ready ≡ false → log.steps ≡ [] → IsEngine at b marks false log
IsEngine-none at b marks log e f idle none =
    let learnt : learnt_of at b.clauses ≡ [] = ap (λ x. learnt_of x b.clauses) e in
    let added : added_of at b.clauses ≡ [] = ap (added_of at) f in
    record {
      within = λ i h. absurd (omega (arith, h.1, ap length e));
      parts = omega (arith, ap length added, ap length e, ap length f);
      implied = λ v model c h. absurd (omega (arith, h.1, ap length f));
      found = λ t. absurd (let z : false ≡ true = t in cc);
      told = λ h. absurd (omega (arith, h.1, ap length learnt));
      room = λ t. absurd (let z : true ≡ false = sym t ∙ idle in cc);
      logged = λ t. log_none (added_of at b.clauses) (learnt_of at b.clauses) b.clauses log.steps added learnt f none;
    }
