-- What a solver keeps: nothing is learnt after the empty clause, and of a log nothing was absorbed.
use Rattle.std.proofs.Common.{◌≡◌, inl, inr, ℕ, List, ◌++◌, [], ◌∷◌, length, refl, sym, ap, ◌∙◌, subst, arith, Bool, true, false, append_assoc}
use Rattle.std.specs.Prelude.{ℤ, Option, None, Some, Contains}
use Rattle.std.proofs.lemmas.List.{append-nil}
use Rattle.std.proofs.lemmas.List.Elements.{Contains-append_right, Contains-push_cases}
use Rattle.l2_cnf.specs.Logic.{Satisfies, IsAbsorbed}
use Rattle.l2_cnf.specs.Steps.{Step, EndsEmpty}
use Rattle.l2_cdcl.specs.Learning.{MayBeLearnt, AreLearnt, IsLearning}
use Rattle.l2_cdcl.specs.Search.{Search}
use Rattle.l2_cdcl.specs.Searched.{IsSearch}
use Rattle.l2_cdcl.specs.Held.{Held, held_of, IsHeld, IsSolver}

-- the empty clause absorbs every clause
empty_absorbs : (list : List (List ℤ)) (clause : List ℤ) → Contains list [] → IsAbsorbed list clause
empty_absorbs list clause h l stands = inr ([], h, λ m k. absurd (omega (arith, k.1)))

-- so nothing may be learnt beside it
unlearnable : (added before : List (List ℤ)) (clause : List ℤ) → MayBeLearnt added before clause → ¬ Contains before []
unlearnable added before clause may h = elim may.new [
  | inl (e, first) ↦ first h
  | inr fresh ↦ fresh (empty_absorbs (added ++ before) clause (Contains-append_right added before [] h))
]

AreLearnt-append : (added before clauses rest : List (List ℤ)) → AreLearnt added before clauses → AreLearnt added (before ++ clauses) rest → AreLearnt added before (clauses ++ rest)
AreLearnt-append added before [] rest all more = subst (λ x. AreLearnt added x rest) (append-nil before) more
AreLearnt-append added before (c ∷ clauses) rest all more = (all.0, AreLearnt-append added (before ++ c ∷ []) clauses rest all.1 (subst (λ x. AreLearnt added x rest) (sym (append_assoc before (c ∷ []) clauses)) more))

-- the empty clause is the last
learnt_ends : (added before clauses : List (List ℤ)) → AreLearnt added before clauses → (Contains before [] → EndsEmpty before) → Contains (before ++ clauses) [] → EndsEmpty (before ++ clauses)
learnt_ends added before [] all ends h = subst EndsEmpty (sym (append-nil before)) (ends (subst (λ x. Contains x []) (append-nil before) h))
learnt_ends added before (c ∷ clauses) all ends h =
    let e = append_assoc before (c ∷ []) clauses in
    subst EndsEmpty e (learnt_ends added (before ++ c ∷ []) clauses all.1 (λ k. elim (Contains-push_cases before c [] k) [
      | inl old ↦ absurd (unlearnable added before c all.0 old)
      | inr s ↦ (before, ap (λ x. before ++ x ∷ []) s)
    ]) (subst (λ x. Contains x []) (sym e) h))

-- what was learnt is implied
pub search_implied : (s : Search) → IsSearch s → (v : ℕ → Bool) → Satisfies v s.added → Satisfies v s.learnt
search_implied s is v model c h = is.implied v model c (is.inside c (Contains-append_right s.added s.learnt c h))

-- after a question
pub held_asked : (h g : Held) (assumptions : List ℤ) → IsHeld h → IsLearning assumptions h.added h.learnt g.learnt → ((v : ℕ → Bool) → Satisfies v g.added → Satisfies v g.learnt) → g.added ≡ h.added → g.logged ≡ h.logged → g.asked ≡ true → IsHeld g
held_asked h g assumptions is learning implied added logged asked = record {
  implied = implied;
  fresh = λ e. absurd (let t : true ≡ false = sym asked ∙ e in cc);
  ends = λ k. subst EndsEmpty (sym learning.learnt) (learnt_ends h.added h.learnt learning.more learning.all is.ends (subst (λ x. Contains x []) learning.learnt k));
  all = λ t. subst (λ x. AreLearnt x [] g.learnt) (sym added) (subst (AreLearnt h.added []) (sym learning.learnt) (AreLearnt-append h.added [] h.learnt learning.more (is.all (sym logged ∙ t)) learning.all));
}

-- after clauses were added
pub held_added : (h g : Held) → IsHeld h → ((v : ℕ → Bool) → Satisfies v g.added → Satisfies v g.learnt) → g.learnt ≡ h.learnt → g.logged ≡ h.logged → g.asked ≡ h.asked → (h.logged ≡ true → h.asked ≡ false) → IsHeld g
held_added h g is implied learnt logged asked allowed = record {
  implied = implied;
  fresh = λ e. learnt ∙ is.fresh (sym asked ∙ e);
  ends = λ k. subst EndsEmpty (sym learnt) (is.ends (subst (λ x. Contains x []) learnt k));
  all = λ t. subst (AreLearnt g.added []) (sym (learnt ∙ is.fresh (allowed (sym logged ∙ t)))) tt;
}

-- before anything was added or asked
pub held_none : (h : Held) → h.learnt ≡ [] → IsHeld h
held_none h none = record {
  implied = λ v model c k. absurd (omega (arith, k.1, ap length none));
  fresh = λ e. none;
  ends = λ k. absurd (omega (arith, k.1, ap length none));
  all = λ t. subst (AreLearnt h.added []) (sym none) tt;
}

-- whether a log is kept, and whether a question was asked
pub held_flags : (logged asked : Bool) (engine : Option Search) (no_lines : List Step) → ((held_of logged asked engine no_lines).logged ≡ logged) × ((held_of logged asked engine no_lines).asked ≡ asked)
held_flags logged asked None no_lines = (refl, refl)
held_flags logged asked (Some s) no_lines = (refl, refl)

-- a question leaves what is held
pub held_clauses : (logged asked : Bool) (engine : Option Search) (no_lines : List Step) → ((held_of logged true engine no_lines).added ≡ (held_of logged asked engine no_lines).added) × ((held_of logged true engine no_lines).learnt ≡ (held_of logged asked engine no_lines).learnt)
held_clauses logged asked None no_lines = (refl, refl)
held_clauses logged asked (Some s) no_lines = (refl, refl)

inside : (s t : Search) → Some s ≡ Some t → s ≡ t
inside s t e = cc

-- an engine is put back
pub put_back : (logged asked : Bool) (s : Search) (no_lines : List Step) → no_lines ≡ [] → s.logged ≡ logged → IsHeld (held_of logged asked (Some s) no_lines) → IsSolver logged asked (Some s) no_lines
put_back logged asked s no_lines empty same held = record {
  empty = empty;
  same = λ t e. subst (λ x. x.logged ≡ logged) (inside s t e) same;
  held = held;
}
