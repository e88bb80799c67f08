-- The log of what was learnt, as it grows.
use Rattle.std.proofs.Common.{◌≡◌, inl, inr, ℕ, suc, zero, ◌+◌, ◌-◌, List, ◌++◌, [], ◌∷◌, length, take, refl, sym, ap, ◌∙◌, subst, arith, append_assoc}
use Rattle.std.specs.Prelude.{ℤ, nat_abs, Contains}
use Rattle.std.proofs.Math.Nat.{le-max_left, le-max_right}
use Rattle.std.proofs.lemmas.List.{append-nil, length_push, take-append-le, take_all}
use Rattle.std.proofs.lemmas.List.Elements.{Contains-push_cases}
use Rattle.l2_cnf.specs.Logic.{IsWithin, AllWithin}
use Rattle.l2_cnf.specs.Lines.{step_of}
use Rattle.l2_cnf.specs.Steps.{Step, IsStep, Leads, IsDerivation, clauses_of}
use Rattle.l2_cnf.proofs.Derivations.{clauses_of-push, IsDerivation-push}
use Rattle.l2_cdcl.specs.Log.{greatest_in, greatest_of, IsKeptLog}

literals_within : (literals : List ℤ) → IsWithin (greatest_in literals) literals
literals_within [] l h = absurd (omega (arith, h.1))
literals_within (x ∷ literals) l (zero, h, e) = omega (arith, le-max_left (nat_abs x) (greatest_in literals), ap nat_abs e)
literals_within (x ∷ literals) l (suc k, h, e) = omega (arith, literals_within literals l (k, omega (arith, h), e), le-max_right (nat_abs x) (greatest_in literals))

-- clauses are over their variables
pub clauses_within : (clauses : List (List ℤ)) → AllWithin (greatest_of clauses) clauses
clauses_within [] clause h l there = absurd (omega (arith, h.1))
clauses_within (c ∷ clauses) clause (zero, h, e) l there = omega (arith, literals_within c l (subst (λ x. Contains x l) (sym e) there), le-max_left (greatest_in c) (greatest_of clauses))
clauses_within (c ∷ clauses) clause (suc k, h, e) l there = omega (arith, clauses_within clauses clause (k, omega (arith, h), e) l there, le-max_right (greatest_in c) (greatest_of clauses))

no_steps : (steps : List Step) → clauses_of steps ≡ [] → steps ≡ []
no_steps [] e = refl
no_steps (step ∷ steps) e = absurd (omega (arith, ap length e))

-- a clause is added before anything is learnt
pub log_add : (added learnt clauses : List (List ℤ)) (steps : List Step) (clause : List ℤ) → IsKeptLog added learnt clauses steps → learnt ≡ [] → IsKeptLog (added ++ clause ∷ []) learnt (clauses ++ clause ∷ []) steps
log_add added learnt clauses steps clause is none =
    let before : clauses ≡ added = is.whole ∙ ap (λ x. added ++ x) none ∙ append-nil added in
    record {
      log = record {
        derived = subst (IsDerivation (added ++ clause ∷ []) (greatest_of (added ++ clause ∷ []))) (sym (no_steps steps (is.log.clauses ∙ none))) tt;
        clauses = is.log.clauses;
      };
      whole = ap (λ x. x ++ clause ∷ []) before ∙ sym (ap (λ x. (added ++ clause ∷ []) ++ x) none ∙ append-nil (added ++ clause ∷ []));
      over = rw before (clauses_within (added ++ clause ∷ []));
    }

-- a clause is learnt
pub log_learn : (added learnt clauses : List (List ℤ)) (steps steps' : List Step) (clause : List ℤ) (hints : List ℕ) (n : ℕ) → IsKeptLog added learnt clauses steps → n ≡ length clauses → steps' ≡ steps ++ step_of (n + 1) clause hints ∷ []
    → IsStep clauses (greatest_of added) (length clauses + 1) clause hints → IsKeptLog added (learnt ++ clause ∷ []) (clauses ++ clause ∷ []) steps'
log_learn added learnt clauses steps steps' clause hints n is e f step =
    let known : clauses ≡ added ++ clauses_of steps = is.whole ∙ ap (λ x. added ++ x) (sym is.log.clauses) in
    let accepted : IsStep (added ++ clauses_of steps) (greatest_of added) (n + 1) clause hints = rw e (subst (λ x. IsStep x (greatest_of added) (length clauses + 1) clause hints) known step) in
    rw f (record {
      log = record {
        derived = IsDerivation-push added (greatest_of added) steps (step_of (n + 1) clause hints) is.log.derived accepted;
        clauses = clauses_of-push steps (step_of (n + 1) clause hints) ∙ ap (λ x. x ++ clause ∷ []) is.log.clauses;
      };
      whole = ap (λ x. x ++ clause ∷ []) is.whole ∙ append_assoc added learnt (clause ∷ []);
      over = λ c h. elim (Contains-push_cases clauses clause c h) [
        | inl old ↦ is.over c old
        | inr s ↦ subst (IsWithin (greatest_of added)) s (λ l k. (step.over l k).1)
      ];
    })

-- nothing yet
pub log_none : (added learnt clauses : List (List ℤ)) (steps : List Step) → added ≡ [] → learnt ≡ [] → clauses ≡ [] → steps ≡ [] → IsKeptLog added learnt clauses steps
log_none added learnt clauses steps a l c s = rw (a, l, c, s) (record {
  log = record { derived = tt; clauses = refl };
  whole = refl;
  over = λ clause h. absurd (omega (arith, h.1));
})

-- the step of the empty clause
pub empty_step : (clauses : List (List ℤ)) (variables : ℕ) (hints : List ℕ) → Leads clauses [] hints → IsStep clauses variables (length clauses + 1) [] hints
empty_step clauses variables hints leads = record {
  number_is = refl;
  over = λ l h. absurd (omega (arith, h.1));
  apart = λ i j h k. absurd (omega (arith, h, k));
  leads = leads;
}

-- what was pushed and popped
pub popped : {A : Type 0} (list pushed now : List A) (x : A) → pushed ≡ list ++ x ∷ [] → now ≡ take (length pushed - 1) pushed → now ≡ list
popped list pushed now x e f =
    let c : length pushed - 1 ≡ length list = omega (arith, ap length e, length_push list x) in
    f ∙ ap (λ k. take k pushed) c ∙ ap (take (length list)) e ∙ take-append-le (length list) list (x ∷ []) (omega arith) ∙ take_all (length list) list (omega arith)
