-- What a question about one literal says of clauses.
use Rattle.std.proofs.Common.{◌≡◌, ℕ, zero, suc, ◌+◌, ◌<◌, ◌≤◌, ◌∙◌, List, [], ◌∷◌, ◌++◌, length, get_or, Bool, true, false, sym, subst, refl, inl, inr, arith}
use Rattle.std.specs.Prelude.{ℤ, pos, Option, Some, None, is_some, IsTrue, ◌↔◌, MatchOption, Contains}
use native.Mathlib.Decide.{ℕ_discrete}
use Rattle.std.proofs.lemmas.List.{get_or_default}
use Rattle.std.proofs.lemmas.List.Elements.{Contains-append_left, Contains-push, Contains-push_cases}
use Rattle.l2_cnf.specs.Assignment.{completed, MakesTrue, IsSatisfied}
use Rattle.l2_cnf.specs.Logic.{literal_true, HasTrue, Satisfies}
use Rattle.l2_cnf.proofs.Derivations.{Satisfies-push}
use Rattle.l2_cnf.proofs.Models.{MakesTrue-literal_true, IsSatisfied-Satisfies}
use Rattle.l2_cdcl.specs.Answering.{IsModel, IsCore, IsAnswer}
use Rattle.l2_cdcl.specs.declared.answer.Answer.{Answer}
use Rattle.l2_cdcl.specs.declared.answer.Answer.TheVariants.{Sat, Unsat}
use Rattle.l2_missed.specs.Meeting.{HasModel, IsMet, NoneMet, IsFirstMet, with_clause}

alone : (l m : ℤ) → Contains (l ∷ []) m → l ≡ m
alone l m (zero, h, e) = e
alone l m (suc k, h, e) = absurd (omega (arith, h))

itself : (l : ℤ) → Contains (l ∷ []) l
itself l = (0, omega arith, refl)

true_of : (v : ℕ → Bool) (l : ℤ) → HasTrue v (l ∷ []) → literal_true v l ≡ true
true_of v l (m, h, t) = subst (λ x. literal_true v x ≡ true) (sym (alone l m h)) t

same_values : (a b : List (Option Bool)) → Sat a ≡ Sat b → a ≡ b
same_values a b e = cc

-- values make a literal of a clause true
abbrev IsTrueClause : List (Option Bool) → List ℤ → Type 0
IsTrueClause values clause = (l : ℤ) × (Contains clause l) × (MakesTrue values l)

module _ (shared : List (List ℤ)) where
  first_part : (v : ℕ → Bool) (c : List ℤ) → Satisfies v (shared ++ c ∷ []) → Satisfies v shared
  first_part v c model d h = model d (Contains-append_left shared (c ∷ []) d h)

  -- values that make the shared clauses and an assumption true
  of_sat : (values : List (Option Bool)) (l : ℤ) → IsModel values shared (l ∷ []) → IsSatisfied values (shared ++ (l ∷ []) ∷ [])
  of_sat values l m c h = elim (Contains-push_cases shared (l ∷ []) c h) [
    | inl old ↦ m.clauses_met c old
    | inr e ↦ subst (IsTrueClause values) e (l, itself l, m.assumptions_met l (itself l))
  ]

  pub modelled : (values : List (Option Bool)) (list : List (List ℤ)) → IsSatisfied values list → HasModel list
  modelled values list h = (completed values, IsSatisfied-Satisfies values list h)

  pub of_unsat : (core : List ℤ) (learnt : List (List ℤ)) (l : ℤ) → IsCore core (l ∷ []) shared learnt → ¬ HasModel (shared ++ (l ∷ []) ∷ [])
  of_unsat core learnt l is (v, model) =
      is.none v (first_part v (l ∷ []) model)
      (λ m h. subst (λ x. literal_true v x ≡ true) (alone l m (is.part m h)) (true_of v l (model (l ∷ []) (Contains-push shared (l ∷ [])))))

  -- a clause of which a literal is met
  pub by_literal : (values : List (Option Bool)) (clause : List ℤ) (l : ℤ) → Contains clause l → IsSatisfied values (shared ++ (l ∷ []) ∷ []) → IsSatisfied values (shared ++ clause ∷ [])
  by_literal values clause l h met c k = elim (Contains-push_cases shared clause c k) [
    | inl old ↦ met c (Contains-append_left shared ((l ∷ []) ∷ []) c old)
    | inr e ↦ subst (IsTrueClause values) e (go (met (l ∷ []) (Contains-push shared (l ∷ []))))
  ]
    where
      go : IsTrueClause values (l ∷ []) → IsTrueClause values clause
      go (m, k, t) = (l, h, subst (MakesTrue values) (sym (alone l m k)) t)

  pub sat_case : (answer : Answer) (values : List (Option Bool)) (l : ℤ) (old new : List (List ℤ)) → IsAnswer (l ∷ []) shared old new answer → answer ≡ Sat values → IsSatisfied values (shared ++ (l ∷ []) ∷ [])
  sat_case (Sat found) values l old new h e = subst (λ x. IsSatisfied x (shared ++ (l ∷ []) ∷ [])) (same_values found values e) (of_sat found l h.0)
  sat_case (Unsat core) values l old new h e = cc

  pub unsat_case : (answer : Answer) (core : List ℤ) (l : ℤ) (old new : List (List ℤ)) → IsAnswer (l ∷ []) shared old new answer → answer ≡ Unsat core → ¬ HasModel (shared ++ (l ∷ []) ∷ [])
  unsat_case (Sat found) core l old new h e = cc
  unsat_case (Unsat some) core l old new h e = of_unsat some new l h

  -- none of the first literals can be met
  abbrev pub NoLiteral : List ℤ → ℕ → Type 0
  NoLiteral clause n = (k : ℕ) → k < n → ¬ HasModel (shared ++ (get_or clause k (pos 0) ∷ []) ∷ [])

  pub one_more : (clause : List ℤ) (n : ℕ) → NoLiteral clause n → ¬ HasModel (shared ++ (get_or clause n (pos 0) ∷ []) ∷ []) → NoLiteral clause (n + 1)
  one_more clause n before here k h = go (ℕ_discrete k n)
    where
      go : Dec (k ≡ n) → ¬ HasModel (shared ++ (get_or clause k (pos 0) ∷ []) ∷ [])
      go (yes e) = subst (λ j. ¬ HasModel (shared ++ (get_or clause j (pos 0) ∷ []) ∷ [])) (sym e) here
      go (no ne) = before k (omega (arith, h, ne))

  pub no_clause : (clause : List ℤ) (n : ℕ) → length clause ≤ n → NoLiteral clause n → ¬ HasModel (shared ++ clause ∷ [])
  no_clause clause n all none (v, model) = go (model clause (Contains-push shared clause))
    where
      go : HasTrue v clause → ⊥
      go (l, (k, h, e), t) =
          let is : get_or clause k (pos 0) ≡ l = get_or_default clause k (pos 0) l h ∙ e in
          none k (omega (arith, h, all)) (subst (λ x. HasModel (shared ++ (x ∷ []) ∷ [])) (sym is) (v, Satisfies-push v shared (l ∷ []) (first_part v clause model) (l, itself l, t)))

  -- ---- several clauses

  pub none_more : (clauses : List (List ℤ)) (from n : ℕ) → NoneMet shared clauses from n → ¬ IsMet shared clauses n → NoneMet shared clauses from (n + 1)
  none_more clauses from n before here i low high = go (ℕ_discrete i n)
    where
      go : Dec (i ≡ n) → ¬ IsMet shared clauses i
      go (yes e) = subst (λ j. ¬ IsMet shared clauses j) (sym e) here
      go (no ne) = before i low (omega (arith, high, ne))

-- ---- steps of the searches

module _ (old now : List (List ℤ)) (same : now ≡ old) where
  not_before : (c : List ℤ) → ¬ HasModel (now ++ c ∷ []) → ¬ HasModel (old ++ c ∷ [])
  not_before c h = subst (λ x. ¬ HasModel (x ++ c ∷ [])) same h

  after : (values : List (Option Bool)) (c : List ℤ) → IsSatisfied values (now ++ c ∷ []) → IsSatisfied values (old ++ c ∷ [])
  after values c h = subst (λ x. IsSatisfied values (x ++ c ∷ [])) same h

  pub next_literal : (clause : List ℤ) (n : ℕ) (l : ℤ) → NoLiteral old clause n → ¬ HasModel (now ++ (l ∷ []) ∷ []) → l ≡ get_or clause n l → n < length clause → NoLiteral old clause (n + 1)
  next_literal clause n l none no' e h =
      one_more old clause n none (subst (λ x. ¬ HasModel (old ++ (x ∷ []) ∷ [])) (e ∙ get_or_default clause n l (pos 0) h) (not_before (l ∷ []) no'))

  pub met_literal : (values : List (Option Bool)) (clause : List ℤ) (n : ℕ) (l : ℤ) → IsSatisfied values (now ++ (l ∷ []) ∷ []) → l ≡ get_or clause n l → n < length clause → IsSatisfied values (old ++ clause ∷ [])
  met_literal values clause n l met e h = by_literal old values clause l (n, h, sym e) (after values (l ∷ []) met)

  pub next_clause : (clauses : List (List ℤ)) (from n : ℕ) (clause : List ℤ) → NoneMet old clauses from n → ¬ HasModel (now ++ clause ∷ []) → clause ≡ get_or clauses n [] → NoneMet old clauses from (n + 1)
  next_clause clauses from n clause none no' e = none_more old clauses from n none (subst (λ x. ¬ HasModel (old ++ x ∷ [])) e (not_before clause no'))

  pub met_clause : (values : List (Option Bool)) (clauses : List (List ℤ)) (from to n : ℕ) (clause : List ℤ) → NoneMet old clauses from n → IsSatisfied values (now ++ clause ∷ []) → clause ≡ get_or clauses n [] → from ≤ n → n < to
      → IsFirstMet old clauses from to n × IsSatisfied values (with_clause old clauses n)
  met_clause values clauses from to n clause none met e low high =
      let here : IsSatisfied values (with_clause old clauses n) = subst (λ x. IsSatisfied values (old ++ x ∷ [])) e (after values clause met) in
      (record { low = low; high = high; met = modelled old values (with_clause old clauses n) here; before = none }, here)

-- ---- options

pub of_none : {A : Type 0} (r : Option A) (N : Type 0) (S : A → Type 0) → MatchOption r N S → r ≡ None → N
of_none None N S h e = h
of_none (Some a) N S h e = cc

inside : {A : Type 0} (x y : A) → Some x ≡ Some y → x ≡ y
inside x y e = cc

pub of_some : {A : Type 0} (r : Option A) (a : A) (N : Type 0) (S : A → Type 0) → MatchOption r N S → r ≡ Some a → S a
of_some None a N S h e = cc
of_some (Some b) a N S h e = subst S (inside b a e) h

pub tells : (list : List (List ℤ)) (r : Option (List (Option Bool))) (b : Bool) → b ≡ is_some r → MatchOption r (¬ HasModel list) (λ a. IsSatisfied a list) → IsTrue b ↔ HasModel list
tells list None b e h = (λ u. cc, λ m. absurd (h m))
tells list (Some values) b e h = (λ u. modelled list values list h, λ m. e)
