-- A step that is accepted follows by reverse unit propagation, and so it is implied; so is every clause of a derivation.
use Rattle.std.proofs.Common.{◌≡◌, inl, inr, ℕ, suc, zero, ◌-◌, ◌<◌, ◌≤◌, Bool, List, ◌++◌, [], ◌∷◌, length, get_or, map, refl, sym, ap, ◌∙◌, subst, arith}
use Rattle.std.specs.Prelude.{ℤ, neg_ℤ, Contains, ◌↔◌}
use Rattle.std.proofs.lemmas.List.{get_or_default, get_or-map, length-map, append_assoc, append-nil}
use Rattle.std.proofs.lemmas.List.Elements.{Contains-push_cases, Contains-append_cases}
use lib.IntN.{neg_ℤ-neg_ℤ}
use Rattle.l2_cnf.specs.Logic.{Propagates, assumed, unit, Conflicts, Negation, Follows, Satisfies, HasTrue}
use Rattle.l2_cnf.specs.Steps.{Step, IsUnit, HasNumber, clause_of, Leads, IsStep, IsDerivation, clauses_of}
use Rattle.l2_cnf.proofs.Laws.{Follows-implied}

pub Contains-map : (clause : List ℤ) (m : ℤ) → Contains clause m → Contains (map neg_ℤ clause) (neg_ℤ m)
Contains-map clause m (k, b, e) = (k, omega (arith, b, length-map clause neg_ℤ), get_or-map neg_ℤ clause k m (neg_ℤ m) b ∙ ap neg_ℤ e)

pub Contains-unmap : (clause : List ℤ) (m : ℤ) → Contains (map neg_ℤ clause) m → Contains clause (neg_ℤ m)
Contains-unmap clause m (k, b, e) =
    let within : k < length clause = omega (arith, b, length-map clause neg_ℤ) in
    let at : get_or (map neg_ℤ clause) k m ≡ neg_ℤ (get_or clause k (neg_ℤ m)) = get_or-map neg_ℤ clause k (neg_ℤ m) m within in
    (k, within, sym (neg_ℤ-neg_ℤ _) ∙ ap neg_ℤ (sym at ∙ e))

-- the clause of a number stands in the list
pub numbered : (clauses : List (List ℤ)) (hint : ℕ) → HasNumber clauses hint → Contains clauses (clause_of clauses hint)
numbered clauses hint h =
    let within : hint - 1 < length clauses = omega (arith, h.0, h.1) in
    (hint - 1, within, get_or_default clauses (hint - 1) _ _ within)

-- at a hint with others after it
pub Leads-more : (clauses : List (List ℤ)) (t : List ℤ) (hint : ℕ) (hints : List ℕ) → 1 ≤ length hints → Leads clauses t (hint ∷ hints) ↔ ((HasNumber clauses hint) × ((l : ℤ) × (IsUnit t (clause_of clauses hint) l) × (Leads clauses (t ++ l ∷ []) hints)))
Leads-more clauses t hint [] h = absurd (omega (arith, h))
Leads-more clauses t hint (next ∷ hints) h = (λ x. x, λ x. x)

-- hints that lead to a false clause show a conflict
pub Leads-conflicts : (clauses : List (List ℤ)) (given : ℤ → Type 0) (t : List ℤ) (hints : List ℕ) → ((m : ℤ) → Contains t m → Propagates clauses given m) → Leads clauses t hints → Conflicts clauses given
Leads-conflicts clauses given t [] from leads = absurd leads
Leads-conflicts clauses given t (hint ∷ []) from (number, all) = (clause_of clauses hint, numbered clauses hint number, λ m k. from (neg_ℤ m) (all m k))
Leads-conflicts clauses given t (hint ∷ next ∷ hints) from (number, rest) =
    let l : ℤ = rest.0 in
    Leads-conflicts clauses given (t ++ l ∷ []) (next ∷ hints) (λ m h. elim (Contains-push_cases t l m h) [
      | inl old ↦ from m old
      | inr e ↦ subst (Propagates clauses given) e (unit (clause_of clauses hint) (numbered clauses hint number) rest.1.stands (λ k b ne. from (neg_ℤ k) (rest.1.others k b ne)))
    ]) rest.2

pub IsStep-follows : (clauses : List (List ℤ)) (n number : ℕ) (clause : List ℤ) (hints : List ℕ) → IsStep clauses n number clause hints → Follows clauses clause
IsStep-follows clauses n number clause hints step = Leads-conflicts clauses (Negation clause) (map neg_ℤ clause) hints (λ m h. assumed (Contains-unmap clause m h)) step.leads

pub IsStep-implied : (clauses : List (List ℤ)) (n number : ℕ) (clause : List ℤ) (hints : List ℕ) → IsStep clauses n number clause hints → (v : ℕ → Bool) → Satisfies v clauses → HasTrue v clause
IsStep-implied clauses n number clause hints step v model = Follows-implied v clauses clause (λ l h. (step.over l h).0) (IsStep-follows clauses n number clause hints step) model

-- what satisfies a list and one more clause
pub Satisfies-push : (v : ℕ → Bool) (list : List (List ℤ)) (clause : List ℤ) → Satisfies v list → HasTrue v clause → Satisfies v (list ++ clause ∷ [])
Satisfies-push v list clause model true_one c h = elim (Contains-push_cases list clause c h) [
  | inl old ↦ model c old
  | inr e ↦ subst (HasTrue v) e true_one
]

-- what satisfies two lists
pub Satisfies-append : (v : ℕ → Bool) (list more : List (List ℤ)) → Satisfies v list → Satisfies v more → Satisfies v (list ++ more)
Satisfies-append v list more model other c h = elim (Contains-append_cases list more c h) [
  | inl old ↦ model c old
  | inr new ↦ other c new
]

one_clause : (x c : List ℤ) → Contains (x ∷ []) c → x ≡ c
one_clause x c (zero, h, e) = e
one_clause x c (suc k, h, e) = absurd (omega (arith, h))

pub IsDerivation-implied : (v : ℕ → Bool) (formula : List (List ℤ)) (n : ℕ) (steps : List Step) → IsDerivation formula n steps → Satisfies v formula → Satisfies v (clauses_of steps)
IsDerivation-implied v formula n [] derived model = λ c h. absurd (omega (arith, h.1))
IsDerivation-implied v formula n (step ∷ steps) derived model =
    let here : HasTrue v step.clause = IsStep-implied formula n step.number step.clause step.hints derived.0 v model in
    let rest = IsDerivation-implied v (formula ++ step.clause ∷ []) n steps derived.1 (Satisfies-push v formula step.clause model here) in
    λ c h. elim (Contains-append_cases (step.clause ∷ []) (clauses_of steps) c h) [
      | inl first ↦ subst (HasTrue v) (one_clause step.clause c first) here
      | inr later ↦ rest c later
    ]

pub clauses_of-push : (steps : List Step) (step : Step) → clauses_of (steps ++ step ∷ []) ≡ clauses_of steps ++ step.clause ∷ []
clauses_of-push [] step = refl
clauses_of-push (first ∷ steps) step = ap (λ x. first.clause ∷ x) (clauses_of-push steps step)

-- one more step
pub IsDerivation-push : (formula : List (List ℤ)) (n : ℕ) (steps : List Step) (step : Step) → IsDerivation formula n steps → IsStep (formula ++ clauses_of steps) n step.number step.clause step.hints → IsDerivation formula n (steps ++ step ∷ [])
IsDerivation-push formula n [] step derived accepted = (subst (λ x. IsStep x n step.number step.clause step.hints) (append-nil formula) accepted, tt)
IsDerivation-push formula n (first ∷ steps) step derived accepted =
    (derived.0, IsDerivation-push (formula ++ first.clause ∷ []) n steps step derived.1 (subst (λ x. IsStep x n step.number step.clause step.hints) (sym (append_assoc formula (first.clause ∷ []) (clauses_of steps))) accepted))

-- the steps before the last ones
pub IsDerivation-front : (formula : List (List ℤ)) (n : ℕ) (front back : List Step) → IsDerivation formula n (front ++ back) → IsDerivation formula n front
IsDerivation-front formula n [] back derived = tt
IsDerivation-front formula n (first ∷ front) back derived = (derived.0, IsDerivation-front (formula ++ first.clause ∷ []) n front back derived.1)

-- a step in the middle
pub IsDerivation-step : (formula : List (List ℤ)) (n : ℕ) (front : List Step) (step : Step) (back : List Step) → IsDerivation formula n (front ++ step ∷ back) → IsStep (formula ++ clauses_of front) n step.number step.clause step.hints
IsDerivation-step formula n [] step back derived = subst (λ x. IsStep x n step.number step.clause step.hints) (sym (append-nil formula)) derived.0
IsDerivation-step formula n (first ∷ front) step back derived =
    subst (λ x. IsStep x n step.number step.clause step.hints) (append_assoc formula (first.clause ∷ []) (clauses_of front)) (IsDerivation-step (formula ++ first.clause ∷ []) n front step back derived.1)

-- a step over more variables
pub IsStep-over : (clauses : List (List ℤ)) (few many number : ℕ) (clause : List ℤ) (hints : List ℕ) → few ≤ many → IsStep clauses few number clause hints → IsStep clauses many number clause hints
IsStep-over clauses few many number clause hints h step = record {
  number_is = step.number_is;
  over = λ l c. (let o = step.over l c in (o.0, omega (arith, o.1, h)));
  apart = step.apart;
  leads = step.leads;
}

pub IsDerivation-over : (formula : List (List ℤ)) (few many : ℕ) (steps : List Step) → few ≤ many → IsDerivation formula few steps → IsDerivation formula many steps
IsDerivation-over formula few many [] h derived = tt
IsDerivation-over formula few many (step ∷ steps) h derived =
    (IsStep-over formula few many step.number step.clause step.hints h derived.0, IsDerivation-over (formula ++ step.clause ∷ []) few many steps h derived.1)
