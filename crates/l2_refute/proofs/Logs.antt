-- The log of a solver refutes a formula.
use Rattle.std.proofs.Common.{◌≡◌, ◌⊎◌, inl, inr, ℕ, ◌+◌, ◌<◌, ◌≤◌, ◌^◌, ℤ, List, [], ◌∷◌, ◌++◌, length, refl, sym, subst, append_assoc, append-nil, Contains, arith}
use Rattle.std.specs.List.{All}
use Rattle.std.proofs.lemmas.List.{length-append}
use Rattle.std.proofs.lemmas.List.Elements.{All-nil, All-cons, Contains-append_right}
use Rattle.l2_cnf.specs.Logic.{AllWithin, IsWithin, IsAbsorbed}
use Rattle.l2_cnf.specs.Steps.{Step, Leads, IsDerivation, EndsEmpty}
use Rattle.l2_cnf.proofs.Derivations.{IsDerivation-over}
use Rattle.l2_cdcl.specs.Learning.{AreLearnt, MayBeLearnt}
use Rattle.l2_cdcl.specs.Log.{IsLog, greatest_in, greatest_of}
use Rattle.l2_cert.specs.Certificate.{IsLiteral, IsNumber, IsStep}
use Rattle.l2_refute.specs.Refuting.{AreNew, Refute}

first_in : {A : Type 0} (x : A) (xs : List A) → Contains (x ∷ xs) x
first_in x xs = (0, omega arith, refl)

later_in : {A : Type 0} (x y : A) (xs : List A) → Contains xs y → Contains (x ∷ xs) y
later_in x y xs has = Contains-append_right (x ∷ []) xs y has

all_of : {A : Type 0} (P : A → Type 0) (xs : List A) → ((x : A) → Contains xs x → P x) → All P xs
all_of P [] each = All-nil P
all_of P (x ∷ xs) each = All-cons P x xs (each x (first_in x xs)) (all_of P xs (λ y has. each y (later_in x y xs has)))

-- ---- steps that are accepted are in the grammar

all_numbers : (clauses : List (List ℤ)) (t : List ℤ) (hints : List ℕ) → length clauses < 2 ^ 62 → Leads clauses t hints → All IsNumber hints
all_numbers clauses t [] small leads = absurd leads
all_numbers clauses t (h ∷ []) small leads = All-cons IsNumber h [] (leads.0.0, omega (arith, small, leads.0.1)) (All-nil IsNumber)
all_numbers clauses t (h ∷ n ∷ hints) small leads =
    All-cons IsNumber h (n ∷ hints) (leads.0.0, omega (arith, small, leads.0.1)) (all_numbers clauses (t ++ leads.1.0 ∷ []) (n ∷ hints) small leads.1.2)

in_grammar : (formula : List (List ℤ)) (v : ℕ) (steps : List Step) → v < 2 ^ 62 → length formula + length steps < 2 ^ 62 → IsDerivation formula v steps → All IsStep steps
in_grammar formula v [] small few derived = All-nil IsStep
in_grammar formula v (s ∷ steps) small few derived =
    let step = derived.0 in
    let number : IsNumber s.number = (omega (arith, step.number_is), omega (arith, step.number_is, few)) in
    let clause : All IsLiteral s.clause = all_of IsLiteral s.clause (λ l has. ((step.over l has).0, omega (arith, small, (step.over l has).1))) in
    let hints : All IsNumber s.hints = all_numbers formula _ s.hints (omega (arith, few)) step.leads in
    All-cons IsStep s steps (record { number = number; clause = clause; hints = hints })
    (in_grammar (formula ++ s.clause ∷ []) v steps small (omega (arith, few, length-append formula (s.clause ∷ []))) derived.1)

-- ---- over the formula's variables

greatest_in_within : (v : ℕ) (clause : List ℤ) → IsWithin v clause → greatest_in clause ≤ v
greatest_in_within v [] within = omega arith
greatest_in_within v (l ∷ clause) within =
    let first = within l (first_in l clause) in
    let rest = greatest_in_within v clause (λ m has. within m (later_in l m clause has)) in
    omega (arith, first, rest)

greatest_within : (v : ℕ) (clauses : List (List ℤ)) → AllWithin v clauses → greatest_of clauses ≤ v
greatest_within v [] within = omega arith
greatest_within v (c ∷ clauses) within =
    let first = greatest_in_within v c (within c (first_in c clauses)) in
    let rest = greatest_within v clauses (λ d has. within d (later_in c d clauses has)) in
    omega (arith, first, rest)

-- ---- what was learnt is new

-- where the empty clause stands, every clause is absorbed
absorbs : (list : List (List ℤ)) (clause : List ℤ) → Contains list [] → IsAbsorbed list clause
absorbs list clause has l among = inr ([], has, λ m none. absurd (omega (arith, none.1)))

new_but_last : (added before clauses : List (List ℤ)) → AreLearnt added before clauses → AreNew (added ++ before) clauses
new_but_last added before [] learnt = tt
new_but_last added before (c ∷ []) learnt = tt
new_but_last added before (c ∷ next ∷ more) learnt =
    (not_absorbed learnt.0.new, subst (λ list. AreNew list (next ∷ more)) (sym (append_assoc added before (c ∷ []))) (new_but_last added (before ++ c ∷ []) (next ∷ more) learnt.1))
  where
    after : (x : List ℤ) → Contains (before ++ x ∷ []) x
    after x = Contains-append_right before (x ∷ []) x (first_in x [])

    none_after : Contains (before ++ c ∷ []) [] → MayBeLearnt added (before ++ c ∷ []) next → ⊥
    none_after has is = go is.new
      where
        go : ((next ≡ []) × (¬ Contains (before ++ c ∷ []) [])) ⊎ (¬ IsAbsorbed (added ++ (before ++ c ∷ [])) next) → ⊥
        go (inl (same, none)) = none has
        go (inr none) = none (absorbs (added ++ (before ++ c ∷ [])) next (Contains-append_right added (before ++ c ∷ []) [] has))

    not_absorbed : ((c ≡ []) × (¬ Contains before [])) ⊎ (¬ IsAbsorbed (added ++ before) c) → ¬ IsAbsorbed (added ++ before) c
    not_absorbed (inl (same, none)) = absurd (none_after (subst (λ x. Contains (before ++ x ∷ []) []) (sym same) (after [])) learnt.1.0)
    not_absorbed (inr none) = none

-- ---- steps that refute

pub refutes : (v : ℕ) (formula learnt : List (List ℤ)) (steps : List Step) → AllWithin v formula → v < 2 ^ 62 → length formula + length steps < 2 ^ 62 → length steps < 2 ^ 60 → IsLog formula learnt steps → AreLearnt formula [] learnt → EndsEmpty learnt → Refute v formula steps
refutes v formula learnt steps within small few fewer log all ends =
    let derived = IsDerivation-over formula (greatest_of formula) v steps (greatest_within v formula within) log.derived in
    record {
      refuted = record { derived = derived; empty = subst EndsEmpty (sym log.clauses) ends };
      spelt = (omega (arith, fewer), in_grammar formula v steps small few derived);
      new = subst (AreNew formula) (sym log.clauses) (subst (λ list. AreNew list learnt) (append-nil formula) (new_but_last formula [] learnt all));
    }
