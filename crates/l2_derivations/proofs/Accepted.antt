-- Steps that were checked one after another.
use Rattle.std.proofs.Common.{◌≡◌, ℕ, ◌+◌, ◌-◌, ◌<◌, ℤ, List, [], ◌∷◌, ◌++◌, length, take, drop, refl, sym, ap, subst, ◌∙◌, arith}
use Rattle.std.proofs.lemmas.List.{at_drop_more, length-take-le, take_more}
use Rattle.std.proofs.Common.{take-append-drop}
use Rattle.l2_cnf.specs.Steps.{IsDerivation, IsStep, Step, clauses_of}
use Rattle.l2_cnf.specs.Lines.{step_of, step_at}
use Rattle.l2_cnf.proofs.Derivations.{IsDerivation-push}
use Rattle.l2_rup.specs.Checked.{Checked, formula_of, known_of, with_step}
use Rattle.l2_derivations.specs.Goals.{FailsAt}
use Rattle.l2_derivations.specs.Sizes.{literals_of}

pub clauses_more : (steps : List Step) (step : Step) → clauses_of (steps ++ step ∷ []) ≡ clauses_of steps ++ step.clause ∷ []
clauses_more [] step = refl
clauses_more (s ∷ steps) step = ap (λ cs. s.clause ∷ cs) (clauses_more steps step)

-- the checker that has accepted the first so many steps
abbrev pub state : Checked → List Step → ℕ → Checked
state old steps i = record { base = old.base; last = old.last; steps = clauses_of (take i steps); variables = old.variables; lines = length steps - i; literals = literals_of (drop i steps) }

pub literals_left : (steps : List Step) (i : ℕ) → i < length steps → literals_of (drop i steps) ≡ length (step_at steps i).clause + literals_of (drop (i + 1) steps)
literals_left steps i within = at_drop_more literals_of steps i (step_of 0 [] []) within

pub one_more : (steps : List Step) (i : ℕ) → i < length steps → take (i + 1) steps ≡ take i steps ++ step_at steps i ∷ []
one_more steps i within = take_more steps i (step_of 0 [] []) within

pub next_state : (old : Checked) (steps : List Step) (i : ℕ) (clause : List ℤ) → i < length steps → clause ≡ (step_at steps i).clause → with_step (state old steps i) clause ≡ state old steps (i + 1)
next_state old steps i clause within is =
    let accepted : clauses_of (take i steps) ++ clause ∷ [] ≡ clauses_of (take (i + 1) steps) = ap (λ c. clauses_of (take i steps) ++ c ∷ []) is ∙ sym (clauses_more (take i steps) (step_at steps i)) ∙ ap clauses_of (sym (one_more steps i within)) in
    let lines : length steps - i - 1 ≡ length steps - (i + 1) = omega arith in
    let literals : literals_of (drop i steps) - length clause ≡ literals_of (drop (i + 1) steps) = omega (arith, literals_left steps i within, ap length is) in
    λ j. record { base = old.base; last = old.last; steps = accepted j; variables = old.variables; lines = lines j; literals = literals j }

pub next_derived : (old : Checked) (steps : List Step) (i number : ℕ) (clause : List ℤ) (hints : List ℕ) → i < length steps → number ≡ (step_at steps i).number → clause ≡ (step_at steps i).clause → hints ≡ (step_at steps i).hints → IsDerivation (formula_of old) old.variables (take i steps) → IsStep (known_of (state old steps i)) old.variables number clause hints → IsDerivation (formula_of old) old.variables (take (i + 1) steps)
next_derived old steps i number clause hints within numbers clauses all derived step =
    subst (IsDerivation (formula_of old) old.variables) (sym (one_more steps i within))
    (IsDerivation-push (formula_of old) old.variables (take i steps) (step_at steps i) derived
    (subst (λ h. IsStep (known_of (state old steps i)) old.variables (step_at steps i).number (step_at steps i).clause h) all
    (subst (λ c. IsStep (known_of (state old steps i)) old.variables (step_at steps i).number c hints) clauses
    (subst (λ n. IsStep (known_of (state old steps i)) old.variables n clause hints) numbers step))))

pub fails_there : (old : Checked) (steps : List Step) (i number : ℕ) (clause : List ℤ) (hints : List ℕ) → i < length steps → number ≡ (step_at steps i).number → clause ≡ (step_at steps i).clause → hints ≡ (step_at steps i).hints → IsDerivation (formula_of old) old.variables (take i steps) → ¬ IsStep (known_of (state old steps i)) old.variables number clause hints → FailsAt (formula_of old) old.variables steps (i + 1)
fails_there old steps i number clause hints within numbers clauses all derived bad =
    let parts : steps ≡ take i steps ++ step_at steps i ∷ drop (i + 1) steps = sym (take-append-drop i steps) ∙ at_drop_more (λ rest. take i steps ++ rest) steps i (step_of 0 [] []) within in
    let count : i + 1 ≡ length (take i steps) + 1 = ap (λ n. n + 1) (sym (length-take-le i steps (omega (arith, within)))) in (
      take i steps,
      step_at steps i,
      drop (i + 1) steps,
      parts,
      count,
      derived,
      λ step. bad
          (subst (λ n. IsStep (known_of (state old steps i)) old.variables n clause hints) (sym numbers)
          (subst (λ c. IsStep (known_of (state old steps i)) old.variables (step_at steps i).number c hints) (sym clauses)
          (subst (λ h. IsStep (known_of (state old steps i)) old.variables (step_at steps i).number (step_at steps i).clause h) (sym all) step))),
    )
