-- What is made is what the definitions say.
use Rattle.std.proofs.Common.{◌≡◌, ◌≢◌, ℕ, ◌≤◌, ◌<◌, List, [], ◌∷◌, length, suc, Option, refl, sym, ap, ◌∙◌, subst, Ok, Err, Result}
use Rattle.std.specs.Prelude.{OnOk, IfErr}
use Rattle.l2_program.specs.Programs.{ProgramTree}
use Rattle.l2_cnf.specs.Logic.{AllWithin}
use Rattle.l2_cnf.specs.Steps.{Step}
use Rattle.l2_gates.specs.Gates.{Lit}
use Rattle.l2_templates.specs.declared.form.Form.{Form}
use Rattle.l2_code.specs.Trees.{CodeTree}
use Rattle.l2_code.specs.Sets.{Family, family}
use Rattle.l2_code.specs.declared.sets.Sets.{Sets}
use Rattle.l2_code.specs.Sizes.{instructions, size}
use Rattle.l2_lower.specs.Output.{most_instructions}
use Rattle.l2_unwind.specs.Refused.{most_weight}
use Rattle.l2_front.specs.Codes.{IsCodeOf}
use Rattle.l2_cert.specs.declared.cert.Cert.{Cert}
use Rattle.l2_fitting.specs.Fitting.{NamesFit}
use Rattle.l2_goals.specs.declared.making.Goals as rust
use Rattle.l2_goals.specs.Formulas.{Formulas, formulas}
use Rattle.l2_goals.specs.Numbers.{all_numbers, row_counts, AreFormulas}
use Rattle.l2_derivations.specs.Goals.{Goals, AllHold, BreaksAt, StaysOpen}
use Rattle.l2_check.specs.declared.checking.CheckError.{CheckError}
use Rattle.l2_check.specs.declared.checking.CheckError.TheVariants.{BadName, Size, WrongGoals, BadStep, Unclosed, NoMemory}
use Rattle.l2_check.specs.Accepting.{Accepts, Basis, IsCounted, IsPassed, IsMiscounted, IsFailed, IsFailedBy, unwound, IsRefusal, ranks_of, formulas_at, weight_at, problem_of, problem_at, goals_wanted}
use Rattle.l2_check.specs.Made.{AreMade, IsStepError, problem_with}

-- ---- formulas as they are made

pub is_made : (t : CodeTree) (f : Family) (c : Cert) (g : rust.Goals) (ranks : Option (List (List Form))) → ranks ≡ ranks_of c → AreFormulas g (formulas t f c.k c.point ranks) → AllWithin g.variables g.base × AllWithin g.variables g.last → size t f c.k (row_counts c.point) ≤ most_weight → AreMade t f c g
unfolding formulas_at weight_at
is_made t f c g ranks same h within small = record { small = small; formulas = subst (λ r. AreFormulas g (formulas t f c.k c.point r)) same h; base = within.0; last = within.1 }

pub is_large : (t : CodeTree) (f : Family) (c : Cert) → most_weight < size t f c.k (row_counts c.point) → most_weight < weight_at t f c
unfolding weight_at
is_large t f c h = h

-- ---- steps as they are handed over

module _ (g : rust.Goals) (c : Cert) (steps : List (List Step)) (same : steps ≡ c.goals) where
  abbrev pub handed : List (List Step) → Goals
  handed xs = record { base = g.base; variables = g.variables; last = g.last; steps = xs }

  pub all_hold : AllHold (handed steps) 0 (length steps) → AllHold (problem_with g c) 0 (length c.goals)
  all_hold h = subst (λ xs. AllHold (handed xs) 0 (length xs)) same h

  pub breaks_at : (goal step : ℕ) → BreaksAt (handed steps) 0 (length steps) goal step → BreaksAt (problem_with g c) 0 (length c.goals) goal step
  breaks_at goal step h = subst (λ xs. BreaksAt (handed xs) 0 (length xs) goal step) same h

  pub stays_open : (goal : ℕ) → StaysOpen (handed steps) 0 (length steps) goal → StaysOpen (problem_with g c) 0 (length c.goals) goal
  stays_open goal h = subst (λ xs. StaysOpen (handed xs) 0 (length xs) goal) same h

-- ---- over a code

with_fields : (g : rust.Goals) (fs : Formulas) (c : Cert) → AreFormulas g fs → problem_with g c ≡ problem_of fs c
with_fields g fs c h = λ i. record { base = h.base i; variables = h.variables i; last = h.last i; steps = c.goals }

length_all : (cs : List (List Lit)) → length (all_numbers cs) ≡ length cs
length_all [] = refl
length_all (c ∷ cs) = ap suc (length_all cs)

module _ (t : CodeTree) (f : Family) (c : Cert) (g : rust.Goals) (made : AreMade t f c g) where
  same_problem : problem_with g c ≡ problem_at t f c
  same_problem = with_fields g (formulas_at t f c) c made.formulas

  pub wanted_is : length g.last ≡ goals_wanted t f c
  wanted_is = ap length made.formulas.last ∙ length_all (formulas_at t f c).last

  module _ (counted : length c.goals ≡ length g.last) where
    pub is_counted : IsCounted t f c
    is_counted = record { small = made.small; counted = counted ∙ wanted_is }

    pub is_passed : (r : Result (Unit {0}) CheckError) → OnOk r (AllHold (problem_with g c) 0 (length c.goals)) → OnOk r (IsPassed t f c)
    is_passed (Ok u) h = record { is_counted = is_counted; refuted = subst (λ p. AllHold p 0 (length c.goals)) same_problem h }
    is_passed (Err e) h = tt

    failed : (e : CheckError) → IsStepError (problem_with g c) e → IsFailed t f c e
    failed (BadName line) h = absurd h
    failed Size h = absurd h
    failed (WrongGoals have want) h = absurd h
    failed (BadStep goal step) h = (is_counted, subst (λ p. BreaksAt p 0 (length c.goals) goal step) same_problem h)
    failed (Unclosed goal) h = (is_counted, subst (λ p. StaysOpen p 0 (length c.goals) goal) same_problem h)
    failed NoMemory h = tt

    pub is_failed : (r : Result (Unit {0}) CheckError) → IfErr r (IsStepError (problem_with g c)) → IfErr r (IsFailed t f c)
    is_failed (Ok u) h = tt
    is_failed (Err e) h = failed e h

  pub is_miscounted : (have want : ℕ) → have ≡ length c.goals → want ≡ length g.last → have ≢ want → IsMiscounted t f c have want
  is_miscounted have want is wants differ = record { small = made.small; have_is = is; want_is = wants ∙ wanted_is; differ = differ }

-- ---- of a program

module _ (p : ProgramTree) (c : Cert) (names : NamesFit p c) (t : CodeTree) (s : Sets) (h : IsCodeOf p t s) where
  abbrev basis : Basis p
  basis = record {
    tree = t;
    is_code = h.is_code;
    few = subst (λ x. instructions x.body ≤ most_instructions) (sym h.is_code) h.few;
    sets = family s;
    least = record { resolved = h.sets.resolved; least = h.sets.least };
  }

  pub is_accepted : (r : Result (Unit {0}) CheckError) → OnOk r (IsPassed t (family s) c) → OnOk r (Accepts p c)
  is_accepted (Ok u) k = record { names = names; basis = basis; passed = k }
  is_accepted (Err e) k = tt

  failed_by : (e : CheckError) → IsFailed t (family s) c e → IsFailedBy p c e
  failed_by e k = record { names = names; basis = basis; failed = k }

  refusal : (e : CheckError) → IsFailed t (family s) c e → IsRefusal p c e
  refusal (BadName line) k = absurd k
  refusal Size k = unwound (failed_by Size k)
  refusal (WrongGoals have want) k = failed_by (WrongGoals have want) k
  refusal (BadStep goal step) k = failed_by (BadStep goal step) k
  refusal (Unclosed goal) k = failed_by (Unclosed goal) k
  refusal NoMemory k = tt

  pub is_refused : (r : Result (Unit {0}) CheckError) → IfErr r (IsFailed t (family s) c) → IfErr r (IsRefusal p c)
  is_refused (Ok u) k = tt
  is_refused (Err e) k = refusal e k
