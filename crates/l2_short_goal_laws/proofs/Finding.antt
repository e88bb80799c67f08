-- What the models of a program's short formulas find, and the models that its short runs have.
use Rattle.std.proofs.Common.{arith, ◌≡◌, inl, inr, refl, ap, sym, ◌∙◌, subst, ℕ, zero, suc, ◌-◌, ◌+◌, ◌<◌, ◌≤◌, Bool, true, false, ℤ, List, [], ◌∷◌, length, map}
use Rattle.l2_runs.specs.declared.outcome.Outcome.TheVariants.{Ended, Broken}
use Rattle.l2_runs.specs.Runs.{Over, Result, Go, Halt}
use Rattle.l2_runs.specs.Loops as loops
use Rattle.l2_runs.specs.Loops.{Real, Short, no_tests}
use Rattle.l2_cnf.specs.Logic.{Satisfies}
use Rattle.l2_cnf.specs.Assignment.{completed}
use Rattle.l2_cnf.proofs.Models.{IsSatisfied-Satisfies}
use Rattle.l2_program.specs.Programs.{ProgramTree}
use Rattle.l2_meaning.specs.Execution.{exec, report}
use Rattle.l2_meaning.specs.Lawful.{IsLawful}
use Rattle.l2_cut_laws.proofs.TreeShort.{short_law}
use Rattle.l2_code.specs.declared.action.Operand.{Operand}
use Rattle.l2_code.specs.Trees.{CodeTree}
use Rattle.l2_code.specs.Sets.{Family, IsResolved}
use Rattle.l2_code.specs.Sizes.{size}
use Rattle.l2_code.specs.Modes.{types_of, start}
use Rattle.l2_code.specs.WellFormed.{IsNumber, IsWellFormed}
use Rattle.l2_lower.specs.Code.{code}
use Rattle.l2_lower.proofs.Executions.{exec_law}
use Rattle.l2_lower.proofs.WellFormedCode.{code_well_formed}
use Rattle.l2_labels.specs.Labels.{one_label}
use Rattle.l2_labels.proofs.Runs.{runs_law}
use Rattle.l2_labels.proofs.Kept.{well_formed_law, resolved_law}
use Rattle.l2_labels.proofs.Weights.{weights_law}
use Rattle.l2_direct_code.proofs.Direct as direct
use Rattle.l2_direct_code.proofs.Labelled.{direct_law}
use Rattle.l2_gates.specs.Gates.{literals_of}
use Rattle.l2_gates.specs.Models.{value}
use Rattle.l2_unwind.specs.Refused.{most_weight}
use Rattle.l2_ssa.specs.Steps.{Step, Names, on, IsBefore, InOrder}
use Rattle.l2_ssa.specs.Walks.{Plain, CheckGoal, Event}
use Rattle.l2_ssa.specs.Law.{HasEvent, EndsAt}
use Rattle.l2_ssa_laws.specs.Events.{AreNamed, IsNamed}
use Rattle.l2_ssa_laws.proofs.Named.{events_named}
use Rattle.l2_blast.specs.Sorts.{sorts_of, IsTruth, AreTyped}
use Rattle.l2_blast.specs.Words.{literal}
use Rattle.l2_blast_laws.specs.Law.{solution}
use Rattle.l2_goal_laws.specs.Below.{Below}
use Rattle.l2_blast.specs.Kept.{setting_of}
use Rattle.l2_goal_laws.specs.Models.{IsReady, IsModel}
use Rattle.l2_goal_laws.proofs.Sizes.{sized}
use Rattle.l2_goal_laws.proofs.Words.{by_variable}
use Rattle.l2_goal_laws.proofs.Models.{supply_solves, model_shows}
use Rattle.l2_short_laws.specs.Shorts.{short_ssa, short_run}
use Rattle.l2_short_laws.specs.Used.{BreaksAt, used, arrivals}
use Rattle.l2_short_laws.proofs.Breaking.{shorts_solve}
use Rattle.l2_short_laws.proofs.Finding.{solutions_break}
use Rattle.l2_found_laws.specs.Found.{breaking}
use Rattle.l2_found_laws.proofs.Few.{turns_few}
use Rattle.l2_short_goals.specs.declared.making.ShortGoals.{ShortGoals}
use Rattle.l2_short_goals.specs.Shorts.{no_fill}
use Rattle.l2_short_goals.specs.Taken.{choices_of, AreShorts, values_of, made_choices, count_true}
use Rattle.l2_short_goal_laws.specs.Law.{check_formula, IsFound, ModelsFind, RunsHaveModels}
use Rattle.l2_short_goal_laws.proofs.Heads.{heads_are_truths}
use Rattle.l2_short_goal_laws.proofs.Uses.{clauses_sorted, used_same, arrivals_same}
use Rattle.l2_short_goal_laws.proofs.Filling.{each_row, each_rank, no_fill_fills}
use Rattle.l2_short_goal_laws.proofs.Formulas.{blasted, choices_are, heads_are, count_is, model_of, of_model}

-- a run that breaks a check is reported so
reported : (i n : ℕ) (choices : List ℤ) (x : Result (Unit {0})) → BreaksAt i n x → report choices 0 x ≡ breaking i choices n
reported i n choices (Go u s) h = absurd h
reported i n choices (Halt e s) h = λ j. record { end = h.0 j; choices_used = used_all j; turns_used = turns j }
  where
    used_all : length choices - length s.choices ≡ length choices
    used_all = ap (λ cs. length choices - length cs) h.1 ∙ all (length choices)
      where
        all : (n : ℕ) → n - 0 ≡ n
        all n = omega arith

    turns : 0 - s.turns + s.arrivals ≡ n
    turns = let e = h.2 in omega (arith, e)

ends_at : (i : ℕ) (choices : List ℤ) (turns : ℕ) (x : Result (Unit {0})) → (report choices turns x).end ≡ Over (Broken i) → EndsAt (Over (Broken i)) x
ends_at i choices turns (Go u st) h = absurd (no_end h)
  where
    no_end : Over Ended ≡ Over (Broken i) → ⊥
    no_end j = cc
ends_at i choices turns (Halt e st) h = h

-- the check of a true event is one of the code's
named : (c : CodeTree) (s : Names) (n : ℕ) (es : List Event) → AreNamed c (λ l. Plain) false es → HasEvent s (CheckGoal n) es → IsNumber (length c.checks) n
named c s n [] all h = absurd h
named c s n (e ∷ es) all (inl h) = (subst (IsNamed c (λ l. Plain) false) h.0 all.0).1
named c s n (e ∷ es) all (inr h) = named c s n es all.1 h

pub formed : (p : ProgramTree) → IsLawful p → IsWellFormed (one_label (code p))
formed p lawful = well_formed_law (code p) (code_well_formed p lawful)

module _ (b : Below) (p : ProgramTree) (lawful : IsLawful p) (f : Family) (z : IsResolved (code p) f) (k : ℕ) (some : 1 ≤ k) where
  abbrev c : CodeTree
  c = one_label (code p)

  abbrev well_formed : IsWellFormed c
  well_formed = formed p lawful

  resolved : IsResolved c f
  resolved = resolved_law (code p) f z

  ready : IsReady c f
  ready = record { well_formed = well_formed; resolved = resolved; direct = direct_law (types_of c).objects (code p) (direct.code_is_direct p lawful) }

  abbrev steps : List Step
  steps = (short_ssa c f k).steps

  in_order : InOrder 0 steps
  in_order = (b.in_order c f k (λ l. Plain) false).0

  typed : AreTyped (types_of c) (sorts_of steps) steps
  typed = (b.typed c f well_formed resolved ready.direct k (λ l. Plain) false).0

  -- the code with one label at each place runs as the code
  run_is : (choices : List ℤ) (turns : ℕ) → short_run c f k choices turns ≡ short_run (code p) f k choices turns
  run_is choices turns = runs_law (code p) (loops.Short k) no_tests (start (code p) choices turns)

  executed : (choices : List ℤ) (turns : ℕ) → exec p (Short k) no_tests choices turns ≡ report choices turns (short_run c f k choices turns)
  executed choices turns = exec_law p lawful (Short k) no_tests tt choices turns ∙ ap (report choices turns) (sym (run_is choices turns))

  module _ (v : ℕ → Bool) (n : ℕ) (model : IsModel (blasted c well_formed f k) (short_ssa c f k) (CheckGoal n) v) where
    abbrev s : Names
    s = solution (blasted c well_formed f k).env v

    abbrev choices : List ℤ
    choices = made_choices v (choices_of (blasted c well_formed f k).env 0 steps)

    abbrev turns : ℕ
    turns = count_true v (map (literal (blasted c well_formed f k).env) (short_ssa c f k).heads)

    one : v 0 ≡ true
    one = b.first_true (setting_of c no_fill) (no_fill_fills c).made steps v model.0

    shows : (a : Operand) → IsBefore (length steps) a → IsTruth (sorts_of steps) a → on s a ≡ value v (literal (blasted c well_formed f k).env a)
    shows a before truth = b.literals_show (setting_of c no_fill) (sized c well_formed no_fill) (no_fill_fills c).made steps in_order typed v one model.0 a before truth

    choices_same : used s 0 steps ≡ choices
    choices_same =
        used_same (types_of c) (blasted c well_formed f k).env v (sorts_of steps) (length steps) shows 0 steps (omega arith) in_order typed (clauses_sorted (setting_of c no_fill) steps)

    turns_same : arrivals s 0 (short_ssa c f k).heads ≡ turns
    turns_same =
        arrivals_same (types_of c) (blasted c well_formed f k).env v (sorts_of steps) (length steps) shows 0 (short_ssa c f k).heads (heads_are_truths c f k) ∙ omega arith

    breaks : BreaksAt n turns (short_run c f k choices 0)
    breaks =
        let m = model_shows b c f ready k (λ l. Plain) false no_fill each_row each_rank (no_fill_fills c) (CheckGoal n) v model in
        let h = (solutions_break c f well_formed resolved k some each_row each_rank s m.1 n m.2).1 0 in
        subst (λ t. BreaksAt n t (short_run c f k choices 0)) turns_same (subst (λ cs. BreaksAt n (arrivals s 0 (short_ssa c f k).heads) (short_run c f k cs 0)) choices_same h)

    short_found : exec p (Short k) no_tests choices 0 ≡ breaking n choices turns
    short_found = executed choices 0 ∙ reported n turns choices (short_run c f k choices 0) breaks

    real_found : exec p Real no_tests choices turns ≡ breaking n choices turns
    real_found = ap (λ e. exec p Real no_tests choices e.turns_used) (sym short_found) ∙ short_law p k choices n (ap (λ e. e.end) short_found) ∙ short_found

    few : size (code p) f k [] ≤ most_weight → turns ≤ most_weight
    few small =
        let t = turns_few c f k [] s in
        let w = weights_law (code p) f k [] in
        let e = turns_same in
        omega (arith, small, t, w, e)

    pub found : size (code p) f k [] ≤ most_weight → IsFound p k n choices turns
    found small = record { real = real_found; short = short_found; few = few small }

  -- where a short run breaks a check, the check is one of the code's, and some values make an event of it true besides the clauses
  pub run_model : (choices : List ℤ) (turns n : ℕ) → (exec p (Short k) no_tests choices turns).end ≡ Over (Broken n)
      → IsNumber (length c.checks) n × ((v : ℕ → Bool) × IsModel (blasted c well_formed f k) (short_ssa c f k) (CheckGoal n) v)
  run_model choices turns n h =
      let over = ends_at n choices turns (short_run c f k choices turns) (sym (ap (λ e. e.end) (executed choices turns)) ∙ h) in
      let r = shorts_solve c f well_formed resolved k some each_row each_rank choices turns n over in
      let q = supply_solves b c f ready k (λ l. Plain) false no_fill each_row each_rank (no_fill_fills c) r.0 r.1 in
      let event = r.2 q.0 q.1 q.2 in
      (named c q.0 n (short_ssa c f k).events (events_named c f well_formed k (λ l. Plain) false) event, q.3 (CheckGoal n) event)

pub models_find : Below → ModelsFind
models_find b p lawful f z s some small are a i listed sat =
    let c = one_label (code p) in
    let w = formed p lawful in
    let count = count_is c w f s.k s are.goals in
    let m = model_of c w f s.k s are.goals i (omega (arith, listed, count)) (completed a) (IsSatisfied-Satisfies a (check_formula s i) sat) in
    let r = found b p lawful f z s.k some (values_of a) (suc i) m small in
    let choices = are.taken ∙ choices_are c w f s.k in
    let heads = are.heads ∙ heads_are c w f s.k in
    subst (λ ts. IsFound p s.k (suc i) (made_choices (values_of a) ts) (count_true (values_of a) (literals_of s.heads))) (sym choices)
    (subst (λ hs. IsFound p s.k (suc i) (made_choices (values_of a) (choices_of (blasted c w f s.k).env 0 (short_ssa c f s.k).steps)) (count_true (values_of a) hs)) (sym heads) r)

model_listed : (p : ProgramTree) (lawful : IsLawful p) (f : Family) (s : ShortGoals) → AreShorts s (code p) f → (n : ℕ) → IsNumber (length (code p).checks) n
    → ((v : ℕ → Bool) × IsModel (blasted (one_label (code p)) (formed p lawful) f s.k) (short_ssa (one_label (code p)) f s.k) (CheckGoal n) v)
    → (i : ℕ) × (n ≡ suc i) × (i < length s.goals.last) × ((v : ℕ → Bool) × Satisfies v (check_formula s i))
model_listed p lawful f s are zero number m = let one = number.0 in absurd (omega (arith, one))
model_listed p lawful f s are (suc i) number m =
    let c = one_label (code p) in
    let most = number.1 in
    let within : i < length (code p).checks = omega (arith, most) in
    let count = count_is c (formed p lawful) f s.k s are.goals in
    (i, refl, omega (arith, within, count), (by_variable m.0, of_model c (formed p lawful) f s.k s are.goals i within m.0 m.1))

pub runs_have_models : Below → RunsHaveModels
runs_have_models b p lawful f z s some are choices turns n h =
    let m = run_model b p lawful f z s.k some choices turns n h in
    model_listed p lawful f s are n m.0 m.1
