-- Runs of a point and solutions of the grown equations.
use Rattle.std.proofs.Common.{◌≡◌, inl, inr, ℕ, suc, ◌-◌, ◌≤◌, Bool, false, ℤ, List, [], ◌∷◌, ◌++◌, length, None, refl, sym, ap, ◌∙◌, subst}
use Rattle.l2_runs.specs.declared.member.Member.{Member}
use Rattle.l2_runs.specs.declared.outcome.Outcome.TheVariants.{Broken}
use Rattle.l2_runs.specs.Runs.{End, Over, Fallen, Result, Go, Halt}
use Rattle.l2_runs.specs.Loops.{Limit, Tests}
use Rattle.l2_run_laws.specs.Watches.{alone}
use Rattle.l2_program.specs.Programs.{ProgramTree}
use Rattle.l2_templates.specs.declared.point.LoopPoint.{LoopPoint}
use Rattle.l2_meaning.specs.Execution.{report}
use Rattle.l2_code.specs.Trees.{CodeTree}
use Rattle.l2_code.specs.Sets.{Family}
use Rattle.l2_code.specs.Modes.{Cut, limit_of, run_code, start}
use Rattle.l2_cuts.specs.Points.{point_at}
use Rattle.l2_cuts.specs.Cuts.{row_end, cut_end}
use Rattle.l2_cut_code.specs.Limits.{point_limit}
use Rattle.l2_renumber_laws.specs.Renumbered.{renumbered_end}
use Rattle.l2_renumber_laws.specs.Fronted.{its_rows, fronted}
use Rattle.l2_supply.specs.Supply.{IsFailure}
use Rattle.l2_ssa.specs.Steps.{Names}
use Rattle.l2_ssa.specs.Walks.{Setting, Kind, Plain, Rows, Goal, RowGoal, RankGoal, CheckGoal, Event}
use Rattle.l2_ssa.specs.Law.{RowsOf, RanksOf, tests, starts, setting_of, EndsAt, HasEvent, HasEnd, end_of, SolutionsRun}
use Rattle.l2_ssa_laws.specs.Entering.{RunsEnter}
use Rattle.l2_ssa_laws.specs.Events.{IsNamed, AreNamed, EventsNamed}
use Rattle.l2_ssa_points.specs.Places.{vars_of}
use Rattle.l2_ssa_points.specs.Law.{AreOver}
use Rattle.l2_grown_laws.specs.Grown.{grown_kind, grown_rows, grown_ssa, HasRoom}
use Rattle.l2_grown_laws.specs.Law.{IsCodeOf, SolvesGrown, IsMade, GrownRuns}
use Rattle.l2_grown_laws.proofs.Ties.{limit_same, tests_same}

-- what the crates below say
pub record Below : Type 0 where
  pub solutions_run : SolutionsRun
  pub runs_enter : RunsEnter
  pub events_named : EventsNamed
  pub fronting : (p : ProgramTree) (sets : ℕ → Member → Bool) (k : ℕ) (q : List LoopPoint) (more : ℕ → ℕ) (choices : List ℤ)
      → cut_end p sets k q (alone (λ l. fronted (point_at q l) (more l))) choices ≡ renumbered_end (λ l row. suc row) (row_end p sets k q choices)

-- ---- ends

ends_at : (choices : List ℤ) (turns : ℕ) (r : Result (Unit {0})) (x : End) → IsFailure x → (report choices turns r).end ≡ x → EndsAt x r
ends_at choices turns (Go u s) x h e = subst IsFailure (sym e) h
ends_at choices turns (Halt y s) x h e = e

at_end : (choices : List ℤ) (turns : ℕ) (r : Result (Unit {0})) (x : End) → EndsAt x r → (report choices turns r).end ≡ x
at_end choices turns (Go u s) x h = absurd h
at_end choices turns (Halt y s) x h = h

-- ---- events

-- the goal of an event that stands for this end
end_event : (c : CodeTree) (kind : ℕ → Kind) (s : Names) (g : Setting) (x : End) (es : List Event) → AreNamed c kind false es → HasEnd s g x es
    → (goal : Goal) × (end_of g goal ≡ x) × IsNamed c kind false goal × HasEvent s goal es
end_event c kind s g x [] n h = absurd h
end_event c kind s g x (e ∷ es) n (inl (is, t)) = (e.goal, is, n.0, inl (refl, t))
end_event c kind s g x (e ∷ es) n (inr h) = let r = end_event c kind s g x es n.1 h in (r.0, r.1, r.2, inr r.3)

row_goal_is : (c : CodeTree) (kind : ℕ → Kind) (g : Setting) (l i : ℕ) (goal : Goal) → end_of g goal ≡ Fallen l i → IsNamed c kind false goal → goal ≡ RowGoal l i
row_goal_is c kind g l i (RowGoal m j) e n = same e
  where
    same : Fallen m j ≡ Fallen l i → RowGoal m j ≡ RowGoal l i
    same e = cc
row_goal_is c kind g l i (RankGoal m) e n = absurd (cc n.0)
row_goal_is c kind g l i (CheckGoal m) e n = absurd (cc e)

check_goal_is : (c : CodeTree) (kind : ℕ → Kind) (g : Setting) (m : ℕ) (goal : Goal) → end_of g goal ≡ Over (Broken m) → IsNamed c kind false goal → goal ≡ CheckGoal m
check_goal_is c kind g m (RowGoal l j) e n = absurd (cc e)
check_goal_is c kind g m (RankGoal l) e n = absurd (cc n.0)
check_goal_is c kind g m (CheckGoal j) e n = same e
  where
    same : Over (Broken j) ≡ Over (Broken m) → CheckGoal j ≡ CheckGoal m
    same e = cc

never_plain : (n : ℕ) → Rows n ≡ Plain → ⊥
never_plain n e = cc

module _ (b : Below) (p : ProgramTree) (f : Family) (c : CodeTree) (it : IsCodeOf p f c) (k : ℕ) (some : 1 ≤ k) (counts : ℕ → ℕ) (q : List LoopPoint) (over : AreOver c q None) (room : HasRoom counts q) (lower : RanksOf) where
  abbrev kind : ℕ → Kind
  kind = grown_kind counts

  abbrev g : Setting
  g = setting_of c f k kind false

  abbrev row : RowsOf
  row = grown_rows (vars_of c) q

  abbrev fronts : Tests
  fronts = alone (λ l. fronted (point_at q l) (counts l - length (its_rows (point_at q l))))

  abbrev Point : End → List ℤ → Type 0
  Point x choices = EndsAt x (run_code c (point_limit c f k q) fronts (start c choices 0))

  abbrev Walked : End → List ℤ → Type 0
  Walked x choices = EndsAt x (run_code c (limit_of c f (Cut k (starts row g))) (tests row lower g) (start c choices 0))

  to_point : (x : End) (choices : List ℤ) → Walked x choices → Point x choices
  to_point x choices h =
      subst (λ (t : Tests). EndsAt x (run_code c (point_limit c f k q) t (start c choices 0))) (tests_same c f k counts q over room lower)
      (subst (λ (l : Limit). EndsAt x (run_code c l (tests row lower g) (start c choices 0))) (limit_same c f k counts q over room) h)

  from_point : (x : End) (choices : List ℤ) → Point x choices → Walked x choices
  from_point x choices h =
      subst (λ (l : Limit). EndsAt x (run_code c l (tests row lower g) (start c choices 0))) (sym (limit_same c f k counts q over room))
      (subst (λ (t : Tests). EndsAt x (run_code c (point_limit c f k q) t (start c choices 0))) (sym (tests_same c f k counts q over room lower)) h)

  abbrev next : End → End
  next = renumbered_end (λ l row. suc row)

  -- the program's run with a row in front
  front_end : (choices : List ℤ) → cut_end p f.object k q fronts choices ≡ next (row_end p f.object k q choices)
  front_end choices = b.fronting p f.object k q (λ l. counts l - length (its_rows (point_at q l))) choices

  -- a solution's event has a run
  pub event_runs : (s : Names) → SolvesGrown c f k counts q lower s → (goal : Goal) → HasEvent s goal (grown_ssa c f k counts).events → (choices : List ℤ) × (next (row_end p f.object k q choices) ≡ end_of g goal)
  event_runs s ok goal ev =
      let u = b.solutions_run c f it.well_formed it.resolved k some kind row lower s ok goal ev in
      let choices = u.0 ++ [] in
      let h = to_point (end_of g goal) choices (u.1 [] 0) in
      (choices, sym (front_end choices) ∙ it.like k q fronts choices ∙ at_end choices 0 (run_code c (point_limit c f k q) fronts (start c choices 0)) (end_of g goal) h)

  -- a run that fails has an event
  pub failure_made : (x : End) → IsFailure x → (choices : List ℤ) → next (row_end p f.object k q choices) ≡ x
      → IsMade c f k counts q lower (λ goal. (end_of g goal ≡ x) × IsNamed c kind false goal)
  failure_made x failure choices e =
      let h = ends_at choices 0 (run_code c (point_limit c f k q) fronts (start c choices 0)) x failure (sym (it.like k q fronts choices) ∙ front_end choices ∙ e) in
      let u = b.runs_enter c f it.well_formed it.resolved k some kind (λ l. never_plain (suc (counts l))) row lower choices 0 x failure (from_point x choices h) in (
        u.0,
        u.1,
        λ s ok mt. let n = end_event c kind s g x (grown_ssa c f k counts).events (b.events_named c f it.well_formed k kind false) (u.2 s ok mt) in (n.0, (n.1, n.2), n.3),
      )

  pub so_made : (P Q : Goal → Type 0) → ((goal : Goal) → P goal → Q goal) → IsMade c f k counts q lower P → IsMade c f k counts q lower Q
  so_made P Q h m = (m.0, m.1, λ s ok mt. let n = m.2 s ok mt in (n.0, h n.0 n.1, n.2))

  fell : (x : End) (l i : ℕ) → next x ≡ Fallen l i → (j : ℕ) × (i ≡ suc j) × (x ≡ Fallen l j)
  fell (Over o) l i e = absurd (no_end e)
    where
      no_end : Over o ≡ Fallen l i → ⊥
      no_end e = cc
  fell (Fallen m j) l i e = (j, row_is e, loop_is e)
    where
      row_is : Fallen m (suc j) ≡ Fallen l i → i ≡ suc j
      row_is e = cc

      loop_is : Fallen m (suc j) ≡ Fallen l i → Fallen m j ≡ Fallen l j
      loop_is e = let same : m ≡ l = cc in ap (λ n. Fallen n j) same

  broke : (x : End) (n : ℕ) → next x ≡ Over (Broken n) → x ≡ Over (Broken n)
  broke (Over o) n e = e
  broke (Fallen m j) n e = absurd (no_end e)
    where
      no_end : Fallen m (suc j) ≡ Over (Broken n) → ⊥
      no_end e = cc

  pub row_runs : (s : Names) → SolvesGrown c f k counts q lower s → (l i : ℕ) → HasEvent s (RowGoal l i) (grown_ssa c f k counts).events
      → (j : ℕ) × (i ≡ suc j) × ((choices : List ℤ) × (row_end p f.object k q choices ≡ Fallen l j))
  row_runs s ok l i ev =
      let r = event_runs s ok (RowGoal l i) ev in
      let t = fell (row_end p f.object k q r.0) l i r.1 in
      (t.0, t.1, (r.0, t.2))

  pub check_runs : (s : Names) → SolvesGrown c f k counts q lower s → (n : ℕ) → HasEvent s (CheckGoal n) (grown_ssa c f k counts).events → (choices : List ℤ) × (row_end p f.object k q choices ≡ Over (Broken n))
  check_runs s ok n ev = let r = event_runs s ok (CheckGoal n) ev in (r.0, broke (row_end p f.object k q r.0) n r.1)

  pub row_made : (choices : List ℤ) (l j : ℕ) → row_end p f.object k q choices ≡ Fallen l j → IsMade c f k counts q lower (λ goal. goal ≡ RowGoal l (suc j))
  row_made choices l j e =
      so_made (λ goal. (end_of g goal ≡ Fallen l (suc j)) × IsNamed c kind false goal) (λ goal. goal ≡ RowGoal l (suc j)) (λ goal h. row_goal_is c kind g l (suc j) goal h.0 h.1)
      (failure_made (Fallen l (suc j)) tt choices (ap next e))

  pub check_made : (choices : List ℤ) (n : ℕ) → row_end p f.object k q choices ≡ Over (Broken n) → IsMade c f k counts q lower (λ goal. goal ≡ CheckGoal n)
  check_made choices n e =
      so_made (λ goal. (end_of g goal ≡ Over (Broken n)) × IsNamed c kind false goal) (λ goal. goal ≡ CheckGoal n) (λ goal h. check_goal_is c kind g n goal h.0 h.1)
      (failure_made (Over (Broken n)) tt choices (ap next e))

pub grown_runs : Below → GrownRuns
grown_runs b = record {
  rows = λ p f c it k some counts q over room lower s ok l i ev. row_runs b p f c it k some counts q over room lower s ok l i ev;
  checks = λ p f c it k some counts q over room lower s ok n ev. check_runs b p f c it k some counts q over room lower s ok n ev;
  fails = λ p f c it k some counts q over room lower choices l j e. row_made b p f c it k some counts q over room lower choices l j e;
  breaks = λ p f c it k some counts q over room lower choices n e. check_made b p f c it k some counts q over room lower choices n e;
}
