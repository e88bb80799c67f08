-- Cut runs of a code and models of its clauses.
use Rattle.std.proofs.Common.{◌≡◌, ◌⊎◌, inl, inr, ℕ, ◌+◌, ◌≤◌, ◌==◌, Bool, true, false, if◌then◌else◌, ℤ, List, [], ◌∷◌, ◌++◌, length, Option, None, refl, sym, ap, ◌∙◌, subst, arith}
use Rattle.std.proofs.lemmas.Bool.Decides.{nat_tests}
use Rattle.l2_runs.specs.declared.outcome.Outcome.TheVariants.{Broken}
use Rattle.l2_runs.specs.Runs.{End, Over, Fallen, Result, Go, Halt}
use Rattle.l2_runs.specs.Store.{Store}
use Rattle.l2_runs.specs.Loops.{Limit, Tests}
use Rattle.l2_run_laws.specs.Watches.{alone}
use Rattle.l2_templates.specs.declared.form.Form.{Form}
use Rattle.l2_templates.specs.declared.point.LoopPoint.{LoopPoint}
use Rattle.l2_meaning.specs.Execution.{report}
use Rattle.l2_code.specs.Trees.{CodeTree}
use Rattle.l2_code.specs.Sets.{Family}
use Rattle.l2_code.specs.Modes.{Cut, limit_of, run_code, start}
use Rattle.l2_lower.specs.Alike.{exec_code}
use Rattle.l2_cuts.specs.Points.{point_at}
use Rattle.l2_cuts.specs.Cuts.{rows_at, watched}
use Rattle.l2_cut_code.specs.Limits.{point_limit}
use Rattle.l2_supply.specs.Supply.{IsFailure}
use Rattle.l2_ssa.specs.Steps.{Names}
use Rattle.l2_ssa.specs.Walks.{Goal, RowGoal, RankGoal, CheckGoal, Event, Setting, Kind, Plain, Out}
use Rattle.l2_ssa.specs.Law.{RowsOf, RanksOf, tests, starts, setting_of, ssa, EndsAt, HasEvent, HasEnd, end_of}
use Rattle.l2_ssa_laws.specs.Events.{IsNamed, AreNamed, HasRows}
use Rattle.l2_ssa_laws.specs.Rankings.{Watch, Unwatched, Passing, Ranked, IsWatch, rank_tests, CutEnds}
use Rattle.l2_ssa_laws.specs.Rankings as rankings
use Rattle.l2_ssa_points.specs.Goals.{kind_at}
use Rattle.l2_ssa_points.specs.Places.{vars_of}
use Rattle.l2_ssa_points.specs.Meanings.{rows_say, ranks_say}
use Rattle.l2_ssa_points.specs.Law.{AreOver}
use Rattle.l2_blast.specs.Words.{Fill}
use Rattle.l2_goal_laws.specs.Models.{IsReady, Fills, AreLower, HasModel}
use Rattle.l2_goal_laws.specs.Below.{Below, Runs}
use Rattle.l2_goal_laws.proofs.Models.{model_solves, supply_solves}
use Rattle.l2_goal_laws.proofs.Points.{never_plain, behind_last, watch_row, rows_tie, ranks_tie, watched_by, passes_by}

-- ---- ends

-- some choices make a cut run of the code over at this end
abbrev pub Ends : CodeTree → Family → ℕ → List LoopPoint → Tests → End → Type 0
Ends c f k q tests x = (choices : List ℤ) × ((exec_code c (point_limit c f k q) tests choices 0).end ≡ x)

ends_at : (choices : List ℤ) (turns : ℕ) (r : Result (Unit {0})) (x : End) → IsFailure x → (report choices turns r).end ≡ x → EndsAt x r
ends_at choices turns (Go u s) x h e = subst IsFailure (sym e) h
ends_at choices turns (Halt y s) x h e = e

at_end : (choices : List ℤ) (turns : ℕ) (r : Result (Unit {0})) (x : End) → EndsAt x r → (report choices turns r).end ≡ x
at_end choices turns (Go u s) x h = absurd h
at_end choices turns (Halt y s) x h = h

-- ---- events

-- the goal of an event that stands for this end
end_event : (c : CodeTree) (kind : ℕ → Kind) (ranks : Bool) (s : Names) (g : Setting) (x : End) (es : List Event) → AreNamed c kind ranks es → HasEnd s g x es
    → (goal : Goal) × (end_of g goal ≡ x) × IsNamed c kind ranks goal × HasEvent s goal es
end_event c kind ranks s g x [] n h = absurd h
end_event c kind ranks s g x (e ∷ es) n (inl (is, t)) = (e.goal, is, n.0, inl (refl, t))
end_event c kind ranks s g x (e ∷ es) n (inr h) = let r = end_event c kind ranks s g x es n.1 h in (r.0, r.1, r.2, inr r.3)

event_named : (c : CodeTree) (kind : ℕ → Kind) (ranks : Bool) (s : Names) (goal : Goal) (es : List Event) → AreNamed c kind ranks es → HasEvent s goal es → IsNamed c kind ranks goal
event_named c kind ranks s goal [] n h = absurd h
event_named c kind ranks s goal (e ∷ es) n (inl (is, t)) = subst (IsNamed c kind ranks) is n.0
event_named c kind ranks s goal (e ∷ es) n (inr h) = event_named c kind ranks s goal es n.1 h

-- where checks are events
row_goal_is : (c : CodeTree) (kind : ℕ → Kind) (g : Setting) (l i : ℕ) (goal : Goal) → end_of g goal ≡ Fallen l i → IsNamed c kind false goal → goal ≡ RowGoal l i
row_goal_is c kind g l i (RowGoal m j) e n = same e
  where
    same : Fallen m j ≡ Fallen l i → RowGoal m j ≡ RowGoal l i
    same e = cc
row_goal_is c kind g l i (RankGoal m) e n = absurd (cc n.0)
row_goal_is c kind g l i (CheckGoal m) e n = absurd (cc e)

check_goal_is : (c : CodeTree) (kind : ℕ → Kind) (g : Setting) (m : ℕ) (goal : Goal) → end_of g goal ≡ Over (Broken m) → IsNamed c kind false goal → goal ≡ CheckGoal m
check_goal_is c kind g m (RowGoal l j) e n = absurd (cc e)
check_goal_is c kind g m (RankGoal l) e n = absurd (cc n.0)
check_goal_is c kind g m (CheckGoal j) e n = same e
  where
    same : Over (Broken j) ≡ Over (Broken m) → CheckGoal j ≡ CheckGoal m
    same e = cc

module _ (b : Below) (r : Runs) (c : CodeTree) (f : Family) (ready : IsReady c f) (k : ℕ) (some : 1 ≤ k) (q : List LoopPoint) where
  abbrev kind : ℕ → Kind
  kind = kind_at q

  abbrev row : RowsOf
  row = rows_say (vars_of c) q

  plain : (l : ℕ) → kind l ≡ Plain → ⊥
  plain l e = never_plain (point_at q l) e

  -- ---- where checks are events
  module _ (over : AreOver c q None) (fill : Fill) (fills : Fills c fill row (ranks_say (vars_of c) None)) where
    abbrev g : Setting
    g = setting_of c f k kind false

    abbrev lower : RanksOf
    lower = ranks_say (vars_of c) None

    abbrev out : Out
    out = ssa c f k kind false

    abbrev Point : End → List ℤ → ℕ → Type 0
    Point x choices turns = EndsAt x (run_code c (point_limit c f k q) (alone (rows_at q)) (start c choices turns))

    abbrev Walked : End → List ℤ → ℕ → Type 0
    Walked x choices turns = EndsAt x (run_code c (limit_of c f (Cut k (starts row g))) (tests row lower g) (start c choices turns))

    to_point : (x : End) (choices : List ℤ) (turns : ℕ) → Walked x choices turns → Point x choices turns
    to_point x choices turns h =
        subst (λ (t : Tests). EndsAt x (run_code c (point_limit c f k q) t (start c choices turns))) (r.points_test c f k q None over)
        (subst (λ (l : Limit). EndsAt x (run_code c l (tests row lower g) (start c choices turns))) (r.points_start c f k q None over false) h)

    from_point : (x : End) (choices : List ℤ) (turns : ℕ) → Point x choices turns → Walked x choices turns
    from_point x choices turns h =
        subst (λ (l : Limit). EndsAt x (run_code c l (tests row lower g) (start c choices turns))) (sym (r.points_start c f k q None over false))
        (subst (λ (t : Tests). EndsAt x (run_code c (point_limit c f k q) t (start c choices turns))) (sym (r.points_test c f k q None over)) h)

    -- a run that fails has a goal, and the goal a model
    pub failure_met : (x : End) → IsFailure x → Ends c f k q (alone (rows_at q)) x → (goal : Goal) × (end_of g goal ≡ x) × IsNamed c kind false goal × HasModel c fill out goal
    failure_met x failure (choices, e) =
        let h = from_point x choices 0 (ends_at choices 0 (run_code c (point_limit c f k q) (alone (rows_at q)) (start c choices 0)) x failure e) in
        let u = r.runs_enter c f ready.well_formed ready.resolved k some kind plain row lower choices 0 x failure h in
        let s = supply_solves b c f ready k kind false fill row lower fills u.0 u.1 in
        let n = end_event c kind false s.0 g x out.events (r.named c f ready.well_formed k kind false) (u.2 s.0 s.1 s.2) in
        (n.0, n.1, n.2, s.3 n.0 n.3)

    pub row_met : (l i : ℕ) → Ends c f k q (alone (rows_at q)) (Fallen l i) → IsNamed c kind false (RowGoal l i) × HasModel c fill out (RowGoal l i)
    row_met l i h =
        let m = failure_met (Fallen l i) tt h in
        let is = row_goal_is c kind g l i m.0 m.1 m.2 in
        (subst (IsNamed c kind false) is m.2, subst (HasModel c fill out) is m.3)

    pub check_met : (n : ℕ) → Ends c f k q (alone (rows_at q)) (Over (Broken n)) → IsNamed c kind false (CheckGoal n) × HasModel c fill out (CheckGoal n)
    check_met n h =
        let m = failure_met (Over (Broken n)) tt h in
        let is = check_goal_is c kind g n m.0 m.1 m.2 in
        (subst (IsNamed c kind false) is m.2, subst (HasModel c fill out) is m.3)

    -- a goal with a model has a run
    pub met_ends : (goal : Goal) → HasModel c fill out goal → Ends c f k q (alone (rows_at q)) (end_of g goal)
    met_ends goal m =
        let s = model_solves b c f ready k kind false fill row lower fills goal m in
        let u = r.solutions_run c f ready.well_formed ready.resolved k some kind row lower s.0 s.1 goal s.2 in
        let x = end_of g goal in
        let choices = u.0 ++ [] in
        (choices, at_end choices 0 (run_code c (point_limit c f k q) (alone (rows_at q)) (start c choices 0)) x (to_point x choices 0 (u.1 [] 0)))

  -- ---- where rankings are asked for
  module _ (ranks : Option (List (List Form))) (over : AreOver c q ranks) (rank_lower : RanksOf) (low : ℕ → Store → Store → Bool) (lowers : AreLower c rank_lower low) (fill : Fill) (fills : Fills c fill row rank_lower) where
    abbrev rank_g : Setting
    rank_g = setting_of c f k kind true

    abbrev rank_out : Out
    rank_out = ssa c f k kind true

    abbrev RankWalked : Tests → End → List ℤ → ℕ → Type 0
    RankWalked t x choices turns = CutEnds c f k row kind t choices turns x

    abbrev RankPoint : Tests → End → List ℤ → ℕ → Type 0
    RankPoint t x choices turns = EndsAt x (run_code c (point_limit c f k q) t (start c choices turns))

    limit_to : (t : Tests) (x : End) (choices : List ℤ) (turns : ℕ) → RankWalked t x choices turns → RankPoint t x choices turns
    limit_to t x choices turns h = subst (λ (l : Limit). EndsAt x (run_code c l t (start c choices turns))) (r.points_start c f k q ranks over true) h

    limit_from : (t : Tests) (x : End) (choices : List ℤ) (turns : ℕ) → RankPoint t x choices turns → RankWalked t x choices turns
    limit_from t x choices turns h = subst (λ (l : Limit). EndsAt x (run_code c l t (start c choices turns))) (sym (r.points_start c f k q ranks over true)) h

    tests_from : (t u : Tests) → t ≡ u → (x : End) → IsFailure x → (choices : List ℤ) → (exec_code c (point_limit c f k q) u choices 0).end ≡ x → RankWalked t x choices 0
    tests_from t u same x failure choices e =
        subst (λ (v : Tests). RankWalked v x choices 0) (sym same)
        (limit_from u x choices 0 (ends_at choices 0 (run_code c (point_limit c f k q) u (start c choices 0)) x failure e))

    tests_to : (t u : Tests) → t ≡ u → (x : End) (choices : List ℤ) → RankWalked t x choices 0 → Ends c f k q u x
    tests_to t u same x choices h =
        (choices, at_end choices 0 (run_code c (point_limit c f k q) u (start c choices 0)) x (limit_to u x choices 0 (subst (λ (v : Tests). RankWalked v x choices 0) same h)))

    rows_same : rank_tests row rank_lower rank_g (λ l. Unwatched) ≡ alone (rows_at q)
    rows_same = r.none_watched row rank_lower rank_g ∙ ap alone (rows_tie c f k q ranks over rank_lower low lowers r.points_test)

    rows_of_walk : alone (rankings.rows_at row rank_g) ≡ alone (rows_at q)
    rows_of_walk = ap alone (rows_tie c f k q ranks over rank_lower low lowers r.points_test)

    ranks_same : (w : ℕ → Bool) → rank_tests row rank_lower rank_g (watched_by w) ≡ watched q (passes_by low w)
    ranks_same w = ranks_tie c f k q ranks over rank_lower low lowers r.points_test w

    -- a run that fails a row, or has a turn of a watched loop that isn't lower, has a model of the goal
    fallen_met : (watch : ℕ → Watch) (l i : ℕ) (choices : List ℤ) → RankWalked (rank_tests row rank_lower rank_g watch) (Fallen l i) choices 0
        → (IsNamed c kind true (RowGoal l i) × HasModel c fill rank_out (RowGoal l i)) ⊎ (IsWatch kind watch l i × IsNamed c kind true (RankGoal l) × HasModel c fill rank_out (RankGoal l))
    fallen_met watch l i choices h =
        let u = r.runs_fall c f ready.well_formed ready.resolved k some kind plain row rank_lower watch choices 0 l i h in
        let s = supply_solves b c f ready k kind true fill row rank_lower fills u.0 u.1 in
        go s.0 s.3 (u.2 s.0 s.1 s.2)
      where
        names : AreNamed c kind true rank_out.events
        names = r.named c f ready.well_formed k kind true

        go : (s : Names) → ((goal : Goal) → HasEvent s goal rank_out.events → HasModel c fill rank_out goal)
            → HasEvent s (RowGoal l i) rank_out.events ⊎ (IsWatch kind watch l i × HasEvent s (RankGoal l) rank_out.events)
            → (IsNamed c kind true (RowGoal l i) × HasModel c fill rank_out (RowGoal l i)) ⊎ (IsWatch kind watch l i × IsNamed c kind true (RankGoal l) × HasModel c fill rank_out (RankGoal l))
        go s met (inl e) = inl (event_named c kind true s (RowGoal l i) rank_out.events names e, met (RowGoal l i) e)
        go s met (inr (w, e)) = inr (w, event_named c kind true s (RankGoal l) rank_out.events names e, met (RankGoal l) e)

    -- with some loops watched
    pub watched_met : (w : ℕ → Bool) (l i : ℕ) → Ends c f k q (watched q (passes_by low w)) (Fallen l i)
        → (IsNamed c kind true (RowGoal l i) × HasModel c fill rank_out (RowGoal l i)) ⊎ (IsWatch kind (watched_by w) l i × IsNamed c kind true (RankGoal l) × HasModel c fill rank_out (RankGoal l))
    watched_met w l i (choices, e) = fallen_met (watched_by w) l i choices (tests_from (rank_tests row rank_lower rank_g (watched_by w)) (watched q (passes_by low w)) (ranks_same w) (Fallen l i) tt choices e)

    pub rank_row_met : (l i : ℕ) → Ends c f k q (alone (rows_at q)) (Fallen l i) → HasModel c fill rank_out (RowGoal l i)
    rank_row_met l i (choices, e) =
        go (fallen_met (λ m. Unwatched) l i choices (tests_from (rank_tests row rank_lower rank_g (λ m. Unwatched)) (alone (rows_at q)) rows_same (Fallen l i) tt choices e))
      where
        go : (IsNamed c kind true (RowGoal l i) × HasModel c fill rank_out (RowGoal l i)) ⊎ (IsWatch kind (λ m. Unwatched) l i × IsNamed c kind true (RankGoal l) × HasModel c fill rank_out (RankGoal l)) → HasModel c fill rank_out (RowGoal l i)
        go (inl m) = m.1
        go (inr m) = absurd (cc m.0.0)

    pub rank_met : (l : ℕ) → HasRows (kind l) → Ends c f k q (watched q (passes_by low (λ m. m == l))) (Fallen l (length (rows_at q l) + 1)) → HasModel c fill rank_out (RankGoal l)
    rank_met l rows h = go (watched_met (λ m. m == l) l (length (rows_at q l) + 1) h)
      where
        go : (IsNamed c kind true (RowGoal l (length (rows_at q l) + 1)) × HasModel c fill rank_out (RowGoal l (length (rows_at q l) + 1)))
            ⊎ (IsWatch kind (watched_by (λ m. m == l)) l (length (rows_at q l) + 1) × IsNamed c kind true (RankGoal l) × HasModel c fill rank_out (RankGoal l)) → HasModel c fill rank_out (RankGoal l)
        go (inl m) = absurd (behind_last (point_at q l) rows m.0.1)
        go (inr m) = m.2

    -- a goal with a model has a run
    pub rank_row_ends : (l i : ℕ) → HasModel c fill rank_out (RowGoal l i) → Ends c f k q (alone (rows_at q)) (Fallen l i)
    rank_row_ends l i m =
        let s = model_solves b c f ready k kind true fill row rank_lower fills (RowGoal l i) m in
        let u = r.rows_run c f ready.well_formed ready.resolved k some kind row rank_lower s.0 s.1 l i s.2 in
        tests_to (alone (rankings.rows_at row rank_g)) (alone (rows_at q)) rows_of_walk (Fallen l i) (u.0 ++ []) (u.1 [] 0)

    pub rank_ends : (l : ℕ) → HasModel c fill rank_out (RankGoal l) → Ends c f k q (watched q (passes_by low (λ m. m == l))) (Fallen l (length (rows_at q l) + 1))
    rank_ends l m =
        let w : ℕ → Bool = λ m. m == l in
        let self : (l == l) ≡ true = grind (arith, nat_tests) in
        let s = model_solves b c f ready k kind true fill row rank_lower fills (RankGoal l) m in
        let u = r.ranks_run c f ready.well_formed ready.resolved k some kind row rank_lower s.0 s.1 (watched_by w) l (ap (λ b. if b then Ranked else Passing) self) s.2 in
        go u.0 u.1 u.2 (tests_to (rank_tests row rank_lower rank_g (watched_by w)) (watched q (passes_by low w)) (ranks_same w) (Fallen u.0 u.1) (u.3.0 ++ []) (u.3.1 [] 0))
      where
        is_loop : (m : ℕ) (b : Bool) → (m == l) ≡ b → (if b then Ranked else Passing) ≡ Ranked → m ≡ l
        is_loop m true e h = grind (arith, nat_tests)
        is_loop m false e h = absurd (cc h)

        go : (m i : ℕ) → IsWatch kind (watched_by (λ m. m == l)) m i → Ends c f k q (watched q (passes_by low (λ m. m == l))) (Fallen m i) → Ends c f k q (watched q (passes_by low (λ m. m == l))) (Fallen l (length (rows_at q l) + 1))
        go m i (ranked, (n, is, e)) h =
            let same : m ≡ l = is_loop m (m == l) refl ranked in
            let count : length (rows_at q m) + 1 ≡ i = watch_row (point_at q m) n is ∙ sym e in
            subst (λ j. Ends c f k q (watched q (passes_by low (λ m. m == l))) (Fallen j (length (rows_at q j) + 1))) same
            (subst (λ j. Ends c f k q (watched q (passes_by low (λ m. m == l))) (Fallen m j)) (sym count) h)
