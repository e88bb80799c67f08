-- Cut runs of a program and its formulas.
use Rattle.std.proofs.Common.{◌≡◌, ◌⊎◌, inl, inr, ℕ, ◌+◌, ◌<◌, ◌≤◌, Bool, true, false, ℤ, List, length, Option, Some, None, refl, sym, ap, ◌∙◌, subst}
use Rattle.std.specs.List.{Contains}
use Rattle.l2_runs.specs.declared.outcome.Outcome.TheVariants.{Ended, Stopped, Broken, OutOfChoices, OutOfTurns}
use Rattle.l2_runs.specs.Numbers.{at_number}
use Rattle.l2_runs.specs.Fits.{Layout}
use Rattle.l2_runs.specs.Runs.{End, Over, Fallen}
use Rattle.l2_runs.specs.Loops.{Tests}
use Rattle.l2_run_laws.specs.Watches.{alone}
use Rattle.l2_templates.specs.declared.form.Form.{Form}
use Rattle.l2_templates.specs.declared.point.LoopPoint.{LoopPoint}
use Rattle.l2_program.specs.Programs.{ProgramTree}
use Rattle.l2_meaning.specs.Execution.{cells_of, report, IsBroken}
use Rattle.l2_meaning.specs.Pointing.{AreClosed}
use Rattle.l2_meaning.specs.Lawful.{IsLawful}
use Rattle.l2_code.specs.declared.code.CodeObject.{CodeObject}
use Rattle.l2_code.specs.Trees.{CodeTree}
use Rattle.l2_code.specs.Sets.{Family, HasCell, IsResolved}
use Rattle.l2_code.specs.Modes.{types_of, object_cells, start}
use Rattle.l2_lower.specs.Alike.{exec_code}
use Rattle.l2_lower.specs.Code.{code}
use Rattle.l2_labels.specs.Labels.{one_label}
use Rattle.l2_cuts.specs.Cuts.{rows_at, watched, cut_end, row_end, IsFallen, Proves, RankProves}
use Rattle.l2_cuts.specs.Points.{lowers}
use Rattle.l2_cut_code.specs.Limits.{NameCells, point_limit}
use Rattle.l2_ssa.specs.Walks.{Goal, RowGoal, RankGoal, CheckGoal}
use Rattle.l2_ssa.specs.Law.{RanksOf, ssa}
use Rattle.l2_blast.specs.Words.{Fill}
use Rattle.l2_runs.specs.Store.{Store}
use Rattle.l2_ssa_laws.specs.Events.{IsNamed, HasRows}
use Rattle.l2_ssa_laws.specs.Rankings.{IsWatch}
use Rattle.l2_ssa_points.specs.Goals.{kind_at, row_goals, check_goals}
use Rattle.l2_ssa_points.specs.Meanings.{rows_say, ranks_say}
use Rattle.l2_ssa_points.specs.Places.{vars_of}
use Rattle.l2_goals.specs.Formulas.{walk_formulas}
use Rattle.l2_goal_laws.specs.Fits.{AreOf}
use Rattle.l2_goal_laws.specs.Models.{IsReady, Fills, AreLower, HasModel}
use Rattle.l2_goal_laws.specs.Law.{IsMissed, passes_one, TurnsAreRuns, NoneHasModels, FormulasAreRuns, RunsAreListed, PointsProve, RanksProve}
use Rattle.l2_goal_laws.specs.Below.{Laws}
use Rattle.l2_goal_laws.proofs.Sizes.{no_zero}
use Rattle.l2_goal_laws.proofs.Points.{are_over, forms_lower, watched_by}
use Rattle.l2_goal_laws.proofs.Listed.{IsAsked, row_listed, check_listed, named_listed, listed_asked}
use Rattle.l2_goal_laws.proofs.Formulas.{fill_at, out_at, formula_met, met_formula, none_met}
use Rattle.l2_goal_laws.proofs.Runs.{Ends, row_met, check_met, met_ends, watched_met, rank_row_met, rank_met, rank_row_ends, rank_ends}

-- ---- a code that does what the program does

abbrev DoesLike : ProgramTree → Family → CodeTree → Type 0
DoesLike p f c = (k : ℕ) (q : List LoopPoint) (tests : Tests) (choices : List ℤ) → cut_end p f.object k q tests choices ≡ (exec_code c (point_limit c f k q) tests choices 0).end

module _ (a : Laws) (p : ProgramTree) (f : Family) (c : CodeTree) (ready : IsReady c f) (alike : DoesLike p f c) (k : ℕ) (some : 1 ≤ k) (q : List LoopPoint) where
  fills : (ranks : Option (List (List Form))) → AreOf c q ranks → Fills c (fill_at c q ranks) (rows_say (vars_of c) q) (ranks_say (vars_of c) ranks)
  fills ranks fit = record {
    made = a.made (vars_of c) q ranks;
    means = λ v one. a.mean (types_of c) (vars_of c) q ranks (no_zero c ready.well_formed) fit.rows fit.rankings v one;
  }

  code_ends : (tests : Tests) (x : End) (choices : List ℤ) → cut_end p f.object k q tests choices ≡ x → Ends c f k q tests x
  code_ends tests x choices e = (choices, sym (alike k q tests choices) ∙ e)

  program_ends : (tests : Tests) (x : End) → Ends c f k q tests x → (choices : List ℤ) × (cut_end p f.object k q tests choices ≡ x)
  program_ends tests x (choices, e) = (choices, alike k q tests choices ∙ e)

  module _ (fit : AreOf c q None) where
    row_found : (choices : List ℤ) (l i : ℕ) → row_end p f.object k q choices ≡ Fallen l i → IsNamed c (kind_at q) false (RowGoal l i) × HasModel c (fill_at c q None) (out_at c f k q None) (RowGoal l i)
    row_found choices l i e = row_met a.below a.runs c f ready k some q (are_over c q None fit) (fill_at c q None) (fills None fit) l i (code_ends (alone (rows_at q)) (Fallen l i) choices e)

    check_found : (choices : List ℤ) (n : ℕ) → row_end p f.object k q choices ≡ Over (Broken n) → IsNamed c (kind_at q) false (CheckGoal n) × HasModel c (fill_at c q None) (out_at c f k q None) (CheckGoal n)
    check_found choices n e = check_met a.below a.runs c f ready k some q (are_over c q None fit) (fill_at c q None) (fills None fit) n (code_ends (alone (rows_at q)) (Over (Broken n)) choices e)

    pub rows_listed : (choices : List ℤ) (l i : ℕ) → row_end p f.object k q choices ≡ Fallen l i → Contains (row_goals 1 q) (RowGoal l i)
    rows_listed choices l i e = let n = (row_found choices l i e).0 in row_listed c q fit.loops l i n.0.0 n.0.1 n.1

    pub checks_listed : (choices : List ℤ) (n : ℕ) → row_end p f.object k q choices ≡ Over (Broken n) → Contains (check_goals 1 (length c.checks)) (CheckGoal n)
    checks_listed choices n e = let m = (check_found choices n e).0 in check_listed c q fit.loops n m.1.0 m.1.1

    safe_missed : (goal : Goal) → IsAsked q false goal → HasModel c (fill_at c q None) (out_at c f k q None) goal → IsMissed p f.object k q None goal
    safe_missed (RowGoal l i) h m = program_ends (alone (rows_at q)) (Fallen l i) (met_ends a.below a.runs c f ready k some q (are_over c q None fit) (fill_at c q None) (fills None fit) (RowGoal l i) m)
    safe_missed (RankGoal l) h m = absurd (cc h.0)
    safe_missed (CheckGoal n) h m = program_ends (alone (rows_at q)) (Over (Broken n)) (met_ends a.below a.runs c f ready k some q (are_over c q None fit) (fill_at c q None) (fills None fit) (CheckGoal n) m)

    safe_met : (goal : Goal) → IsAsked q false goal → IsMissed p f.object k q None goal → HasModel c (fill_at c q None) (out_at c f k q None) goal
    safe_met (RowGoal l i) h m = (row_found m.0 l i m.1).1
    safe_met (RankGoal l) h m = absurd (cc h.0)
    safe_met (CheckGoal n) h m = (check_found m.0 n m.1).1

    module _ (none : NoneHasModels (walk_formulas c f k q None)) where
      no_row : (choices : List ℤ) (x : End) → row_end p f.object k q choices ≡ x → IsFallen x → ⊥
      no_row choices (Over o) e h = absurd h
      no_row choices (Fallen l i) e h = let m = row_found choices l i e in none_met c f k q None none (RowGoal l i) (named_listed c q fit.loops None (RowGoal l i) m.0) m.1

      no_check : (choices : List ℤ) (x : End) → row_end p f.object k q choices ≡ x → IsBroken x → ⊥
      no_check choices (Over Ended) e h = absurd h
      no_check choices (Over Stopped) e h = absurd h
      no_check choices (Over (Broken n)) e h = let m = check_found choices n e in none_met c f k q None none (CheckGoal n) (named_listed c q fit.loops None (CheckGoal n) m.0) m.1
      no_check choices (Over OutOfChoices) e h = absurd h
      no_check choices (Over OutOfTurns) e h = absurd h
      no_check choices (Fallen l i) e h = absurd h

      pub proves : Proves p f.object k q
      proves = (λ choices h. no_row choices (row_end p f.object k q choices) refl h, λ choices h. no_check choices (row_end p f.object k q choices) refl h)

  module _ (rs : List (List Form)) (fit : AreOf c q (Some rs)) where
    rank_missed : (goal : Goal) → IsAsked q true goal → HasModel c (fill_at c q (Some rs)) (out_at c f k q (Some rs)) goal → IsMissed p f.object k q (Some rs) goal
    rank_missed (RowGoal l i) h m = program_ends (alone (rows_at q)) (Fallen l i) (rank_row_ends a.below a.runs c f ready k some q (Some rs) (are_over c q (Some rs) fit) (ranks_say (vars_of c) (Some rs)) (lowers rs) (forms_lower c q rs (are_over c q (Some rs) fit)) (fill_at c q (Some rs)) (fills (Some rs) fit) l i m)
    rank_missed (RankGoal l) h m =
        program_ends (watched q (passes_one (lowers rs) l)) (Fallen l (length (rows_at q l) + 1)) (rank_ends a.below a.runs c f ready k some q (Some rs) (are_over c q (Some rs) fit) (ranks_say (vars_of c) (Some rs)) (lowers rs) (forms_lower c q rs (are_over c q (Some rs) fit)) (fill_at c q (Some rs)) (fills (Some rs) fit) l m)
    rank_missed (CheckGoal n) h m = absurd (cc h)

    ranks_met : (goal : Goal) → IsAsked q true goal → IsMissed p f.object k q (Some rs) goal → HasModel c (fill_at c q (Some rs)) (out_at c f k q (Some rs)) goal
    ranks_met (RowGoal l i) h m = rank_row_met a.below a.runs c f ready k some q (Some rs) (are_over c q (Some rs) fit) (ranks_say (vars_of c) (Some rs)) (lowers rs) (forms_lower c q rs (are_over c q (Some rs) fit)) (fill_at c q (Some rs)) (fills (Some rs) fit) l i (code_ends (alone (rows_at q)) (Fallen l i) m.0 m.1)
    ranks_met (RankGoal l) h m =
        rank_met a.below a.runs c f ready k some q (Some rs) (are_over c q (Some rs) fit) (ranks_say (vars_of c) (Some rs)) (lowers rs) (forms_lower c q rs (are_over c q (Some rs) fit)) (fill_at c q (Some rs)) (fills (Some rs) fit) l h.1 (code_ends (watched q (passes_one (lowers rs) l)) (Fallen l (length (rows_at q l) + 1)) m.0 m.1)
    ranks_met (CheckGoal n) h m = absurd (cc h)

    module _ (none : NoneHasModels (walk_formulas c f k q (Some rs))) where
      no_turn : (choices : List ℤ) (x : End) → cut_end p f.object k q (watched q (lowers rs)) choices ≡ x → IsFallen x → ⊥
      no_turn choices (Over o) e h = absurd h
      no_turn choices (Fallen l i) e h =
          go (watched_met a.below a.runs c f ready k some q (Some rs) (are_over c q (Some rs) fit) (ranks_say (vars_of c) (Some rs)) (lowers rs) (forms_lower c q rs (are_over c q (Some rs) fit)) (fill_at c q (Some rs)) (fills (Some rs) fit) (λ m. true) l i (code_ends (watched q (lowers rs)) (Fallen l i) choices e))
        where
          go : (IsNamed c (kind_at q) true (RowGoal l i) × HasModel c (fill_at c q (Some rs)) (out_at c f k q (Some rs)) (RowGoal l i))
              ⊎ (IsWatch (kind_at q) (watched_by (λ m. true)) l i × IsNamed c (kind_at q) true (RankGoal l) × HasModel c (fill_at c q (Some rs)) (out_at c f k q (Some rs)) (RankGoal l)) → ⊥
          go (inl m) = none_met c f k q (Some rs) none (RowGoal l i) (named_listed c q fit.loops (Some rs) (RowGoal l i) m.0) m.1
          go (inr m) = none_met c f k q (Some rs) none (RankGoal l) (named_listed c q fit.loops (Some rs) (RankGoal l) m.1) m.2

      pub rank_proves : RankProves p f.object k q rs
      rank_proves = λ choices h. no_turn choices (cut_end p f.object k q (watched q (lowers rs)) choices) refl h

  -- turns of another ranking
  module _ (fit : AreOf c q None) (fill : Fill) (lower : RanksOf) (low : ℕ → Store → Store → Bool) (same : AreLower c lower low) (filled : Fills c fill (rows_say (vars_of c) q) lower) (l : ℕ) where
    pub turn_missed : HasModel c fill (ssa c f k (kind_at q) true) (RankGoal l) → (choices : List ℤ) × (cut_end p f.object k q (watched q (passes_one low l)) choices ≡ Fallen l (length (rows_at q l) + 1))
    turn_missed m = program_ends (watched q (passes_one low l)) (Fallen l (length (rows_at q l) + 1)) (rank_ends a.below a.runs c f ready k some q None (are_over c q None fit) lower low same fill filled l m)

    pub turn_met : HasRows (kind_at q l) → (choices : List ℤ) × (cut_end p f.object k q (watched q (passes_one low l)) choices ≡ Fallen l (length (rows_at q l) + 1)) → HasModel c fill (ssa c f k (kind_at q) true) (RankGoal l)
    turn_met rows (choices, e) = rank_met a.below a.runs c f ready k some q None (are_over c q None fit) lower low same fill filled l rows (code_ends (watched q (passes_one low l)) (Fallen l (length (rows_at q l) + 1)) choices e)

-- ---- the program's code

module _ (a : Laws) (p : ProgramTree) (lawful : IsLawful p) (f : Family) (resolved : IsResolved (code p) f) where
  has_cell : (o : ℕ) → HasCell (at_number (code p).objects o) → 0 < length ((types_of (code p)).objects o)
  has_cell o h = go (at_number (code p).objects o) h
    where
      go : (x : Option CodeObject) → HasCell x → 0 < length (object_cells x)
      go None h = absurd h
      go (Some x) h = h

  name_cells : NameCells (cells_of p) f.object
  name_cells n o h = subst (λ (cells : Layout). 0 < length (cells o)) (a.cells p) (has_cell o (resolved.over.objects n o h))

  pub does_like : DoesLike p f (one_label (code p))
  does_like k q tests choices =
      ap (λ e. e.end) (a.executions p lawful f name_cells k q tests choices 0)
      ∙ ap (λ r. (report choices 0 r).end) (sym (a.runs_alike (code p) (point_limit (code p) f k q) tests (start (code p) choices 0)))

  pub is_ready : IsReady (one_label (code p)) f
  is_ready = record {
    well_formed = a.stays_well_formed (code p) (a.well_formed p lawful);
    resolved = a.stays_resolved (code p) f resolved;
    direct = a.stays_direct (types_of (code p)).objects (code p) (a.direct p lawful);
  }

  pub are_closed : AreClosed p f.object
  are_closed = a.closed p lawful f resolved.closed

-- a point that fits the code fits it with one label at each place
one_fit : (c : CodeTree) (q : List LoopPoint) (ranks : Option (List (List Form))) → AreOf c q ranks → AreOf (one_label c) q ranks
one_fit c q ranks fit = record { loops = fit.loops; rows = fit.rows; rankings = fit.rankings }

pub formulas_are_runs : Laws → FormulasAreRuns
formulas_are_runs a p lawful f resolved k some q None fit goal listed =
    let asked = listed_asked (length (code p).checks) q None goal listed in (
      λ m. safe_missed a p f (one_label (code p)) (is_ready a p lawful f resolved) (does_like a p lawful f resolved) k some q (one_fit (code p) q None fit) goal asked (formula_met (one_label (code p)) f k q None goal m),
      λ m. met_formula (one_label (code p)) f k q None goal (safe_met a p f (one_label (code p)) (is_ready a p lawful f resolved) (does_like a p lawful f resolved) k some q (one_fit (code p) q None fit) goal asked m),
    )
formulas_are_runs a p lawful f resolved k some q (Some rs) fit goal listed =
    let asked = listed_asked (length (code p).checks) q (Some rs) goal listed in (
      λ m. rank_missed a p f (one_label (code p)) (is_ready a p lawful f resolved) (does_like a p lawful f resolved) k some q rs (one_fit (code p) q (Some rs) fit) goal asked (formula_met (one_label (code p)) f k q (Some rs) goal m),
      λ m. met_formula (one_label (code p)) f k q (Some rs) goal (ranks_met a p f (one_label (code p)) (is_ready a p lawful f resolved) (does_like a p lawful f resolved) k some q rs (one_fit (code p) q (Some rs) fit) goal asked m),
    )

pub runs_are_listed : Laws → RunsAreListed
runs_are_listed a = record {
  rows = λ p lawful f resolved k some q fit choices l i e. rows_listed a p f (one_label (code p)) (is_ready a p lawful f resolved) (does_like a p lawful f resolved) k some q (one_fit (code p) q None fit) choices l i e;
  checks = λ p lawful f resolved k some q fit choices n e. checks_listed a p f (one_label (code p)) (is_ready a p lawful f resolved) (does_like a p lawful f resolved) k some q (one_fit (code p) q None fit) choices n e;
}

pub points_prove : Laws → PointsProve
points_prove a p lawful f resolved k some q fit none =
    let it = proves a p f (one_label (code p)) (is_ready a p lawful f resolved) (does_like a p lawful f resolved) k some q (one_fit (code p) q None fit) none in
    (it, a.safe p lawful f.object (are_closed a p lawful f resolved) k some q it)

pub ranks_prove : Laws → RanksProve
ranks_prove a p lawful f resolved k some q r fit none =
    let it = rank_proves a p f (one_label (code p)) (is_ready a p lawful f resolved) (does_like a p lawful f resolved) k some q r (one_fit (code p) q (Some r) fit) none in
    (it, a.terminating p lawful f.object (are_closed a p lawful f resolved) k some q r it)

pub turns_are_runs : Laws → TurnsAreRuns
turns_are_runs a p lawful f resolved k some q fit fill lower low same filled l rows = (
  λ m. turn_missed a p f (one_label (code p)) (is_ready a p lawful f resolved) (does_like a p lawful f resolved) k some q (one_fit (code p) q None fit) fill lower low same filled l m,
  λ m. turn_met a p f (one_label (code p)) (is_ready a p lawful f resolved) (does_like a p lawful f resolved) k some q (one_fit (code p) q None fit) fill lower low same filled l rows m,
)
