-- The tests of a code's equations with rankings are those of the point and the rankings.
use Rattle.std.proofs.Common.{◌≡◌, ℕ, zero, suc, ◌+◌, Bool, true, false, if◌then◌else◌, List, [], ◌∷◌, length, map, Option, Some, refl, sym, ap, ◌∙◌, arith, append-nil}
use Rattle.l2_runs.specs.Store.{Store}
use Rattle.l2_runs.specs.Loops.{Tests, numbered}
use Rattle.l2_run_laws.specs.Watches.{with_watches}
use Rattle.l2_templates.specs.declared.form.Form.{Form}
use Rattle.l2_templates.specs.declared.form.Row.{Row}
use Rattle.l2_templates.specs.declared.point.LoopPoint.{LoopPoint}
use Rattle.l2_templates.specs.declared.point.LoopPoint.TheVariants as point
use Rattle.l2_code.specs.Trees.{CodeTree}
use Rattle.l2_code.specs.Sets.{Family}
use Rattle.l2_cuts.specs.Points.{point_at, rows_of, row_test, ranks_at, lowers}
use Rattle.l2_cuts.specs.Cuts.{rows_at, watched}
use Rattle.l2_ssa.specs.Walks.{Plain, Rows, Setting}
use Rattle.l2_ssa.specs.Law.{RowsOf, RanksOf, row_holds, row_tests, tests_of, setting_of}
use Rattle.l2_ssa_laws.specs.Events.{IsRowOf, HasRows}
use Rattle.l2_ssa_laws.specs.Rankings as rankings
use Rattle.l2_ssa_laws.specs.Rankings.{Watch, Passing, Ranked, rank_tests, watch_at, watch_of}
use Rattle.l2_ssa_points.specs.Goals.{kind_of, kind_at}
use Rattle.l2_ssa_points.specs.Places.{vars_of}
use Rattle.l2_ssa_points.specs.Meanings.{rows_say, ranks_say}
use Rattle.l2_ssa_points.specs.Law.{IsLoopOver, AreOver, PointsTest}
use Rattle.l2_ssa_points.proofs.Values.{ranks_say_lower}
use Rattle.l2_goal_laws.specs.Fits.{IsLoopOf, AreOf}
use Rattle.l2_goal_laws.specs.Models.{AreLower}

-- ---- points that fit

loop_over : (vars : List ℕ) (p : LoopPoint) → IsLoopOf vars p → IsLoopOver vars p
loop_over vars point.Bottom h = tt
loop_over vars (point.Rows rows) h = λ k d lt. (h k d lt).form.over

pub are_over : (c : CodeTree) (q : List LoopPoint) (ranks : Option (List (List Form))) → AreOf c q ranks → AreOver c q ranks
are_over c q ranks h = record { rows = λ l. loop_over (vars_of c l) (point_at q l) (h.rows l); rankings = λ l k d lt. (h.rankings l k d lt).over }

-- ---- kinds

pub never_plain : (p : LoopPoint) → kind_of p ≡ Plain → ⊥
never_plain point.Bottom e = absurd (cc e)
never_plain (point.Rows rows) e = absurd (cc e)

numbered_length : (n : ℕ) (rows : List Row) → length (numbered n (map row_test rows)) ≡ length rows
numbered_length n [] = refl
numbered_length n (r ∷ rows) = ap suc (numbered_length (suc n) rows)

-- the test behind a loop's rows is none of them
pub behind_last : (p : LoopPoint) → HasRows (kind_of p) → IsRowOf (kind_of p) (length (rows_of p) + 1) → ⊥
behind_last point.Bottom h r = absurd h
behind_last (point.Rows rows) h r = let e = numbered_length 1 rows in let most = r.1 in absurd (omega (arith, e, most))

pub watch_row : (p : LoopPoint) (n : ℕ) → kind_of p ≡ Rows n → length (rows_of p) + 1 ≡ suc n
watch_row point.Bottom n e = absurd (cc e)
watch_row (point.Rows rows) n e = let same : length rows ≡ n = cc in let count = numbered_length 1 rows in omega (arith, same, count)

-- ---- tests

-- a ranking of these forms says what the rankings do
pub forms_lower : (c : CodeTree) (q : List LoopPoint) (r : List (List Form)) → AreOver c q (Some r) → AreLower c (ranks_say (vars_of c) (Some r)) (lowers r)
forms_lower c q r over l a b = ranks_say_lower a b (vars_of c l) (ranks_at r l) (over.rankings l)

-- the loops whose rankings are watched
abbrev pub watched_by : (ℕ → Bool) → ℕ → Watch
watched_by w l = if w l then Ranked else Passing

-- the turns of these loops pass where they are lower, and all those of others
abbrev pub passes_by : (ℕ → Store → Store → Bool) → (ℕ → Bool) → ℕ → Store → Store → Bool
passes_by low w l old new = if w l then low l old new else true

module _ (c : CodeTree) (f : Family) (k : ℕ) (q : List LoopPoint) (ranks : Option (List (List Form))) (over : AreOver c q ranks) (lower : RanksOf) (low : ℕ → Store → Store → Bool) (same : AreLower c lower low) where
  abbrev row : RowsOf
  row = rows_say (vars_of c) q

  abbrev g : Bool → Setting
  g ranked = setting_of c f k (kind_at q) ranked

  same_rows : (l i n : ℕ) → row_tests row (g true) l i n ≡ row_tests row (g false) l i n
  same_rows l i zero = refl
  same_rows l i (suc n) = ap (λ ts. record { row = i; holds = λ (a b : Store). row_holds row (g false) l i b } ∷ ts) (same_rows l (suc i) n)

  rows_alone : (l : ℕ) (p : LoopPoint) → rankings.rows_of row (g true) (kind_of p) l ≡ tests_of row (ranks_say (vars_of c) ranks) (g false) (kind_of p) l
  rows_alone l point.Bottom = refl
  rows_alone l (point.Rows rows) = same_rows l 1 (length rows) ∙ sym (append-nil (row_tests row (g false) l 1 (length rows)))

  -- the rows
  pub rows_tie : PointsTest → rankings.rows_at row (g true) ≡ rows_at q
  rows_tie test = λ j l. (rows_alone l (point_at q l) ∙ ap (λ (t : Tests). t false l) (test c f k q ranks over)) j

  is_lower : (l : ℕ) → rankings.lowers lower (g true) l ≡ low l
  is_lower l = λ j a b. same l a b j

  one_watch : (b : Bool) (l : ℕ) (p : LoopPoint)
      → watch_of lower (g true) (if b then Ranked else Passing) (kind_of p) l ≡ record { row = length (rows_of p) + 1; holds = λ old new. if b then low l old new else true } ∷ []
  one_watch true l point.Bottom = ap (λ h. record { row = 2; holds = h } ∷ []) (is_lower l)
  one_watch true l (point.Rows rows) =
      ap (λ h. record { row = suc (length rows); holds = h } ∷ []) (is_lower l)
      ∙ ap (λ n. record { row = n; holds = low l } ∷ []) (let e = numbered_length 1 rows in omega (arith, e))
  one_watch false l point.Bottom = refl
  one_watch false l (point.Rows rows) = ap (λ n. record { row = n; holds = λ (old new : Store). true } ∷ []) (let e = numbered_length 1 rows in omega (arith, e))

  -- the rows, and behind them the watches
  pub ranks_tie : PointsTest → (w : ℕ → Bool) → rank_tests row lower (g true) (watched_by w) ≡ watched q (passes_by low w)
  ranks_tie test w =
      ap (λ rows. with_watches rows (watch_at lower (g true) (watched_by w))) (rows_tie test)
      ∙ ap (λ ws. with_watches (rows_at q) ws) (λ j l. one_watch (w l) l (point_at q l) j)
