-- Formulas of a program's code tell of the turns of its loops.
use Rattle.std.proofs.Common.{◌≡◌, ℕ, suc, ◌+◌, ◌==◌, ◌<◌, ◌≤◌, Bool, true, false, not, ◌&&◌, ◌||◌, if◌then◌else◌, ℤ, List, [], ◌∷◌, ◌++◌, length, None, refl, sym, ap, ◌∙◌, subst, arith}
use Rattle.std.specs.Prelude.{◌↔◌}
use Rattle.std.specs.List.{All}
use Rattle.std.proofs.lemmas.List.{length-append, get_or_append_left}
use Rattle.std.proofs.lemmas.Bool.Decides.{nat_tests}
use Rattle.l2_runs.specs.Store.{Store}
use Rattle.l2_runs.specs.Runs.{Fallen}
use Rattle.l2_templates.specs.declared.form.Form.{Form}
use Rattle.l2_templates.specs.declared.point.LoopPoint.{LoopPoint}
use Rattle.l2_templates.specs.declared.point.LoopPoint.TheVariants.{Bottom, Rows}
use Rattle.l2_templates.specs.Forms.{lower_than}
use Rattle.l2_program.specs.Programs.{ProgramTree}
use Rattle.l2_meaning.specs.Lawful.{IsLawful}
use Rattle.l2_cuts.specs.Points.{point_at, ranks_at, values_of}
use Rattle.l2_cuts.specs.Cuts.{rows_at, watched, cut_end}
use Rattle.l2_cuts.specs.Rankings.{unless_so, keep_all, SomeTurn}
use Rattle.l2_rank_laws.specs.Moves.{moves, SomeMove, SomeStay}
use Rattle.l2_code.specs.Trees.{CodeTree}
use Rattle.l2_code.specs.Sets.{Family, IsResolved, family}
use Rattle.l2_code.specs.WellFormed.{IsWellFormed}
use Rattle.l2_lower.specs.Code.{code}
use Rattle.l2_labels.specs.Labels.{one_label}
use Rattle.l2_ssa.specs.Walks.{RankGoal}
use Rattle.l2_ssa.specs.Law.{RanksOf, ssa}
use Rattle.l2_ssa_laws.specs.Events.{HasRows}
use Rattle.l2_ssa_points.specs.Goals.{kind_of, kind_at}
use Rattle.l2_ssa_points.specs.Places.{vars_of, place}
use Rattle.l2_ssa_points.specs.Meanings.{rows_say}
use Rattle.l2_blast.specs.Words.{Fill}
use Rattle.l2_goals.specs.declared.making.Goals.{Goals}
use Rattle.l2_goals.specs.Formulas.{formulas_with}
use Rattle.l2_goals.specs.Kept.{kept_kinds}
use Rattle.l2_goals.specs.Numbers.{AreFormulas}
use Rattle.l2_goal_laws.specs.Fits.{AreOf, IsFormOf}
use Rattle.l2_goal_laws.specs.Filling.{FillsAreMade, FillsMean}
use Rattle.l2_goal_laws.specs.Models.{Fills, AreLower, HasModel}
use Rattle.l2_goal_laws.specs.Law.{passes_one, TurnsAreRuns}
use Rattle.l2_goal_laws.proofs.Sizes.{no_zero}
use Rattle.l2_missed.specs.Meeting.{IsMet}
use Rattle.l2_turn_engine.specs.Lists.{only_at, rank_count, rank_index}
use Rattle.l2_turn_engine.specs.Fills.{moved_fill, kept_fill, unless_moved, unless_kept}
use Rattle.l2_turn_engine.specs.Telling.{AreFilled, MovesTell, StaysTell}
use Rattle.l2_turn_engine.proofs.Turning.{falls_is, rises_is, stays_is, only_here, only_all}
use Rattle.l2_turn_engine.proofs.Filled.{moved_low, kept_low, moved_fills, kept_fills, moved_lower, kept_lower}
use Rattle.l2_turn_engine.proofs.Numbered.{index_within, met_is}

-- what lower crates say
pub record Laws : Type 0 where
  pub turns : TurnsAreRuns
  pub made : FillsAreMade
  pub mean : FillsMean
  pub well_formed : (p : ProgramTree) → IsLawful p → IsWellFormed (code p)

has_rows : (p : LoopPoint) → 1 ≤ rank_count p → HasRows (kind_of p)
has_rows Bottom h = absurd (omega (arith, h))
has_rows (Rows rows) h = tt

-- what isn't lower is what is asked for, of this loop alone
passes_unless : (low : ℕ → Store → Store → Bool) (l : ℕ) (so : Store → Store → Bool) → ((a b : Store) → low l a b ≡ not (so a b)) → passes_one low l ≡ unless_so l so
passes_unless low l so same = λ j m a b. go m a b (m == l) refl j
  where
    equal : (m : ℕ) → (m == l) ≡ true → m ≡ l
    equal m e = grind (arith, nat_tests)

    go : (m : ℕ) (a b : Store) (x : Bool) → (m == l) ≡ x → (if x then low m a b else true) ≡ (if x then not (so a b) else true)
    go m a b true e = ap (λ n. low n a b) (equal m e) ∙ same a b
    go m a b false e = refl

module _ (w : Laws) (p : ProgramTree) (lawful : IsLawful p) (f : Family) (resolved : IsResolved (code p) f) (k : ℕ) (some : 1 ≤ k) (q : List LoopPoint) (fit : AreOf (code p) q None) (i : ℕ) (within : i < length q) (ranked : 1 ≤ rank_count (point_at q (suc i))) where
  abbrev c : CodeTree
  c = one_label (code p)

  vars_some : (l : ℕ) → place (vars_of (code p) l) 0 ≡ 0
  vars_some = no_zero (code p) (w.well_formed p lawful)

  fitting : AreOf c q None
  fitting = record { loops = fit.loops; rows = fit.rows; rankings = fit.rankings }

  -- a goal of this fill is met exactly where some turn is so
  tells : (fill : Fill) (lower : RanksOf) (low : ℕ → Store → Store → Bool) → AreLower c lower low → Fills c fill (rows_say (vars_of c) q) lower
      → (so : Store → Store → Bool) → ((a b : Store) → low (suc i) a b ≡ not (so a b)) → (g : Goals) → AreFormulas g (formulas_with (code p) f k (kept_kinds q) true fill)
      → (rank_index q i < length g.last) × (IsMet g.base g.last (rank_index q i) ↔ SomeTurn p f.object k q (suc i) so)
  tells fill lower low same filled so is g are =
      let model = w.turns p lawful f resolved k some q fit fill lower low same filled (suc i) (has_rows (point_at q (suc i)) ranked) in
      let met = met_is c f k q fill g are i within ranked in
      let turns : ((choices : List ℤ) × (cut_end p f.object k q (watched q (passes_one low (suc i))) choices ≡ Fallen (suc i) (length (rows_at q (suc i)) + 1))) ≡ SomeTurn p f.object k q (suc i) so =
      (λ j. (choices : List ℤ) × (cut_end p f.object k q (watched q (passes_unless low (suc i) so is j)) choices ≡ Fallen (suc i) (length (rows_at q (suc i)) + 1))) in
      let both = subst (λ (X : Type 0). HasModel c fill (ssa c f k (kind_at q) true) (RankGoal (suc i)) ↔ X) turns model in
      (index_within c f k q fill g are i within ranked, (λ m. both.0 (met.0 m), λ x. met.1 (both.1 x)))

  none_listed : (l : ℕ) → All (IsFormOf (vars_of c l)) []
  none_listed l k d lt = absurd (omega (arith, lt))

  are_lists : (fs : List Form) → All (IsFormOf (vars_of (code p) (suc i))) fs → (l : ℕ) → All (IsFormOf (vars_of c l)) (ranks_at (only_at i fs) l)
  are_lists fs h l = only_all (λ m gs. All (IsFormOf (vars_of c m)) gs) none_listed i fs h l

  first_of : (fs : List Form) (f : Form) → All (IsFormOf (vars_of (code p) (suc i))) (fs ++ f ∷ []) → All (IsFormOf (vars_of (code p) (suc i))) fs
  first_of fs f h = λ n d lt.
      let long = length-append fs (f ∷ []) in
      subst (IsFormOf (vars_of (code p) (suc i))) (get_or_append_left fs (f ∷ []) d n lt) (h n d (omega (arith, lt, long)))

  moved_so : (up : Bool) (fs : List Form) (f : Form) (a b : Store) → moved_low up (only_at i (fs ++ f ∷ [])) (only_at i fs) (suc i) a b ≡ not (keep_all fs a b && moves up f a b)
  moved_so true fs f a b =
      (λ j. not (lower_than (only_here i (fs ++ f ∷ []) j) (values_of b) (values_of a) && not (lower_than (only_here i fs j) (values_of b) (values_of a)))) ∙ ap not (rises_is fs f a b)
  moved_so false fs f a b =
      (λ j. not (lower_than (only_here i (fs ++ f ∷ []) j) (values_of a) (values_of b) && not (lower_than (only_here i fs j) (values_of a) (values_of b)))) ∙ ap not (falls_is fs f a b)

  kept_so : (fs : List Form) (a b : Store) → kept_low (only_at i fs) (suc i) a b ≡ not (keep_all fs a b)
  kept_so fs a b = (λ j. lower_than (only_here i fs j) (values_of a) (values_of b) || lower_than (only_here i fs j) (values_of b) (values_of a)) ∙ stays_is fs a b

  moved_tells : (fs : List Form) (f' : Form) → All (IsFormOf (vars_of (code p) (suc i))) (fs ++ f' ∷ []) → (up : Bool) → (g : Goals)
      → AreFormulas g (formulas_with (code p) f k (kept_kinds q) true (moved_fill up (vars_of (code p)) q (only_at i (fs ++ f' ∷ [])) (only_at i fs)))
      → (rank_index q i < length g.last) × (IsMet g.base g.last (rank_index q i) ↔ SomeMove p f.object k q (suc i) fs f' up)
  moved_tells fs f' over up g are =
      let longer = only_at i (fs ++ f' ∷ []) in
      let shorter = only_at i fs in
      let h = are_lists (fs ++ f' ∷ []) over in
      let t = are_lists fs (first_of fs f' over) in
      tells (moved_fill up (vars_of c) q longer shorter) (unless_moved up (vars_of c) longer shorter) (moved_low up longer shorter)
      (moved_lower w.made w.mean c q fitting vars_some up longer shorter h t) (moved_fills w.made w.mean c q fitting vars_some up longer shorter h t)
      (λ a b. keep_all fs a b && moves up f' a b) (moved_so up fs f') g are

  kept_tells : (fs : List Form) → All (IsFormOf (vars_of (code p) (suc i))) fs → (g : Goals)
      → AreFormulas g (formulas_with (code p) f k (kept_kinds q) true (kept_fill (vars_of (code p)) q (only_at i fs)))
      → (rank_index q i < length g.last) × (IsMet g.base g.last (rank_index q i) ↔ SomeStay p f.object k q (suc i) fs)
  kept_tells fs over g are =
      let lists = only_at i fs in
      let h = are_lists fs over in
      tells (kept_fill (vars_of c) q lists) (unless_kept (vars_of c) lists) (kept_low lists)
      (kept_lower w.made w.mean c q fitting vars_some lists h) (kept_fills w.made w.mean c q fitting vars_some lists h)
      (keep_all fs) (kept_so fs) g are

pub moves_tell : Laws → MovesTell
moves_tell w p c s b k some q =
    subst (λ (x : CodeTree). AreOf x q None → (i : ℕ) → i < length q → 1 ≤ rank_count (point_at q (suc i)) → (fs : List Form) (f : Form) → All (IsFormOf (vars_of x (suc i))) (fs ++ f ∷ []) → (up : Bool) → (g : Goals) → AreFilled x s k q (moved_fill up (vars_of x) q (only_at i (fs ++ f ∷ [])) (only_at i fs)) g → (rank_index q i < length g.last) × (IsMet g.base g.last (rank_index q i) ↔ SomeMove p (family s).object k q (suc i) fs f up)) (sym b.is_code)
    (λ fit i within ranked fs f over up g are. moved_tells w p b.lawful (family s) (subst (λ x. IsResolved x (family s)) b.is_code b.resolved) k some q fit i within ranked fs f over up g are)

pub stays_tell : Laws → StaysTell
stays_tell w p c s b k some q =
    subst (λ (x : CodeTree). AreOf x q None → (i : ℕ) → i < length q → 1 ≤ rank_count (point_at q (suc i)) → (fs : List Form) → All (IsFormOf (vars_of x (suc i))) fs → (g : Goals) → AreFilled x s k q (kept_fill (vars_of x) q (only_at i fs)) g → (rank_index q i < length g.last) × (IsMet g.base g.last (rank_index q i) ↔ SomeStay p (family s).object k q (suc i) fs)) (sym b.is_code)
    (λ fit i within ranked fs over g are. kept_tells w p b.lawful (family s) (subst (λ x. IsResolved x (family s)) b.is_code b.resolved) k some q fit i within ranked fs over g are)
