-- What fills rankings is made, and means which turns are asked for.
use Rattle.std.proofs.Common.{◌≡◌, ℕ, Bool, true, false, not, ◌&&◌, ◌||◌, ℤ, List, map, Some, None, refl, ap, ◌∙◌}
use Rattle.std.specs.List.{All}
use Rattle.l2_runs.specs.declared.cells.CellValue.TheVariants.{Number}
use Rattle.l2_runs.specs.Store.{Store}
use Rattle.l2_templates.specs.declared.form.Form.{Form}
use Rattle.l2_templates.specs.declared.point.LoopPoint.{LoopPoint}
use Rattle.l2_cuts.specs.Points.{ranks_at, lowers}
use Rattle.l2_gates.specs.Gates.{Lit, Made, negated, or}
use Rattle.l2_gates.specs.Models.{Sound, Extends, Makes, Gives, both, value}
use Rattle.l2_gates.proofs.Made.{below_up, all_up, negated_below, ext_then, makes_or}
use Rattle.l2_gates.proofs.Values.{negated_value, or_gives}
use Rattle.l2_row_circuits.specs.Rows.{variable_word}
use Rattle.l2_row_circuits.specs.Law.{WordsBelow}
use Rattle.l2_code.specs.Trees.{CodeTree}
use Rattle.l2_code.specs.Modes.{types_of}
use Rattle.l2_ssa.specs.Law.{first_cells}
use Rattle.l2_blast.specs.Words.{Fill}
use Rattle.l2_blast_laws.specs.Law.{IsMade, WordsShow, FillMeans}
use Rattle.l2_ssa_points.specs.Places.{place, vars_of}
use Rattle.l2_ssa_points.specs.Meanings.{rows_say, ranks_say}
use Rattle.l2_ssa_points.specs.Law.{IsFormOver}
use Rattle.l2_ssa_points.proofs.Values.{ranks_say_lower}
use Rattle.l2_goals.specs.Fills.{fill_of}
use Rattle.l2_goal_laws.specs.Fits.{AreOf, IsFormOf}
use Rattle.l2_goal_laws.specs.Filling.{FillsAreMade, FillsMean}
use Rattle.l2_goal_laws.specs.Models.{meaning_with, Fills, AreLower}
use Rattle.l2_turn_engine.specs.Fills.{lower_in, unless_moved, unless_kept, lower_bit_in, moved_bit, kept_bit, moved_fill, kept_fill}

-- ---- what is made

later_words : (m n : Made) (words : List (List Lit)) → Extends m n → WordsBelow m.next words → WordsBelow n.next words
later_words m n words x h = λ i. all_up m.next n.next (variable_word words i) x.grows (h i)

makes_in : (up : Bool) (fill : Fill) → IsMade fill → (l : ℕ) (old new : List (List Lit)) (m : Made) → Sound m → WordsBelow m.next old → WordsBelow m.next new → Makes m (lower_bit_in up fill l old new m)
makes_in true fill h l old new m s o n = h.lower l new old m s n o
makes_in false fill h l old new m s o n = h.lower l old new m s o n

module _ (up : Bool) (longer shorter : Fill) (h : IsMade longer) (k : IsMade shorter) where
  moved_made : (l : ℕ) (old new : List (List Lit)) (m : Made) → Sound m → WordsBelow m.next old → WordsBelow m.next new → Makes m (moved_bit up longer shorter l old new m)
  moved_made l old new m s o n =
      let a = lower_bit_in up longer l old new m in
      let ga = makes_in up longer h l old new m s o n in
      let b = lower_bit_in up shorter l old new a.made in
      let gb = makes_in up shorter k l old new a.made ga.extends.sound (later_words m a.made old ga.extends o) (later_words m a.made new ga.extends n) in
      let g = makes_or b.made gb.extends.sound (negated a.bit) b.bit (negated_below b.made.next a.bit (below_up a.made.next b.made.next a.bit gb.extends.grows ga.bit)) gb.bit in
      record { bit = g.bit; extends = ext_then m b.made (or (negated a.bit) b.bit b.made).made (ext_then m a.made b.made ga.extends gb.extends) g.extends }

module _ (fill : Fill) (h : IsMade fill) where
  kept_made : (l : ℕ) (old new : List (List Lit)) (m : Made) → Sound m → WordsBelow m.next old → WordsBelow m.next new → Makes m (kept_bit fill l old new m)
  kept_made l old new m s o n =
      let a = lower_bit_in false fill l old new m in
      let ga = makes_in false fill h l old new m s o n in
      let b = lower_bit_in true fill l old new a.made in
      let gb = makes_in true fill h l old new a.made ga.extends.sound (later_words m a.made old ga.extends o) (later_words m a.made new ga.extends n) in
      let g = makes_or b.made gb.extends.sound a.bit b.bit (below_up a.made.next b.made.next a.bit gb.extends.grows ga.bit) gb.bit in
      record { bit = g.bit; extends = ext_then m b.made (or a.bit b.bit b.made).made (ext_then m a.made b.made ga.extends gb.extends) g.extends }

-- ---- what it means

not_moved : (a b : Bool) → not (both (not (not a)) (not b)) ≡ not (a && not b)
not_moved true b = refl
not_moved false b = refl

some_moved : (a b : Bool) → not (both (not a) (not b)) ≡ (a || b)
some_moved true b = refl
some_moved false true = refl
some_moved false false = refl

module _ (v : ℕ → Bool) (one : v 0 ≡ true) (c : CodeTree) (q : List LoopPoint) where
  -- lists of forms fill rankings with what they say
  abbrev Means : List (List Form) → Type 0
  Means lists = FillMeans v (fill_of (vars_of c) q (Some lists)) (meaning_with c (rows_say (vars_of c) q) (ranks_say (vars_of c) (Some lists)))

  gives_in : (up : Bool) (lists : List (List Form)) → Means lists → (l : ℕ) (before after : List (List Lit)) (old new : List ℤ) (m : Made) → WordsShow v before old → WordsShow v after new
      → Gives v m (lower_in up (vars_of c) lists l (map Number old) (map Number new)) (lower_bit_in up (fill_of (vars_of c) q (Some lists)) l before after m)
  gives_in true lists h l before after old new m o n = h.lower l after before new old m n o
  gives_in false lists h l before after old new m o n = h.lower l before after old new m o n

  pub moved_gives : (up : Bool) (longer shorter : List (List Form)) → Means longer → Means shorter → (l : ℕ) (before after : List (List Lit)) (old new : List ℤ) (m : Made) → WordsShow v before old → WordsShow v after new
      → Gives v m (unless_moved up (vars_of c) longer shorter l (map Number old) (map Number new)) (moved_bit up (fill_of (vars_of c) q (Some longer)) (fill_of (vars_of c) q (Some shorter)) l before after m)
  moved_gives up longer shorter h k l before after old new m o n = λ ok.
      let a = lower_bit_in up (fill_of (vars_of c) q (Some longer)) l before after m in
      let b = lower_bit_in up (fill_of (vars_of c) q (Some shorter)) l before after a.made in
      let g = or_gives v one (negated a.bit) b.bit b.made ok in
      let gb = gives_in up shorter k l before after old new a.made o n g.before in
      let ga = gives_in up longer h l before after old new m o n gb.before in
      record {
        before = ga.before;
        is = g.is ∙ ap (λ x. not (both (not x) (not (value v b.bit)))) (negated_value v a.bit ∙ ap not ga.is)
            ∙ ap (λ x. not (both (not (not (lower_in up (vars_of c) longer l (map Number old) (map Number new)))) (not x))) gb.is
            ∙ not_moved (lower_in up (vars_of c) longer l (map Number old) (map Number new)) (lower_in up (vars_of c) shorter l (map Number old) (map Number new));
      }

  pub kept_gives : (lists : List (List Form)) → Means lists → (l : ℕ) (before after : List (List Lit)) (old new : List ℤ) (m : Made) → WordsShow v before old → WordsShow v after new
      → Gives v m (unless_kept (vars_of c) lists l (map Number old) (map Number new)) (kept_bit (fill_of (vars_of c) q (Some lists)) l before after m)
  kept_gives lists h l before after old new m o n = λ ok.
      let a = lower_bit_in false (fill_of (vars_of c) q (Some lists)) l before after m in
      let b = lower_bit_in true (fill_of (vars_of c) q (Some lists)) l before after a.made in
      let g = or_gives v one a.bit b.bit b.made ok in
      let gb = gives_in true lists h l before after old new a.made o n g.before in
      let ga = gives_in false lists h l before after old new m o n gb.before in
      record {
        before = ga.before;
        is = g.is ∙ ap (λ x. not (both (not x) (not (value v b.bit)))) ga.is
            ∙ ap (λ x. not (both (not (lower_in false (vars_of c) lists l (map Number old) (map Number new))) (not x))) gb.is
            ∙ some_moved (lower_in false (vars_of c) lists l (map Number old) (map Number new)) (lower_in true (vars_of c) lists l (map Number old) (map Number new));
      }

-- ---- fills

abbrev pub lowers_in : Bool → List (List Form) → ℕ → Store → Store → Bool
lowers_in true lists l a b = lowers lists l b a
lowers_in false lists l a b = lowers lists l a b

abbrev pub moved_low : Bool → List (List Form) → List (List Form) → ℕ → Store → Store → Bool
moved_low up longer shorter l a b = not (lowers_in up longer l a b && not (lowers_in up shorter l a b))

abbrev pub kept_low : List (List Form) → ℕ → Store → Store → Bool
kept_low lists l a b = lowers_in false lists l a b || lowers_in true lists l a b

module _ (made : FillsAreMade) (mean : FillsMean) (c : CodeTree) (q : List LoopPoint) (fit : AreOf c q None) (no_zero : (l : ℕ) → place (vars_of c l) 0 ≡ 0) where
  -- lists of forms over the loops' variables
  abbrev pub AreLists : List (List Form) → Type 0
  AreLists lists = (l : ℕ) → All (IsFormOf (vars_of c l)) (ranks_at lists l)

  lists_mean : (lists : List (List Form)) → AreLists lists → (v : ℕ → Bool) (one : v 0 ≡ true) → Means v one c q lists
  lists_mean lists h v one = mean (types_of c) (vars_of c) q (Some lists) no_zero fit.rows h v one

  rows_mean : (v : ℕ → Bool) → v 0 ≡ true → FillMeans v (fill_of (vars_of c) q None) (meaning_with c (rows_say (vars_of c) q) (ranks_say (vars_of c) None))
  rows_mean v one = mean (types_of c) (vars_of c) q None no_zero fit.rows fit.rankings v one

  pub moved_fills : (up : Bool) (longer shorter : List (List Form)) → AreLists longer → AreLists shorter
      → Fills c (moved_fill up (vars_of c) q longer shorter) (rows_say (vars_of c) q) (unless_moved up (vars_of c) longer shorter)
  moved_fills up longer shorter h k = record {
    made = record {
      row = (made (vars_of c) q None).row;
      lower = moved_made up (fill_of (vars_of c) q (Some longer)) (fill_of (vars_of c) q (Some shorter)) (made (vars_of c) q (Some longer)) (made (vars_of c) q (Some shorter));
    };
    means = λ v one. record {
      row = (rows_mean v one).row;
      lower = moved_gives v one c q up longer shorter (lists_mean longer h v one) (lists_mean shorter k v one);
    };
  }

  pub kept_fills : (lists : List (List Form)) → AreLists lists → Fills c (kept_fill (vars_of c) q lists) (rows_say (vars_of c) q) (unless_kept (vars_of c) lists)
  kept_fills lists h = record {
    made = record {
      row = (made (vars_of c) q None).row;
      lower = kept_made (fill_of (vars_of c) q (Some lists)) (made (vars_of c) q (Some lists));
    };
    means = λ v one. record { row = (rows_mean v one).row; lower = kept_gives v one c q lists (lists_mean lists h v one) };
  }

  -- ---- in stores

  over : (lists : List (List Form)) → AreLists lists → (l : ℕ) → All (IsFormOver (vars_of c l)) (ranks_at lists l)
  over lists h l = λ k d lt. (h l k d lt).over

  in_stores : (up : Bool) (lists : List (List Form)) → AreLists lists → (l : ℕ) (a b : Store) → lower_in up (vars_of c) lists l (first_cells a (vars_of c l)) (first_cells b (vars_of c l)) ≡ lowers_in up lists l a b
  in_stores true lists h l a b = ranks_say_lower b a (vars_of c l) (ranks_at lists l) (over lists h l)
  in_stores false lists h l a b = ranks_say_lower a b (vars_of c l) (ranks_at lists l) (over lists h l)

  pub moved_lower : (up : Bool) (longer shorter : List (List Form)) → AreLists longer → AreLists shorter → AreLower c (unless_moved up (vars_of c) longer shorter) (moved_low up longer shorter)
  moved_lower up longer shorter h k l a b = (λ j. not (in_stores up longer h l a b j && not (in_stores up shorter k l a b j)))

  pub kept_lower : (lists : List (List Form)) → AreLists lists → AreLower c (unless_kept (vars_of c) lists) (kept_low lists)
  kept_lower lists h l a b = (λ j. in_stores false lists h l a b j || in_stores true lists h l a b j)
