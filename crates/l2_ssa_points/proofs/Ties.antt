-- Tests and back starts of equations are those of the point.
use Rattle.std.proofs.Common.{◌≡◌, ℕ, suc, Bool, false, ◌&&◌, List, [], ◌∷◌, ◌++◌, length, map, Option, Some, refl, sym, ap, ◌∙◌, append-nil, append_assoc, slice_get}
use Rattle.std.specs.List.{All, list_all}
use Rattle.std.proofs.lemmas.List.Elements.{All-head, All-tail}
use Rattle.l2_runs.specs.Numbers.{at_number}
use Rattle.l2_runs.specs.Store.{Store}
use Rattle.l2_runs.specs.Loops.{numbered}
use Rattle.l2_templates.specs.declared.form.Form.{Form}
use Rattle.l2_templates.specs.declared.form.Row.{Row}
use Rattle.l2_templates.specs.declared.point.LoopPoint.{LoopPoint}
use Rattle.l2_templates.specs.declared.point.LoopPoint.TheVariants.{Bottom, Rows}
use Rattle.l2_templates.specs.Forms.{row_holds}
use Rattle.l2_templates.specs.Points.{holds}
use Rattle.l2_code.specs.Trees.{CodeTree}
use Rattle.l2_code.specs.Sets.{Family}
use Rattle.l2_code.specs.Modes.{Cut, limit_of}
use Rattle.l2_cuts.specs.Points.{point_at, row_test, rows_of, values_of}
use Rattle.l2_ssa.specs.Walks.{Setting}
use Rattle.l2_ssa.specs.Law.{RowsOf, RanksOf, setting_of, first_cells, row_tests, rows_hold, tests_of, starts_of, rank_test}
use Rattle.l2_ssa_points.specs.Goals.{kind_of, kind_at}
use Rattle.l2_ssa_points.specs.Places.{vars_of, row_in, or_no_row, placed_row}
use Rattle.l2_ssa_points.specs.Meanings.{numbers_in, rows_say, ranks_say}
use Rattle.l2_ssa_points.specs.Law as law
use Rattle.l2_ssa_points.specs.Law.{AreOver, IsFormOver, IsLoopOver}
use Rattle.l2_ssa_points.proofs.Values.{row_says}

-- the row behind others
row_behind : (done : List Row) (row : Row) (rest : List Row) → slice_get (done ++ row ∷ rest) (length done) ≡ Some row
row_behind [] row rest = refl
row_behind (r ∷ done) row rest = row_behind done row rest

longer : (done : List Row) (row : Row) → length (done ++ row ∷ []) ≡ suc (length done)
longer [] row = refl
longer (r ∷ done) row = ap suc (longer done row)

-- whether the point's rows hold in a store
abbrev holds_of : LoopPoint → Store → Bool
holds_of p store = holds p (values_of store)

module _ (c : CodeTree) (f : Family) (k : ℕ) (q : List LoopPoint) (ranks : Option (List (List Form))) (rk : Bool) (l : ℕ) where
  abbrev vars : List ℕ
  vars = vars_of c l

  abbrev g : Setting
  g = setting_of c f k (kind_at q) rk

  abbrev row : RowsOf
  row = rows_say (vars_of c) q

  abbrev lower : RanksOf
  lower = ranks_say (vars_of c) ranks

  first_over : (r : Row) (rest : List Row) → All (λ (x : Row). IsFormOver vars x.form) (r ∷ rest) → IsFormOver vars r.form
  first_over r rest h = All-head (λ (x : Row). IsFormOver vars x.form) r rest h

  rest_over : (r : Row) (rest : List Row) → All (λ (x : Row). IsFormOver vars x.form) (r ∷ rest) → All (λ (x : Row). IsFormOver vars x.form) rest
  rest_over r rest h = All-tail (λ (x : Row). IsFormOver vars x.form) r rest h

  -- row i of these rows
  one_row : (rows : List Row) (i : ℕ) (r : Row) → point_at q l ≡ Rows rows → at_number rows i ≡ Some r → IsFormOver vars r.form → (store : Store) → row l i (first_cells store vars) ≡ row_holds r (values_of store)
  one_row rows i r e at h store =
      ap (λ p. row_holds (placed_row vars (row_in p i)) (numbers_in (first_cells store vars))) e
      ∙ ap (λ o. row_holds (placed_row vars (or_no_row o)) (numbers_in (first_cells store vars))) at
      ∙ row_says store vars r h

  holding : (rows done rest : List Row) → point_at q l ≡ Rows rows → done ++ rest ≡ rows → All (λ (r : Row). IsFormOver vars r.form) rest → (store : Store)
      → rows_hold row g l (suc (length done)) (length rest) store ≡ list_all (λ r. row_holds r (values_of store)) rest
  holding rows done [] e is h store = refl
  holding rows done (r ∷ rest) e is h store =
      let at : at_number rows (suc (length done)) ≡ Some r = ap (λ xs. slice_get xs (length done)) (sym is) ∙ row_behind done r rest in
      let shift : (done ++ r ∷ []) ++ rest ≡ rows = append_assoc done (r ∷ []) rest ∙ is in
      let count : length (done ++ r ∷ []) ≡ suc (length done) = longer done r in
      ap (λ b. b && rows_hold row g l (suc (suc (length done))) (length rest) store) (one_row rows (suc (length done)) r e at (first_over r rest h) store)
      ∙ ap (λ n. row_holds r (values_of store) && rows_hold row g l (suc n) (length rest) store) (sym count)
      ∙ ap (λ b. row_holds r (values_of store) && b) (holding rows (done ++ r ∷ []) rest e shift (rest_over r rest h) store)

  testing : (rows done rest : List Row) → point_at q l ≡ Rows rows → done ++ rest ≡ rows → All (λ (r : Row). IsFormOver vars r.form) rest
      → row_tests row g l (suc (length done)) (length rest) ≡ numbered (suc (length done)) (map row_test rest)
  testing rows done [] e is h = refl
  testing rows done (r ∷ rest) e is h =
      let at : at_number rows (suc (length done)) ≡ Some r = ap (λ xs. slice_get xs (length done)) (sym is) ∙ row_behind done r rest in
      let shift : (done ++ r ∷ []) ++ rest ≡ rows = append_assoc done (r ∷ []) rest ∙ is in
      let count : length (done ++ r ∷ []) ≡ suc (length done) = longer done r in
      let same : (λ (a b : Store). row l (suc (length done)) (first_cells b vars)) ≡ row_test r = λ i a b. one_row rows (suc (length done)) r e at (first_over r rest h) b i in
      ap (λ t. record { row = suc (length done); holds = t } ∷ row_tests row g l (suc (suc (length done))) (length rest)) same
      ∙ ap (λ n. record { row = suc (length done); holds = row_test r } ∷ row_tests row g l (suc n) (length rest)) (sym count)
      ∙ ap (λ ts. record { row = suc (length done); holds = row_test r } ∷ ts) (testing rows (done ++ r ∷ []) rest e shift (rest_over r rest h))
      ∙ ap (λ n. record { row = suc (length done); holds = row_test r } ∷ numbered (suc n) (map row_test rest)) count

  starting : (p : LoopPoint) → point_at q l ≡ p → IsLoopOver vars p → (store : Store) → starts_of row g (kind_of p) l store ≡ holds_of p store
  starting Bottom e h store = refl
  starting (Rows rows) e h store = holding rows [] rows e refl h store

  testing_loop : rk ≡ false → (p : LoopPoint) → point_at q l ≡ p → IsLoopOver vars p → tests_of row lower g (kind_of p) l ≡ rows_of p
  testing_loop none Bottom e h = refl
  testing_loop none (Rows rows) e h =
      ap (λ b. row_tests row g l 1 (length rows) ++ rank_test lower g b l (suc (length rows))) none
      ∙ append-nil (row_tests row g l 1 (length rows))
      ∙ testing rows [] rows e refl h

pub points_start : law.PointsStart
points_start c f k q ranks over rk = ap (λ s. limit_of c f (Cut k s)) (λ i l store. starting c f k q ranks rk l (point_at q l) refl (over.rows l) store i)

pub points_test : law.PointsTest
points_test c f k q ranks over = λ i counted l. testing_loop c f k q ranks false l refl (point_at q l) refl (over.rows l) i
