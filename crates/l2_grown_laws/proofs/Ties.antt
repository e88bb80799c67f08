-- Back starts and tests of the grown equations are those of the point with a row in front.
use Rattle.std.proofs.Common.{◌≡◌, ℕ, zero, suc, ◌+◌, ◌-◌, ◌≤◌, true, false, ◌&&◌, List, [], ◌∷◌, ◌++◌, length, map, None, Some, refl, sym, ap, ◌∙◌, append-nil, append_assoc, slice_get, arith}
use Rattle.std.specs.List.{All, list_all}
use Rattle.std.proofs.lemmas.List.Elements.{All-nil, All-head, All-tail}
use Rattle.std.proofs.lemmas.Option.{slice_get_past}
use Rattle.l2_runs.specs.Store.{Store}
use Rattle.l2_runs.specs.Loops.{numbered}
use Rattle.l2_run_laws.specs.Watches.{alone}
use Rattle.l2_templates.specs.declared.form.Row.{Row}
use Rattle.l2_templates.specs.declared.point.LoopPoint.{LoopPoint}
use Rattle.l2_templates.specs.declared.point.LoopPoint.TheVariants.{Bottom, Rows}
use Rattle.l2_templates.specs.Forms.{row_holds}
use Rattle.l2_templates.specs.Points.{holds}
use Rattle.l2_code.specs.Trees.{CodeTree}
use Rattle.l2_code.specs.Sets.{Family}
use Rattle.l2_code.specs.Modes.{Cut, limit_of}
use Rattle.l2_cuts.specs.Points.{point_at, row_test, values_of, starts as point_starts}
use Rattle.l2_cut_code.specs.Limits.{point_limit}
use Rattle.l2_renumber_laws.specs.Fronted.{has_rows, its_rows, always, fronted}
use Rattle.l2_ssa.specs.Walks.{Setting}
use Rattle.l2_ssa.specs.Law.{RowsOf, RanksOf, setting_of, first_cells, row_tests, rows_hold, rank_test, starts, tests}
use Rattle.l2_ssa_points.specs.Places.{vars_of, row_in, or_no_row, placed_row}
use Rattle.l2_ssa_points.specs.Meanings.{numbers_in}
use Rattle.l2_ssa_points.specs.Law.{AreOver, IsFormOver, IsLoopOver}
use Rattle.l2_ssa_points.proofs.Values.{row_says}
use Rattle.l2_grown_laws.specs.Grown.{grown_kind, grown_rows, HasRoom}

-- the row behind others
row_behind : (done : List Row) (row : Row) (rest : List Row) → slice_get (done ++ row ∷ rest) (length done) ≡ Some row
row_behind [] row rest = refl
row_behind (r ∷ done) row rest = row_behind done row rest

longer : (done : List Row) (row : Row) → length (done ++ row ∷ []) ≡ suc (length done)
longer [] row = refl
longer (r ∷ done) row = ap suc (longer done row)

row_in_is : (x : LoopPoint) (i : ℕ) → row_in x (suc i) ≡ or_no_row (slice_get (its_rows x) i)
row_in_is Bottom i = refl
row_in_is (Rows rows) i = refl

its_over : (vars : List ℕ) (x : LoopPoint) → IsLoopOver vars x → All (λ (r : Row). IsFormOver vars r.form) (its_rows x)
its_over vars Bottom h = All-nil (λ (r : Row). IsFormOver vars r.form)
its_over vars (Rows rows) h = h

module _ (c : CodeTree) (f : Family) (k : ℕ) (counts : ℕ → ℕ) (q : List LoopPoint) (l : ℕ) where
  abbrev vars : List ℕ
  vars = vars_of c l

  abbrev g : Setting
  g = setting_of c f k (grown_kind counts) false

  abbrev row : RowsOf
  row = grown_rows (vars_of c) q

  abbrev its : List Row
  its = its_rows (point_at q l)

  -- the row of an index
  row_at : (i : ℕ) (store : Store) → row l (suc (suc i)) (first_cells store vars) ≡ row_holds (placed_row vars (or_no_row (slice_get its i))) (numbers_in (first_cells store vars))
  row_at i store = ap (λ r. row_holds (placed_row vars r) (numbers_in (first_cells store vars))) (row_in_is (point_at q l) i)

  row_there : (done : List Row) (r : Row) (rest : List Row) → its ≡ done ++ r ∷ rest → IsFormOver vars r.form → (store : Store) → row l (suc (suc (length done))) (first_cells store vars) ≡ row_holds r (values_of store)
  row_there done r rest e h store =
      row_at (length done) store
      ∙ ap (λ o. row_holds (placed_row vars (or_no_row o)) (numbers_in (first_cells store vars))) (ap (λ rs. slice_get rs (length done)) e ∙ row_behind done r rest)
      ∙ row_says store vars r h

  row_past : (i : ℕ) → length its ≤ i → (store : Store) → row l (suc (suc i)) (first_cells store vars) ≡ true
  row_past i h store = row_at i store ∙ ap (λ o. row_holds (placed_row vars (or_no_row o)) (numbers_in (first_cells store vars))) (slice_get_past its i h)

  all_past : (i n : ℕ) → length its ≤ i → (store : Store) → rows_hold row g l (suc (suc i)) n store ≡ true
  all_past i zero h store = refl
  all_past i (suc n) h store = (λ j. row_past i h store j && all_past (suc i) n (omega (arith, h)) store j)

  tests_past : (i n : ℕ) → length its ≤ i → row_tests row g l (suc (suc i)) n ≡ numbered (suc (suc i)) (always n)
  tests_past i zero h = refl
  tests_past i (suc n) h = (λ j. record { row = suc (suc i); holds = λ a b. row_past i h b j } ∷ tests_past (suc i) n (omega (arith, h)) j)

  first_over : (r : Row) (rest : List Row) → All (λ (x : Row). IsFormOver vars x.form) (r ∷ rest) → IsFormOver vars r.form
  first_over r rest h = All-head (λ (x : Row). IsFormOver vars x.form) r rest h

  rest_over : (r : Row) (rest : List Row) → All (λ (x : Row). IsFormOver vars x.form) (r ∷ rest) → All (λ (x : Row). IsFormOver vars x.form) rest
  rest_over r rest h = All-tail (λ (x : Row). IsFormOver vars x.form) r rest h

  all_done : (done : List Row) → its ≡ done ++ [] → length its ≤ length done
  all_done done e = let k : length its ≡ length done = ap length (e ∙ append-nil done) in omega (arith, k)

  holding : (done rest : List Row) (n : ℕ) → its ≡ done ++ rest → length rest ≤ n → All (λ (r : Row). IsFormOver vars r.form) rest → (store : Store)
      → rows_hold row g l (suc (suc (length done))) n store ≡ list_all (λ r. row_holds r (values_of store)) rest
  holding done [] n e room h store = all_past (length done) n (all_done done e) store
  holding done (r ∷ rest) zero e room h store = absurd (omega (arith, room))
  holding done (r ∷ rest) (suc n) e room h store =
      let shift : its ≡ (done ++ r ∷ []) ++ rest = e ∙ sym (append_assoc done (r ∷ []) rest) in
      ap (λ b. b && rows_hold row g l (suc (suc (suc (length done)))) n store) (row_there done r rest e (first_over r rest h) store)
      ∙ ap (λ m. row_holds r (values_of store) && rows_hold row g l (suc (suc m)) n store) (sym (longer done r))
      ∙ ap (λ b. row_holds r (values_of store) && b) (holding (done ++ r ∷ []) rest n shift (omega (arith, room)) (rest_over r rest h) store)

  testing : (done rest : List Row) (n more : ℕ) → its ≡ done ++ rest → n ≡ length rest + more → All (λ (r : Row). IsFormOver vars r.form) rest
      → row_tests row g l (suc (suc (length done))) n ≡ numbered (suc (suc (length done))) (map row_test rest ++ always more)
  testing done [] n more e room h =
      let same : n ≡ more = omega (arith, room) in
      tests_past (length done) n (all_done done e) ∙ ap (λ m. numbered (suc (suc (length done))) (always m)) same
  testing done (r ∷ rest) zero more e room h = absurd (omega (arith, room))
  testing done (r ∷ rest) (suc n) more e room h =
      let shift : its ≡ (done ++ r ∷ []) ++ rest = e ∙ sym (append_assoc done (r ∷ []) rest) in
      let same : (λ (a b : Store). row l (suc (suc (length done))) (first_cells b vars)) ≡ row_test r = λ i a b. row_there done r rest e (first_over r rest h) b i in
      ap (λ t. record { row = suc (suc (length done)); holds = t } ∷ row_tests row g l (suc (suc (suc (length done)))) n) same
      ∙ ap (λ m. record { row = suc (suc (length done)); holds = row_test r } ∷ row_tests row g l (suc (suc m)) n) (sym (longer done r))
      ∙ ap (λ ts. record { row = suc (suc (length done)); holds = row_test r } ∷ ts) (testing (done ++ r ∷ []) rest n more shift (omega (arith, room)) (rest_over r rest h))
      ∙ ap (λ m. record { row = suc (suc (length done)); holds = row_test r } ∷ numbered (suc (suc m)) (map row_test rest ++ always more)) (longer done r)

  start_is : (x : LoopPoint) (store : Store) → (has_rows x && list_all (λ r. row_holds r (values_of store)) (its_rows x)) ≡ holds x (values_of store)
  start_is Bottom store = refl
  start_is (Rows rows) store = refl

  start_tie : AreOver c q None → HasRoom counts q → (store : Store) → starts row g l store ≡ point_starts q l store
  start_tie over room store =
      ap (λ b. has_rows (point_at q l) && b) (holding [] its (counts l) refl (room l) (its_over vars (point_at q l) (over.rows l)) store) ∙ start_is (point_at q l) store

  abbrev more : ℕ
  more = counts l - length its

  tests_tie : AreOver c q None → HasRoom counts q → (lower : RanksOf) → row_tests row g l 1 (suc (counts l)) ++ rank_test lower g false l (suc (suc (counts l))) ≡ fronted (point_at q l) more
  tests_tie over room lower =
      append-nil (row_tests row g l 1 (suc (counts l)))
      ∙ ap (λ ts. record { row = 1; holds = λ a b. has_rows (point_at q l) } ∷ ts) (testing [] its (counts l) more refl (let r = room l in omega (arith, r)) (its_over vars (point_at q l) (over.rows l)))

module _ (c : CodeTree) (f : Family) (k : ℕ) (counts : ℕ → ℕ) (q : List LoopPoint) (over : AreOver c q None) (room : HasRoom counts q) where
  pub limit_same : limit_of c f (Cut k (starts (grown_rows (vars_of c) q) (setting_of c f k (grown_kind counts) false))) ≡ point_limit c f k q
  limit_same = ap (λ s. limit_of c f (Cut k s)) (λ i l store. start_tie c f k counts q l over room store i)

  pub tests_same : (lower : RanksOf) → tests (grown_rows (vars_of c) q) lower (setting_of c f k (grown_kind counts) false) ≡ alone (λ l. fronted (point_at q l) (counts l - length (its_rows (point_at q l))))
  tests_same lower = λ i counted l. tests_tie c f k counts q l over room lower i
