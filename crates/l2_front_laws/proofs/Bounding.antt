-- Points without the rows that have no bound.
use Rattle.std.proofs.Common.{◌≡◌, ◌↔◌, ℕ, zero, suc, ◌+◌, ℤ, Bool, true, false, List, [], ◌∷◌, length, map, Option, Some, None, refl, sym, ap, ◌∙◌, subst, slice_get, if◌then◌else◌, arith}
use Rattle.std.specs.Prelude.{◌&&◌, is_some}
use Rattle.std.specs.List.{list_all}
use Rattle.l2_runs.specs.declared.member.Member.{Member}
use Rattle.l2_runs.specs.Store.{Store}
use Rattle.l2_runs.specs.Runs.{End, Over, Fallen}
use Rattle.l2_runs.specs.Loops.{Limit, numbered}
use Rattle.l2_run_laws.specs.Watches.{alone}
use Rattle.l2_program.specs.Programs.{ProgramTree}
use Rattle.l2_templates.specs.declared.form.Row.{Row}
use Rattle.l2_templates.specs.declared.point.LoopPoint.{LoopPoint}
use Rattle.l2_templates.specs.declared.point.LoopPoint.TheVariants.{Bottom, Rows}
use Rattle.l2_templates.specs.Forms.{row_value, row_holds, is_within}
use Rattle.l2_templates.specs.Points.{holds, bounded, bounded_loop}
use Rattle.l2_templates.specs.Rows.{bounded_rows}
use Rattle.l2_meaning.specs.Execution.{exec, IsBroken}
use Rattle.l2_cuts.specs.Points.{or_bottom, point_at, row_test, rows_of, starts, values_of}
use Rattle.l2_cuts.specs.Cuts.{cut_end, row_end, rows_at, watch, watched, IsFallen, Infers, Proves, TurnsPass}
use Rattle.l2_renumber_laws.specs.Renumbered.{AreRenumbered, nothing, same, extra, renumbered_end}
use Rattle.l2_renumber_laws.proofs.Trees.{renumbering}
use Rattle.l2_front_laws.specs.Bounded.{behind_row, index_of_bounded, number_of_bounded}
use Rattle.l2_front_laws.proofs.Points.{limit_same, identical, appended}

-- ---- points

bounded_at : (q : List LoopPoint) (n : ℕ) → or_bottom (slice_get (map bounded_loop q) n) ≡ bounded_loop (or_bottom (slice_get q n))
bounded_at [] n = refl
bounded_at (x ∷ q) zero = refl
bounded_at (x ∷ q) (suc n) = bounded_at q n

pub point_bounded : (q : List LoopPoint) (l : ℕ) → point_at (bounded q) l ≡ bounded_loop (point_at q l)
point_bounded q zero = refl
point_bounded q (suc n) = bounded_at q n

hold_bounded : (values : List ℤ) (rows : List Row) → list_all (λ row. row_holds row values) (bounded_rows rows) ≡ list_all (λ row. row_holds row values) rows
hold_bounded values [] = refl
hold_bounded values (r ∷ rows) = go r.bound refl (hold_bounded values rows)
  where
    go : (o : Option ℤ) → r.bound ≡ o → list_all (λ row. row_holds row values) (bounded_rows rows) ≡ list_all (λ row. row_holds row values) rows
        → list_all (λ row. row_holds row values) (if is_some r.bound then r ∷ bounded_rows rows else bounded_rows rows) ≡ (is_within r.bound (row_value r.form values) && list_all (λ row. row_holds row values) rows)
    go None e h =
        ap (λ o. list_all (λ row. row_holds row values) (if is_some o then r ∷ bounded_rows rows else bounded_rows rows)) e
        ∙ h
        ∙ sym (ap (λ o. is_within o (row_value r.form values) && list_all (λ row. row_holds row values) rows) e)
    go (Some b) e h =
        ap (λ o. list_all (λ row. row_holds row values) (if is_some o then r ∷ bounded_rows rows else bounded_rows rows)) e
        ∙ ap (λ t. is_within r.bound (row_value r.form values) && t) h

holds_bounded : (x : LoopPoint) (values : List ℤ) → holds (bounded_loop x) values ≡ holds x values
holds_bounded Bottom values = refl
holds_bounded (Rows rows) values = hold_bounded values rows

pub start_bounded : (q : List LoopPoint) (l : ℕ) (st : Store) → starts (bounded q) l st ≡ starts q l st
start_bounded q l st = ap (λ x. holds x (values_of st)) (point_bounded q l) ∙ holds_bounded (point_at q l) (values_of st)

-- ---- tests

kept : (number : ℕ → ℕ) (rows : List Row) (n m : ℕ) → ((i : ℕ) → number (n + i) ≡ m + index_of_bounded rows i) → AreRenumbered number (numbered n (map row_test (bounded_rows rows))) (numbered m (map row_test rows))
kept number [] n m f = nothing
kept number (r ∷ rows) n m f = go r.bound refl (λ n m. kept number rows n m)
  where
    go : (o : Option ℤ) → r.bound ≡ o → ((n m : ℕ) → ((i : ℕ) → number (n + i) ≡ m + index_of_bounded rows i) → AreRenumbered number (numbered n (map row_test (bounded_rows rows))) (numbered m (map row_test rows)))
        → AreRenumbered number (numbered n (map row_test (if is_some r.bound then r ∷ bounded_rows rows else bounded_rows rows))) (numbered m (map row_test (r ∷ rows)))
    go None e next =
        let g : (i : ℕ) → number (n + i) ≡ m + suc (index_of_bounded rows i) = subst (λ o. (i : ℕ) → number (n + i) ≡ m + behind_row (is_some o) (index_of_bounded rows) i) e f in
        subst (λ o. AreRenumbered number (numbered n (map row_test (if is_some o then r ∷ bounded_rows rows else bounded_rows rows))) (numbered m (map row_test (r ∷ rows)))) (sym e)
        (extra (λ a b. ap (λ o. is_within o (row_value r.form (values_of b))) e) (next n (suc m) (λ i. g i ∙ omega arith)))
    go (Some b) e next =
        let g : (i : ℕ) → number (n + i) ≡ m + behind_row true (index_of_bounded rows) i = subst (λ o. (i : ℕ) → number (n + i) ≡ m + behind_row (is_some o) (index_of_bounded rows) i) e f in
        let first : m ≡ number n = omega arith ∙ sym (g 0) ∙ ap number (omega arith) in
        subst (λ o. AreRenumbered number (numbered n (map row_test (if is_some o then r ∷ bounded_rows rows else bounded_rows rows))) (numbered m (map row_test (r ∷ rows)))) (sym e)
        (same first (λ a b. refl) (next (suc n) (suc m) (λ i. ap number (omega arith) ∙ g (suc i) ∙ omega arith)))

keeps_numbers : (x : LoopPoint) → AreRenumbered (number_of_bounded x) (rows_of (bounded_loop x)) (rows_of x)
keeps_numbers Bottom = identical (number_of_bounded Bottom) (λ i. refl) (rows_of Bottom)
keeps_numbers (Rows rows) = kept (number_of_bounded (Rows rows)) rows 1 1 (λ i. let e : 1 + i ≡ suc i = omega arith in ap (number_of_bounded (Rows rows)) e ∙ omega arith)

-- behind the last row with a bound stands what is behind all rows
past_bounded : (rows : List Row) → index_of_bounded rows (length (bounded_rows rows)) ≡ length rows
past_bounded [] = refl
past_bounded (r ∷ rows) = go (is_some r.bound) (past_bounded rows)
  where
    go : (b : Bool) → index_of_bounded rows (length (bounded_rows rows)) ≡ length rows
        → behind_row b (index_of_bounded rows) (length (if b then r ∷ bounded_rows rows else bounded_rows rows)) ≡ suc (length rows)
    go true h = ap suc h
    go false h = ap suc h

how_many : (n : ℕ) (rows : List Row) → length (numbered n (map row_test rows)) ≡ length rows
how_many n [] = refl
how_many n (r ∷ rows) = ap suc (how_many (suc n) rows)

last_number : (x : LoopPoint) → length (rows_of x) + 1 ≡ number_of_bounded x (length (rows_of (bounded_loop x)) + 1)
last_number Bottom = refl
last_number (Rows rows) =
    let all = how_many 1 rows in
    let few : length (rows_of (Rows (bounded_rows rows))) + 1 ≡ suc (length (bounded_rows rows)) = let e = how_many 1 (bounded_rows rows) in omega (arith, e) in
    let end : suc (index_of_bounded rows (length (bounded_rows rows))) ≡ suc (length rows) = ap suc (past_bounded rows) in
    omega (arith, all) ∙ sym (ap (number_of_bounded (Rows rows)) few ∙ end)

-- ---- runs

module _ (p : ProgramTree) (sets : ℕ → Member → Bool) (k : ℕ) (q : List LoopPoint) where
  abbrev number : ℕ → ℕ → ℕ
  number l row = number_of_bounded (point_at q l) row

  tests : (counted : Bool) (l : ℕ) → AreRenumbered (number l) (alone (rows_at (bounded q)) counted l) (alone (rows_at q) counted l)
  tests counted l = subst (λ x. AreRenumbered (number l) (rows_of x) (rows_at q l)) (sym (point_bounded q l)) (keeps_numbers (point_at q l))

  pub ends : (choices : List ℤ) → row_end p sets k q choices ≡ renumbered_end number (row_end p sets k (bounded q) choices)
  ends choices =
      renumbering p sets k q number (alone (rows_at (bounded q))) (alone (rows_at q)) tests choices
      ∙ sym (ap (λ (limit : Limit). renumbered_end number (exec p limit (alone (rows_at (bounded q))) choices 0).end) (limit_same p sets k q (bounded q) (start_bounded q)))

  module _ (passes : ℕ → Store → Store → Bool) where
    watch_tests : (counted : Bool) (l : ℕ) → AreRenumbered (number l) (watched (bounded q) passes counted l) (watched q passes counted l)
    watch_tests false l = tests false l
    watch_tests true l =
        let row : length (rows_at q l) + 1 ≡ number l (length (rows_at (bounded q) l) + 1) = last_number (point_at q l) ∙ ap (λ x. number l (length (rows_of x) + 1)) (sym (point_bounded q l)) in
        appended (number l) (rows_at (bounded q) l) (rows_at q l) (watch (bounded q) passes l) (watch q passes l) (tests true l) (same row (λ a b. refl) nothing)

    watched_ends : (choices : List ℤ) → cut_end p sets k q (watched q passes) choices ≡ renumbered_end number (cut_end p sets k (bounded q) (watched (bounded q) passes) choices)
    watched_ends choices =
        renumbering p sets k q number (watched (bounded q) passes) (watched q passes) watch_tests choices
        ∙ sym (ap (λ (limit : Limit). renumbered_end number (exec p limit (watched (bounded q) passes) choices 0).end) (limit_same p sets k q (bounded q) (start_bounded q)))

  falls : (x : End) → IsFallen x → IsFallen (renumbered_end number x)
  falls (Over o) h = h
  falls (Fallen l i) h = h

  fell : (x : End) → IsFallen (renumbered_end number x) → IsFallen x
  fell (Over o) h = h
  fell (Fallen l i) h = h

  breaks : (x : End) → IsBroken x → IsBroken (renumbered_end number x)
  breaks (Over o) h = h
  breaks (Fallen l i) h = h

  broke : (x : End) → IsBroken (renumbered_end number x) → IsBroken x
  broke (Over o) h = h
  broke (Fallen l i) h = h

  pub infers : Infers p sets k q ↔ Infers p sets k (bounded q)
  infers = (
    (λ h choices f. h choices (subst IsFallen (sym (ends choices)) (falls (row_end p sets k (bounded q) choices) f))),
    (λ h choices f. h choices (fell (row_end p sets k (bounded q) choices) (subst IsFallen (ends choices) f))),
  )

  pub proves : Proves p sets k q ↔ Proves p sets k (bounded q)
  proves = (
    (λ h. (infers.0 h.0, λ choices f. h.1 choices (subst IsBroken (sym (ends choices)) (breaks (row_end p sets k (bounded q) choices) f)))),
    (λ h. (infers.1 h.0, λ choices f. h.1 choices (broke (row_end p sets k (bounded q) choices) (subst IsBroken (ends choices) f)))),
  )

  pub turns : (passes : ℕ → Store → Store → Bool) → TurnsPass p sets k q passes ↔ TurnsPass p sets k (bounded q) passes
  turns passes = (
    (λ h choices f. h choices (subst IsFallen (sym (watched_ends passes choices)) (falls (cut_end p sets k (bounded q) (watched (bounded q) passes) choices) f))),
    (λ h choices f. h choices (fell (cut_end p sets k (bounded q) (watched (bounded q) passes) choices) (subst IsFallen (watched_ends passes choices) f))),
  )
