-- A row once more in front of the others, with a greater bound.
use Rattle.std.proofs.Common.{◌≡◌, ◌↔◌, ℕ, zero, suc, ◌+◌, ◌≤◌, ◌<◌, ℤ, ◌≤ℤ◌, Bool, true, false, List, [], ◌∷◌, ◌++◌, length, map, Some, None, refl, sym, ap, ◌∙◌, subst, slice_get, if◌then◌else◌, arith}
use Rattle.std.specs.Prelude.{◌==◌, ◌&&◌, int_le}
use Rattle.std.specs.List.{list_all}
use Rattle.std.proofs.lemmas.Int.{ints}
use Rattle.std.proofs.lemmas.Bool.Decides.{nat_tests}
use Rattle.l2_runs.specs.declared.member.Member.{Member}
use Rattle.l2_runs.specs.Numbers.{at_number}
use Rattle.l2_runs.specs.Store.{Store}
use Rattle.l2_runs.specs.Runs.{End, Over, Fallen}
use Rattle.l2_runs.specs.Loops.{Limit, numbered}
use Rattle.l2_run_laws.specs.Watches.{alone}
use Rattle.l2_program.specs.Programs.{ProgramTree}
use Rattle.l2_templates.specs.declared.form.Row.{Row}
use Rattle.l2_templates.specs.declared.point.LoopPoint.{LoopPoint}
use Rattle.l2_templates.specs.declared.point.LoopPoint.TheVariants.{Bottom, Rows}
use Rattle.l2_templates.specs.Forms.{row_value, row_holds, is_within}
use Rattle.l2_templates.specs.Points.{holds}
use Rattle.l2_templates.specs.Rows.{row_of}
use Rattle.l2_meaning.specs.Execution.{exec}
use Rattle.l2_cuts.specs.Points.{point_at, row_test, rows_of, starts, values_of}
use Rattle.l2_cuts.specs.Cuts.{cut_end, row_end, rows_at}
use Rattle.l2_cuts.specs.Strongest.{before_rows}
use Rattle.l2_renumber_laws.specs.Renumbered.{AreRenumbered, same, never, renumbered_end, all_hold}
use Rattle.l2_renumber_laws.proofs.Trees.{counted_alike}
use Rattle.l2_row_laws.specs.Exceeding.{is_at_most, is_below, Exceeds}
use Rattle.l2_front_laws.specs.Front.{in_front, with_raised}
use Rattle.l2_front_laws.proofs.Points.{point_here, point_there, limit_same, rows_hold, identical, shifted}

equal_numbers : (m n : ℕ) → (m == n) ≡ true → m ≡ n
equal_numbers m n e = grind (arith, nat_tests)

other_numbers : (m n : ℕ) → (m == n) ≡ false → n ≡ m → ⊥
other_numbers m n e k = let t : (m == n) ≡ true = grind (arith, nat_tests) in cc

-- the row that is asked has another number, and those of the loop have numbers by f
abbrev renumber : ℕ → (ℕ → ℕ) → ℕ → ℕ → ℕ
renumber last f own i = if i == last then own else f i

of_last : (last own : ℕ) (f : ℕ → ℕ) → renumber last f own last ≡ own
of_last last own f = go (last == last) (grind (arith, nat_tests))
  where
    go : (b : Bool) → b ≡ true → (if b then own else f last) ≡ own
    go true e = refl
    go false e = absurd (cc)

of_other : (last own i : ℕ) (f : ℕ → ℕ) → i < last → renumber last f own i ≡ f i
of_other last own i f h = go (i == last) (grind (arith, nat_tests, h))
  where
    go : (b : Bool) → b ≡ false → (if b then own else f i) ≡ f i
    go true e = absurd (cc)
    go false e = refl

-- only the row that is asked gets its number
is_last : (last own i : ℕ) (f : ℕ → ℕ) → (f i ≡ own → ⊥) → renumber last f own i ≡ own → i ≡ last
is_last last own i f free e = go (i == last) refl e
  where
    go : (b : Bool) → (i == last) ≡ b → (if b then own else f i) ≡ own → i ≡ last
    go true t k = equal_numbers i last t
    go false t k = absurd (free k)

-- those of one loop alone
abbrev at_loop : ℕ → (ℕ → ℕ) → ℕ → ℕ → ℕ
at_loop l f m i = if m == l then f i else i

own_loop : (l m i : ℕ) (f : ℕ → ℕ) → (m == l) ≡ true → at_loop l f m i ≡ f i
own_loop l m i f e = ap (λ b. if b then f i else i) e

other_loop : (l m i : ℕ) (f : ℕ → ℕ) → (m == l) ≡ false → at_loop l f m i ≡ i
other_loop l m i f e = ap (λ b. if b then f i else i) e

same_loop : (l : ℕ) → (l == l) ≡ true
same_loop l = grind (arith, nat_tests)

fallen_loop : {l m i j : ℕ} → Fallen m i ≡ Fallen l j → m ≡ l
fallen_loop e = cc

fallen_row : {l m i j : ℕ} → Fallen m i ≡ Fallen l j → i ≡ j
fallen_row e = cc

-- what the asked row's number comes from
module _ (l last own : ℕ) (f : ℕ → ℕ) (free : (i : ℕ) → f i ≡ own → ⊥) where
  abbrev number : ℕ → ℕ → ℕ
  number = at_loop l (renumber last f own)

  asked_number : number l last ≡ own
  asked_number = own_loop l l last (renumber last f own) (same_loop l) ∙ of_last last own f

  from_asked : (x : End) → renumbered_end number x ≡ Fallen l own → x ≡ Fallen l last
  from_asked (Over o) e = absurd (no_end e)
    where
      no_end : Over o ≡ Fallen l own → ⊥
      no_end e = cc
  from_asked (Fallen m i) e =
      let here : m ≡ l = fallen_loop e in
      let row : number m i ≡ own = fallen_row e in
      let is : i ≡ last = is_last last own i f (free i) (sym (own_loop l l i (renumber last f own) (same_loop l)) ∙ subst (λ n. number n i ≡ own) here row) in
      λ j. Fallen (here j) (is j)

-- ---- a row in front

abbrev after_front : ℕ → ℕ
after_front zero = zero
after_front (suc i) = suc (suc i)

front_free : (i : ℕ) → after_front i ≡ 1 → ⊥
front_free zero e = cc
front_free (suc i) e = omega (arith, e)

at_least : (rows : List Row) (i : ℕ) (r : Row) (values : List ℤ) (bound above : ℤ) → slice_get rows i ≡ Some r → r.bound ≡ Some bound → bound ≤ℤ above → list_all (λ row. row_holds row values) rows ≡ true → row_holds (row_of r.form (Some above)) values ≡ true
at_least [] i r values bound above e has le h = absurd (no_row e)
  where
    no_row : None ≡ Some r → ⊥
    no_row e = cc
at_least (x ∷ rows) zero r values bound above e has le h = first (row_holds x values) refl h
  where
    is_it : Some x ≡ Some r → x ≡ r
    is_it e = cc

    between : (v : ℤ) → int_le v bound ≡ true → int_le v above ≡ true
    between v k = grind (arith, ints, le, k)

    first : (b : Bool) → row_holds x values ≡ b → (b && list_all (λ row. row_holds row values) rows) ≡ true → row_holds (row_of r.form (Some above)) values ≡ true
    first true is k = between (row_value r.form values) (sym (ap (λ o. is_within o (row_value r.form values)) has) ∙ sym (ap (λ (y : Row). row_holds y values) (is_it e)) ∙ is)
    first false is k = absurd (cc)
at_least (x ∷ rows) (suc i) r values bound above e has le h = at_least rows i r values bound above e has le (rest (row_holds x values) h)
  where
    rest : (b : Bool) → (b && list_all (λ row. row_holds row values) rows) ≡ true → list_all (λ row. row_holds row values) rows ≡ true
    rest true k = k
    rest false k = absurd (cc)

module _ (p : ProgramTree) (sets : ℕ → Member → Bool) (k : ℕ) (q : List LoopPoint) (l row : ℕ) (above bound : ℤ) (rows : List Row) (r : Row)
    (here : point_at q l ≡ Rows rows) (at : at_number rows row ≡ Some r) (has : r.bound ≡ Some bound) (le : bound ≤ℤ above) where
  abbrev front : Row
  front = row_of r.form (Some above)

  abbrev q' : List LoopPoint
  q' = with_raised q l r above

  point_front : point_at q' l ≡ Rows (front ∷ rows)
  point_front = point_here q l (in_front front (point_at q l)) rows here ∙ ap (in_front front) here

  point_other : (m : ℕ) → (m == l) ≡ false → point_at q' m ≡ point_at q m
  point_other m e = point_there q l m (in_front front (point_at q l)) (other_numbers m l e)

  -- the row's own bound implies the one in front
  implied : (n : ℕ) → at_number rows n ≡ Some r → (values : List ℤ) → (row_holds front values && list_all (λ row. row_holds row values) rows) ≡ list_all (λ row. row_holds row values) rows
  implied zero e values = absurd (no_row e)
    where
      no_row : None ≡ Some r → ⊥
      no_row e = cc
  implied (suc n) e values = go (row_holds front values) (list_all (λ row. row_holds row values) rows) (at_least rows n r values bound above e has le)
    where
      go : (b t : Bool) → (t ≡ true → b ≡ true) → (b && t) ≡ t
      go true t h = refl
      go false false h = refl
      go false true h = h refl

  start_same : (m : ℕ) (st : Store) → starts q' m st ≡ starts q m st
  start_same m st = go (m == l) refl
    where
      go : (b : Bool) → (m == l) ≡ b → starts q' m st ≡ starts q m st
      go true e =
          ap (λ n. holds (point_at q' n) (values_of st)) (equal_numbers m l e)
          ∙ ap (λ x. holds x (values_of st)) point_front
          ∙ implied row at (values_of st)
          ∙ sym (ap (λ x. holds x (values_of st)) here)
          ∙ sym (ap (λ n. holds (point_at q n) (values_of st)) (equal_numbers m l e))
      go false e = ap (λ x. holds x (values_of st)) (point_other m e)

  abbrev passes : Store → Bool
  passes = is_below (point_at q l) row above

  pass_is : (n : ℕ) → at_number rows n ≡ Some r → (st : Store) → row_holds front (values_of st) ≡ is_below (Rows rows) n above st
  pass_is zero e st = absurd (no_row e)
    where
      no_row : None ≡ Some r → ⊥
      no_row e = cc
  pass_is (suc n) e st = sym (ap (λ o. is_at_most o above st) e)

  abbrev last : ℕ
  last = length (rows_at q l) + 1

  abbrev to : ℕ → ℕ → ℕ
  to = number l last 1 after_front front_free

  length_numbered : (n : ℕ) (hs : List (Store → Store → Bool)) → length (numbered n hs) ≡ length hs
  length_numbered n [] = refl
  length_numbered n (h ∷ hs) = ap suc (length_numbered (suc n) hs)

  last_is : last ≡ suc (length (map row_test rows))
  last_is = let e : length (rows_at q l) ≡ length (map row_test rows) = ap (λ x. length (rows_of x)) here ∙ length_numbered 1 (map row_test rows) in omega (arith, e)

  counted : (m : ℕ) → AreRenumbered (to m) (before_rows q l passes true m) (rows_at q' m)
  counted m = go (m == l) refl
    where
      front_row : (m == l) ≡ true → 1 ≡ to m (length (rows_at q m) + 1)
      front_row e = sym (ap (λ n. to n (length (rows_at q n) + 1)) (equal_numbers m l e) ∙ asked_number l last 1 after_front front_free)

      behind : (m == l) ≡ true → (i : ℕ) → 1 ≤ i → i < 1 + length (map row_test rows) → to m i ≡ suc i
      behind e zero a b = absurd (omega (arith, a))
      behind e (suc i) a b = own_loop l m (suc i) (renumber last after_front 1) e ∙ of_other last 1 (suc i) after_front (omega (arith, b, last_is))

      tests_here : (m == l) ≡ true → AreRenumbered (to m) (record { row = length (rows_at q m) + 1; holds = λ old new. passes new } ∷ numbered 1 (map row_test rows)) (numbered 1 (row_test front ∷ map row_test rows))
      tests_here e = same (front_row e) (λ a b. pass_is row at b ∙ sym (ap (λ x. is_below x row above b) here)) (shifted (to m) (map row_test rows) 1 (behind e))

      go : (b : Bool) → (m == l) ≡ b → AreRenumbered (to m) ((if b then record { row = length (rows_at q m) + 1; holds = λ old new. passes new } ∷ [] else []) ++ rows_at q m) (rows_at q' m)
      go true e =
          subst (λ us. AreRenumbered (to m) (record { row = length (rows_at q m) + 1; holds = λ old new. passes new } ∷ rows_at q m) us) (sym (ap (λ n. rows_at q' n) (equal_numbers m l e) ∙ ap rows_of point_front))
          (subst (λ ts. AreRenumbered (to m) (record { row = length (rows_at q m) + 1; holds = λ old new. passes new } ∷ ts) (numbered 1 (row_test front ∷ map row_test rows))) (sym (ap (λ n. rows_at q n) (equal_numbers m l e) ∙ ap rows_of here))
          (tests_here e))
      go false e = subst (λ us. AreRenumbered (to m) (rows_at q m) us) (sym (ap rows_of (point_other m e))) (identical (to m) (λ i. other_loop l m i (renumber last after_front 1) e) (rows_at q m))

  uncounted : (m : ℕ) (a b : Store) → all_hold (rows_at q' m) a b ≡ all_hold (rows_at q m) a b
  uncounted m a b = go (m == l) refl
    where
      go : (t : Bool) → (m == l) ≡ t → all_hold (rows_at q' m) a b ≡ all_hold (rows_at q m) a b
      go true e =
          ap (λ ts. all_hold ts a b) (ap (λ n. rows_at q' n) (equal_numbers m l e) ∙ ap rows_of point_front)
          ∙ ap (λ t. row_holds front (values_of b) && t) (rows_hold 2 rows a b)
          ∙ implied row at (values_of b)
          ∙ sym (rows_hold 1 rows a b)
          ∙ sym (ap (λ ts. all_hold ts a b) (ap (λ n. rows_at q n) (equal_numbers m l e) ∙ ap rows_of here))
      go false e = ap (λ x. all_hold (rows_of x) a b) (point_other m e)

  ends_alike : (choices : List ℤ) → row_end p sets k q' choices ≡ renumbered_end to (cut_end p sets k q (before_rows q l passes) choices)
  ends_alike choices =
      ap (λ (limit : Limit). (exec p limit (alone (rows_at q')) choices 0).end) (limit_same p sets k q q' start_same)
      ∙ counted_alike p sets k q to (before_rows q l passes) (alone (rows_at q')) counted uncounted choices

  pub raised : Exceeds p sets k q l row above ↔ ((choices : List ℤ) × (row_end p sets k q' choices ≡ Fallen l 1))
  raised = (
    (λ h. (h.0, ends_alike h.0 ∙ ap (renumbered_end to) h.1 ∙ ap (Fallen l) (asked_number l last 1 after_front front_free))),
    (λ h. (h.0, from_asked l last 1 after_front front_free (cut_end p sets k q (before_rows q l passes) h.0) (sym (ends_alike h.0) ∙ h.1))),
  )

-- ---- Bottom

some_free : (i : ℕ) → suc i ≡ 0 → ⊥
some_free i e = omega (arith, e)

module _ (p : ProgramTree) (sets : ℕ → Member → Bool) (k : ℕ) (q : List LoopPoint) (l : ℕ) (above : ℤ) (here : point_at q l ≡ Bottom) where
  abbrev nothing_passes : Store → Bool
  nothing_passes = is_below (point_at q l) 0 above

  abbrev last_there : ℕ
  last_there = length (rows_at q l) + 1

  abbrev back_to : ℕ → ℕ → ℕ
  back_to = number l last_there 0 suc some_free

  counted_there : (m : ℕ) → AreRenumbered (back_to m) (before_rows q l nothing_passes true m) (rows_at q m)
  counted_there m = go (m == l) refl
    where
      row_0 : (m == l) ≡ true → 0 ≡ back_to m (length (rows_at q m) + 1)
      row_0 e = sym (ap (λ n. back_to n (length (rows_at q n) + 1)) (equal_numbers m l e) ∙ asked_number l last_there 0 suc some_free)

      go : (b : Bool) → (m == l) ≡ b → AreRenumbered (back_to m) ((if b then record { row = length (rows_at q m) + 1; holds = λ old new. nothing_passes new } ∷ [] else []) ++ rows_at q m) (rows_at q m)
      go true e = subst (λ us. AreRenumbered (back_to m) (record { row = length (rows_at q m) + 1; holds = λ old new. nothing_passes new } ∷ rows_at q m) us)
          (sym (ap (λ n. rows_at q n) (equal_numbers m l e) ∙ ap rows_of here)) (never (row_0 e) (λ a b. refl) (λ a b. refl))
      go false e = identical (back_to m) (λ i. other_loop l m i (renumber last_there suc 0) e) (rows_at q m)

  bottom_alike : (choices : List ℤ) → row_end p sets k q choices ≡ renumbered_end back_to (cut_end p sets k q (before_rows q l nothing_passes) choices)
  bottom_alike choices = counted_alike p sets k q back_to (before_rows q l nothing_passes) (alone (rows_at q)) counted_there (λ m a b. refl) choices

  pub at_bottom : Exceeds p sets k q l 0 above ↔ ((choices : List ℤ) × (row_end p sets k q choices ≡ Fallen l 0))
  at_bottom = (
    (λ h. (h.0, bottom_alike h.0 ∙ ap (renumbered_end back_to) h.1 ∙ ap (Fallen l) (asked_number l last_there 0 suc some_free))),
    (λ h. (h.0, from_asked l last_there 0 suc some_free (cut_end p sets k q (before_rows q l nothing_passes) h.0) (sym (bottom_alike h.0) ∙ h.1))),
  )
