-- Rows that fail, and bounds that are exceeded.
use Rattle.std.proofs.Common.{◌≡◌, ℕ, zero, suc, ◌+◌, ◌≤◌, ℤ, ◌≤ℤ◌, Bool, true, false, List, [], ◌∷◌, length, map, Option, Some, None, inl, inr, refl, sym, ap, ◌∙◌, subst, arith}
use Rattle.std.specs.Prelude.{int_le, slice_get, ◌&&◌}
use Rattle.std.specs.List.{list_all}
use Rattle.std.proofs.lemmas.Int.{ints}
use Rattle.l2_runs.specs.declared.member.Member.{Member}
use Rattle.l2_runs.specs.Store.{Store}
use Rattle.l2_runs.specs.Runs.{Fallen, Result, Go, Halt}
use Rattle.l2_runs.specs.Loops.{numbered}
use Rattle.l2_run_laws.specs.Watches.{alone}
use Rattle.l2_run_laws.proofs.CutRuns.{EndsIn}
use Rattle.l2_program.specs.Programs.{ProgramTree}
use Rattle.l2_templates.specs.declared.form.Form.{Form}
use Rattle.l2_templates.specs.declared.form.Row.{Row}
use Rattle.l2_templates.specs.declared.point.LoopPoint.{LoopPoint}
use Rattle.l2_templates.specs.declared.point.LoopPoint.TheVariants.{Bottom, Rows}
use Rattle.l2_templates.specs.Forms.{row_value, row_holds, is_within}
use Rattle.l2_templates.specs.Points.{holds, HaveSameForms, AreAlike, IsStronger}
use Rattle.l2_meaning.specs.Execution.{cells_of, calls_of, run_program, main_among}
use Rattle.l2_cuts.specs.Points.{values_of, point_at, row_test, rows_of, starts}
use Rattle.l2_cuts.specs.Cuts.{mods_of, cut_limit, rows_at, row_end, Infers}
use Rattle.l2_cuts.specs.Strongest.{Reaches, passes_row, row_passes}
use Rattle.l2_cut_laws.proofs.Following.{start, ends_in}
use Rattle.l2_point_laws.proofs.Rows.{FailsFirst, Blames}
use Rattle.l2_point_laws.proofs.TreeRows.{back_rows, main_rows}
use Rattle.l2_point_laws.proofs.Reaching.{reaching}
use Rattle.l2_point_laws.proofs.Falling.{falling}
use Rattle.l2_strategy.specs.Asking.{IsBounded, IsFailedAt, IsFailed}
use Rattle.l2_row_laws.specs.Exceeding.{is_at_most, is_below, Exceeds}
use Rattle.l2_row_laws.proofs.Coming.{comes_so}

-- ---- smaller numbers

lower_passes : (o : Option Row) (a b : ℤ) → b ≤ℤ a → (st : Store) → is_at_most o b st ≡ true → is_at_most o a st ≡ true
lower_passes None a b le st h = refl
lower_passes (Some row) a b le st h = between (row_value row.form (values_of st)) a b le h
  where
    between : (v a b : ℤ) → b ≤ℤ a → int_le v b ≡ true → int_le v a ≡ true
    between v a b le h = grind (arith, ints, le, h)

below_passes : (q : LoopPoint) (row : ℕ) (a b : ℤ) → b ≤ℤ a → (st : Store) → is_below q row b st ≡ true → is_below q row a st ≡ true
below_passes q zero a b le st h = h
below_passes Bottom (suc i) a b le st h = refl
below_passes (Rows rows) (suc i) a b le st h = lower_passes (slice_get rows i) a b le st h

pub lower : (p : ProgramTree) (sets : ℕ → Member → Bool) (k : ℕ) (q : List LoopPoint) (l row : ℕ) (a b : ℤ) → b ≤ℤ a → Exceeds p sets k q l row a → Exceeds p sets k q l row b
lower p sets k q l row a b le h = comes_so p sets k q l (is_below (point_at q l) row a) (is_below (point_at q l) row b) (below_passes (point_at q l) row a b le) h

-- ---- weaker points

row_at : (rows : List Row) (values : List ℤ) (i : ℕ) (r : Row) → list_all (λ row. row_holds row values) rows ≡ true → slice_get rows i ≡ Some r → row_holds r values ≡ true
row_at [] values i r h e = let t : None ≡ Some r = e in cc
row_at (x ∷ rows) values i r h e = both (λ j. row_at rows values j r) i (row_holds x values) refl (list_all (λ row. row_holds row values) rows) refl h e
  where
    first : (a b : Row) → Some a ≡ Some b → a ≡ b
    first a b e = cc

    both : ((j : ℕ) → list_all (λ row. row_holds row values) rows ≡ true → slice_get rows j ≡ Some r → row_holds r values ≡ true) → (i : ℕ) (s : Bool) → row_holds x values ≡ s → (t : Bool) → list_all (λ row. row_holds row values) rows ≡ t → (s && t) ≡ true → slice_get (x ∷ rows) i ≡ Some r → row_holds r values ≡ true
    both rest i false is t all h e = cc
    both rest zero true is t all h e = subst (λ (y : Row). row_holds y values ≡ true) (first x r e) is
    both rest (suc i) true is t all h e = rest i (all ∙ h) e

form_at : (as' bs : List Row) → map (λ row. row.form) as' ≡ map (λ row. row.form) bs → (i : ℕ) (r : Row) → slice_get bs i ≡ Some r → (above : ℤ) (st : Store) → int_le (row_value r.form (values_of st)) above ≡ true → is_at_most (slice_get as' i) above st ≡ true
form_at [] bs e i r at above st h = refl
form_at (a ∷ as') [] e i r at above st h = let t : None ≡ Some r = at in cc
form_at (a ∷ as') (b ∷ bs) e zero r at above st h = subst (λ f. int_le (row_value f (values_of st)) above ≡ true) (ap (λ (x : Row). x.form) (sym (first b r at)) ∙ sym (head e)) h
  where
    first : (a b : Row) → Some a ≡ Some b → a ≡ b
    first a b e = cc

    head : {x y : Form} {xs ys : List Form} → x ∷ xs ≡ y ∷ ys → x ≡ y
    head e = cc
form_at (a ∷ as') (b ∷ bs) e (suc i) r at above st h = form_at as' bs (tail e) i r at above st h
  where
    tail : {x y : Form} {xs ys : List Form} → x ∷ xs ≡ y ∷ ys → xs ≡ ys
    tail e = cc

-- what a point bounds is below that in a point of the same forms
held : (a b : LoopPoint) → HaveSameForms a b → (row : ℕ) (above : ℤ) → IsBounded b row above → (st : Store) → holds b (values_of st) ≡ true → is_below a row above st ≡ true
held a Bottom same row above bound st h = cc
held a (Rows bs) same zero above (r, at, is) st h = let t : None ≡ Some r = at in cc
held Bottom (Rows bs) same (suc i) above bound st h = refl
held (Rows as') (Rows bs) same (suc i) above (r, at, is) st h =
    form_at as' bs same i r at above st (subst (λ o. is_within o (row_value r.form (values_of st)) ≡ true) is (row_at bs (values_of st) i r h at))

alike_at : (a b : List LoopPoint) → AreAlike a b → (l : ℕ) → HaveSameForms (point_at a l) (point_at b l)
alike_at a b h zero = tt
alike_at [] [] h (suc l) = tt
alike_at [] (y ∷ b) h (suc l) = absurd h
alike_at (x ∷ a) [] h (suc l) = absurd h
alike_at (x ∷ a) (y ∷ b) h (suc zero) = h.0
alike_at (x ∷ a) (y ∷ b) h (suc (suc l)) = alike_at a b h.1 (suc l)

pub below : (p : ProgramTree) (sets : ℕ → Member → Bool) (k : ℕ) (a b : List LoopPoint) → AreAlike a b → IsStronger a b → Infers p sets k b → (l row : ℕ) (above : ℤ) → IsBounded (point_at b l) row above → ¬ Exceeds p sets k a l row above
below p sets k a b alike strong infers l row above bound = reaching p sets k a b strong infers l (is_below (point_at a l) row above) (held (point_at a l) (point_at b l) (alike_at a b alike l) row above bound)

-- ---- the row that fails

record IsRow (rows : List Row) (n : ℕ) (b : Store) (row : ℕ) : Type 0 where
  index : ℕ
  number : row ≡ n + index
  found : Row
  at : slice_get rows index ≡ Some found
  failed : row_holds found (values_of b) ≡ false

row_of_number : (n : ℕ) (rows : List Row) (a b : Store) (row : ℕ) → FailsFirst (numbered n (map row_test rows)) a b row → IsRow rows n b row
row_of_number n [] a b row h = absurd h
row_of_number n (r ∷ rows) a b row (inl h) = record { index = zero; number = (let e = h.1 in omega (arith, e)); found = r; at = refl; failed = h.0 }
row_of_number n (r ∷ rows) a b row (inr h) =
    let k = row_of_number (suc n) rows a b row h.1 in record { index = suc k.index; number = (let e = k.number in omega (arith, e)); found = k.found; at = k.at; failed = k.failed }

-- what a run comes to, by what may be asked of it
module _ (Comes : (Store → Bool) → Type 0) (fewer : (many few : Store → Bool) → ((st : Store) → few st ≡ true → many st ≡ true) → Comes many → Comes few) where
  bounded : (o : Option ℤ) (v : ℤ) → is_within o v ≡ false → (bound : ℤ) × (o ≡ Some bound)
  bounded None v h = cc
  bounded (Some bound) v h = (bound, refl)

  failing : (q : LoopPoint) (a b : Store) (row : ℕ) → FailsFirst (rows_of q) a b row → Comes (row_passes q row) → IsFailedAt (λ row above. Comes (is_below q row above)) q row
  failing Bottom a b row (inl h) comes = (sym h.1, (λ above. fewer (row_passes Bottom row) (is_below Bottom 0 above) (λ st e. cc) comes))
  failing Bottom a b row (inr h) comes = absurd h.1
  failing (Rows rows) a b row h comes =
      let k = row_of_number 1 rows a b row h in
      let e : row ≡ suc k.index = (let n = k.number in omega (arith, n)) in
      subst (IsFailedAt (λ row above. Comes (is_below (Rows rows) row above)) (Rows rows)) (sym e) (by_index k.index k.found k.at (values_of b) k.failed (subst (λ n. Comes (row_passes (Rows rows) n)) e comes))
    where
      by_index : (i : ℕ) (r : Row) → slice_get rows i ≡ Some r → (values : List ℤ) → row_holds r values ≡ false → Comes (row_passes (Rows rows) (suc i)) → IsFailedAt (λ row above. Comes (is_below (Rows rows) row above)) (Rows rows) (suc i)
      by_index i r at values failed comes =
          let x = bounded r.bound (row_value r.form values) failed in
          (x.0, (r, at, x.1), fewer (row_passes (Rows rows) (suc i)) (is_below (Rows rows) (suc i) x.0) (passes x.0 x.1) comes)
        where
          passes : (bound : ℤ) → r.bound ≡ Some bound → (st : Store) → is_at_most (slice_get rows i) bound st ≡ true → passes_row (slice_get rows i) st ≡ true
          passes bound is st h =
              subst (λ o. passes_row o st ≡ true) (sym at) (subst (λ o. is_within o (row_value r.form (values_of st)) ≡ true) (sym is) (subst (λ o. is_at_most o bound st ≡ true) at h))

module _ (p : ProgramTree) (sets : ℕ → Member → Bool) (k : ℕ) (q : List LoopPoint) (l row : ℕ) (cs : List ℤ) where
  abbrev run : Result (Unit {0})
  run = run_program p (cut_limit p sets k q) (alone (rows_at q)) (start p cs 0)

  blamed : (r : Result (Unit {0})) → Blames (alone (rows_at q)) r → EndsIn r (Fallen l row) → (a : Store) × ((b : Store) × FailsFirst (rows_of (point_at q l)) a b row)
  blamed (Go u s) b h = absurd h
  blamed (Halt e s) b h = by_blame (subst (λ e. Blames {A = Unit {0}} (alone (rows_at q)) (Halt e s)) h b)
    where
      by_blame : Blames {A = Unit {0}} (alone (rows_at q)) (Halt (Fallen l row) s) → (a : Store) × ((b : Store) × FailsFirst (rows_of (point_at q l)) a b row)
      by_blame (a, f) = (a, (s.store, f))

  pub failed : row_end p sets k q cs ≡ Fallen l row → 1 ≤ l → l ≤ length q → IsFailed (Exceeds p sets k q) q l row
  failed h some within =
      let limit = cut_limit p sets k q in
      let f = blamed run ((main_rows (alone (rows_at q)) limit (back_rows (alone (rows_at q)) (cells_of p) sets (mods_of p) (starts q)) true (cells_of p) (calls_of p limit (alone (rows_at q)) (length p.functions)) (main_among p.names p.functions)).by (start p cs 0)) (ends_in cs 0 run (Fallen l row) (λ e. cc) h) in
      record {
        some = some;
        within = within;
        fails = failing (Reaches p sets k q l) (comes_so p sets k q l) (point_at q l) f.0 f.1.0 row f.1.1 (falling p sets k q l row cs h);
      }
