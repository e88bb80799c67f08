-- What a point fills rows and rankings with is made, and means what the point says.
use Rattle.std.proofs.Common.{◌≡◌, ◌⊎◌, inl, inr, ℕ, zero, suc, ◌+◌, ◌-◌, ◌<◌, ◌≤◌, Bool, true, false, ◌==◌, ◌||◌, if◌then◌else◌, ℤ, pos, ◌+ℤ◌, int_lt, List, [], ◌∷◌, ◌++◌, map, length, replicate, Option, Some, None, refl, sym, ap, ◌∙◌, subst, arith, slice_get, slice_index_or}
use Rattle.std.specs.Ordering.{int_eq}
use Rattle.std.specs.List.{All}
use Rattle.std.proofs.lemmas.List.Elements.{All-head, All-tail}
use Rattle.std.proofs.lemmas.Int.{ints}
use Rattle.l2_runs.specs.declared.cells.CellValue.{CellValue}
use Rattle.l2_runs.specs.declared.cells.CellValue.TheVariants.{Number}
use Rattle.l2_templates.specs.declared.form.Form.{Form}
use Rattle.l2_templates.specs.declared.form.Row.{Row}
use Rattle.l2_templates.specs.declared.point.LoopPoint.{LoopPoint}
use Rattle.l2_templates.specs.declared.point.LoopPoint.TheVariants.{Bottom, Rows}
use Rattle.l2_templates.specs.Forms.{variable, signed, row_value, row_holds, is_within, lower_than, IsNumber}
use Rattle.l2_templates.specs.Domains.{is_in}
use Rattle.l2_cuts.specs.Points.{point_at, ranks_at}
use Rattle.l2_gates.specs.Gates.{Lit, Made}
use Rattle.l2_gates.specs.Models.{Gives, AllBelow, Sound}
use Rattle.l2_circuits.specs.Words.{constant}
use Rattle.l2_circuit_laws.specs.Shows.{Shows}
use Rattle.l2_circuit_laws.specs.Making.{ConstantsAreBelow}
use Rattle.l2_circuit_laws.specs.Shows as shows
use Rattle.l2_row_circuits.specs.Rows.{wide, variable_word, row_bit, lower_bit}
use Rattle.l2_row_circuits.specs.Law.{AreShown, IsProper, AreProper, RowsAre, RanksAre, RowsAreMade, WordsBelow}
use Rattle.l2_ssa.specs.Steps.{Meaning}
use Rattle.l2_blast_laws.specs.Law.{IsMade, WordsShow, FillMeans}
use Rattle.l2_ssa_points.specs.Places.{later, place, placed, placed_row, no_row, or_no_row, row_in, or_no_ranks, placed_row_at, placed_ranks_at}
use Rattle.l2_ssa_points.specs.Meanings.{numbers_in, rows_say, ranks_say}
use Rattle.l2_goals.specs.Fills.{enough, fill_of}
use Rattle.l2_goal_laws.specs.Fits.{IsFormOf, IsRowOf, IsLoopOf}

-- ---- what is made

tail_below : (n : ℕ) (w : List Lit) (ws : List (List Lit)) → WordsBelow n (w ∷ ws) → WordsBelow n ws
tail_below n w ws h zero = tt
tail_below n w ws h (suc i) = h (suc (suc i))

padded_below : (n : ℕ) (words : List (List Lit)) (j : ℕ) (z : List Lit) → AllBelow n z → WordsBelow n words → WordsBelow n (words ++ replicate j z)
padded_below n words j z hz h zero = tt
padded_below n [] zero z hz h (suc i) = tt
padded_below n [] (suc j) z hz h (suc zero) = hz
padded_below n [] (suc j) z hz h (suc (suc i)) = padded_below n [] j z hz h (suc i)
padded_below n (w ∷ ws) j z hz h (suc zero) = h 1
padded_below n (w ∷ ws) j z hz h (suc (suc i)) = padded_below n ws j z hz (tail_below n w ws h) (suc i)

module _ (below : ConstantsAreBelow) (made : RowsAreMade) (vars : ℕ → List ℕ) (q : List LoopPoint) (ranks : Option (List (List Form))) where
  enough_below : (k : ℕ) (m : Made) → Sound m → (words : List (List Lit)) → WordsBelow m.next words → WordsBelow m.next (enough k words)
  enough_below k m s words h = padded_below m.next words (k - length words) (constant wide (pos 0)) (below m s wide (pos 0)) h

  pub fill_made : IsMade (fill_of vars q ranks)
  fill_made = record {
    row = λ l i words m s h. (made m s).rows (placed_row_at vars q l i) (enough (length (vars l)) words) (enough_below (length (vars l)) m s words h);
    lower = λ l old new m s h k.
        (made m s).ranks (placed_ranks_at vars ranks l) (enough (length (vars l)) old) (enough (length (vars l)) new) (enough_below (length (vars l)) m s old h) (enough_below (length (vars l)) m s new k);
  }

-- ---- places

place_within : (vars : List ℕ) (v : ℕ) → place vars v ≤ length vars
place_within [] v = omega arith
place_within (w ∷ ws) v = go (w == v) (place_within ws v)
  where
    more : (n : ℕ) → n ≤ length ws → later n ≤ suc (length ws)
    more zero h = omega arith
    more (suc n) h = omega (arith, h)

    go : (b : Bool) → place ws v ≤ length ws → (if b then 1 else later (place ws v)) ≤ suc (length ws)
    go true h = omega arith
    go false h = more (place ws v) h

later_some : (n : ℕ) → 1 ≤ n → 1 ≤ later n
later_some zero h = h
later_some (suc n) h = omega arith

place_some : (vars : List ℕ) (v : ℕ) → is_in vars v ≡ true → 1 ≤ place vars v
place_some [] v h = absurd (cc h)
place_some (w ∷ ws) v h = go (w == v) h (place_some ws v)
  where
    go : (b : Bool) → (b || is_in ws v) ≡ true → (is_in ws v ≡ true → 1 ≤ place ws v) → 1 ≤ (if b then 1 else later (place ws v))
    go true h k = omega arith
    go false h k = later_some (place ws v) (k h)

proper : (vars : List ℕ) (n : ℕ) → length vars ≤ n → (f : Form) → IsFormOf vars f → IsProper n (placed vars f)
proper vars n le f h =
    let a = place_within vars f.first in
    let b = place_within vars f.second in
    record { over = record { some = place_some vars f.first h.over.first; first_within = omega (arith, a, le); second_within = omega (arith, b, le) }; plain = plain h.over.second }
  where
    plain : (f.second ≡ 0) ⊎ (is_in vars f.second ≡ true) → place vars f.second ≡ 0 → f.second_plus ≡ true
    plain (inl e) z = h.plain e
    plain (inr i) z = let s = place_some vars f.second i in absurd (omega (arith, s, z))

all_proper : (vars : List ℕ) (n : ℕ) → length vars ≤ n → (fs : List Form) → All (IsFormOf vars) fs → AreProper n (map (placed vars) fs)
all_proper vars n le [] h = tt
all_proper vars n le (f ∷ fs) h = (proper vars n le f (All-head (IsFormOf vars) f fs h), all_proper vars n le fs (All-tail (IsFormOf vars) f fs h))

-- ---- values

numbers_back : (zs : List ℤ) → numbers_in (map Number zs) ≡ zs
numbers_back [] = refl
numbers_back (z ∷ zs) = ap (λ t. z ∷ t) (numbers_back zs)

-- numbers that lack are 0
padded_value : (zs : List ℤ) (j i : ℕ) → slice_index_or (zs ++ replicate j (pos 0)) i (pos 0) ≡ slice_index_or zs i (pos 0)
padded_value [] zero i = refl
padded_value [] (suc j) zero = refl
padded_value [] (suc j) (suc i) = padded_value [] j i
padded_value (z ∷ zs) j zero = refl
padded_value (z ∷ zs) j (suc i) = padded_value zs j i

padded_variable : (zs : List ℤ) (j i : ℕ) → variable (zs ++ replicate j (pos 0)) i ≡ variable zs i
padded_variable zs j zero = refl
padded_variable zs j (suc i) = padded_value zs j i

padded_form : (f : Form) (zs : List ℤ) (j : ℕ) → row_value f (zs ++ replicate j (pos 0)) ≡ row_value f zs
padded_form f zs j =
    ap (λ a. signed f.plus a +ℤ signed f.second_plus (variable (zs ++ replicate j (pos 0)) f.second)) (padded_variable zs j f.first)
    ∙ ap (λ b. signed f.plus (variable zs f.first) +ℤ signed f.second_plus b) (padded_variable zs j f.second)

padded_row : (r : Row) (zs : List ℤ) (j : ℕ) → row_holds r (zs ++ replicate j (pos 0)) ≡ row_holds r zs
padded_row r zs j = ap (is_within r.bound) (padded_form r.form zs j)

padded_lower : (fs : List Form) (xs ys : List ℤ) (i j : ℕ) → lower_than fs (xs ++ replicate i (pos 0)) (ys ++ replicate j (pos 0)) ≡ lower_than fs xs ys
padded_lower [] xs ys i j = refl
padded_lower (f ∷ fs) xs ys i j =
    ap (λ y. if int_eq y (row_value f (xs ++ replicate i (pos 0))) then lower_than fs (xs ++ replicate i (pos 0)) (ys ++ replicate j (pos 0)) else int_lt y (row_value f (xs ++ replicate i (pos 0)))) (padded_form f ys j)
    ∙ ap (λ x. if int_eq (row_value f ys) x then lower_than fs (xs ++ replicate i (pos 0)) (ys ++ replicate j (pos 0)) else int_lt (row_value f ys) x) (padded_form f xs i)
    ∙ ap (λ t. if int_eq (row_value f ys) (row_value f xs) then t else int_lt (row_value f ys) (row_value f xs)) (padded_lower fs xs ys i j)

zero_number : IsNumber (pos 0)
zero_number = record { least = omega (arith, ints); most = omega (arith, ints) }

module _ (constants : shows.ConstantsShow) (v : ℕ → Bool) (one : v 0 ≡ true) where
  shown_length : (words : List (List Lit)) (zs : List ℤ) → WordsShow v words zs → length words ≡ length zs
  shown_length [] [] h = refl
  shown_length [] (z ∷ zs) h = absurd h
  shown_length (w ∷ ws) [] h = absurd h
  shown_length (w ∷ ws) (z ∷ zs) h = ap suc (shown_length ws zs h.2)

  zero_shown : Shows v wide (constant wide (pos 0)) (pos 0)
  zero_shown = constants v one wide (pos 0)

  word_shown : (words : List (List Lit)) (zs : List ℤ) (j i : ℕ) → WordsShow v words zs → i < length (zs ++ replicate j (pos 0))
      → Shows v wide (slice_index_or (words ++ replicate j (constant wide (pos 0))) i []) (slice_index_or (zs ++ replicate j (pos 0)) i (pos 0)) × IsNumber (slice_index_or (zs ++ replicate j (pos 0)) i (pos 0))
  word_shown [] [] zero i h l = absurd (omega (arith, l))
  word_shown [] [] (suc j) zero h l = (zero_shown, zero_number)
  word_shown [] [] (suc j) (suc i) h l = word_shown [] [] j i h (omega (arith, l))
  word_shown [] (z ∷ zs) j i h l = absurd h
  word_shown (w ∷ ws) [] j i h l = absurd h
  word_shown (w ∷ ws) (z ∷ zs) j zero h l = (h.0, h.1)
  word_shown (w ∷ ws) (z ∷ zs) j (suc i) h l = word_shown ws zs j i h.2 (omega (arith, l))

  are_shown : (words : List (List Lit)) (zs : List ℤ) (j : ℕ) → WordsShow v words zs → AreShown v (words ++ replicate j (constant wide (pos 0))) (zs ++ replicate j (pos 0))
  are_shown words zs j h = record { shows = first; numbers = second }
    where
      first : (n : ℕ) → 1 ≤ n → n ≤ length (zs ++ replicate j (pos 0)) → Shows v wide (variable_word (words ++ replicate j (constant wide (pos 0))) n) (variable (zs ++ replicate j (pos 0)) n)
      first zero s l = absurd (omega (arith, s))
      first (suc i) s l = (word_shown words zs j i h (omega (arith, l))).0

      second : (n : ℕ) → n ≤ length (zs ++ replicate j (pos 0)) → IsNumber (variable (zs ++ replicate j (pos 0)) n)
      second zero l = zero_number
      second (suc i) l = (word_shown words zs j i h (omega (arith, l))).1

  long_enough : (n : ℕ) (words : List (List Lit)) (zs : List ℤ) → length words ≡ length zs → n ≤ length (zs ++ replicate (n - length words) (pos 0))
  long_enough n words zs e =
      let size : length (zs ++ replicate (n - length words) (pos 0)) ≡ length zs + (n - length words) = padded_length zs (n - length words) in
      omega (arith, size, e)
    where
      padded_length : (xs : List ℤ) (j : ℕ) → length (xs ++ replicate j (pos 0)) ≡ length xs + j
      padded_length [] zero = refl
      padded_length [] (suc j) = let h = padded_length [] j in omega (arith, h)
      padded_length (x ∷ xs) j = let h = padded_length xs j in omega (arith, h)

  module _ (rows_are : RowsAre) (ranks_are : RanksAre) (vars : ℕ → List ℕ) (q : List LoopPoint) (ranks : Option (List (List Form)))
      (no_zero : (l : ℕ) → place (vars l) 0 ≡ 0) (rows_fit : (l : ℕ) → IsLoopOf (vars l) (point_at q l)) (ranks_fit : (l : ℕ) → All (IsFormOf (vars l)) (ranks_at (or_no_ranks ranks) l)) where
    -- a row that always holds makes nothing
    no_row_means : (vs : List ℕ) → place vs 0 ≡ 0 → (words : List (List Lit)) (zs : List ℤ) (m : Made) → Gives v m (row_holds (placed_row vs no_row) zs) (row_bit (placed_row vs no_row) words m)
    no_row_means vs e words zs m =
        subst (λ n. Gives v m true (row_bit (record { form = record { first = n; plus = true; second = n; second_plus = true }; bound = None }) words m)) (sym e) (λ ok. record { before = ok; is = one })

    row_means : (l : ℕ) (r : Row) → (r ≡ no_row) ⊎ IsRowOf (vars l) r → (words : List (List Lit)) (zs : List ℤ) (m : Made) → WordsShow v words zs
        → Gives v m (row_holds (placed_row (vars l) r) zs) (row_bit (placed_row (vars l) r) (enough (length (vars l)) words) m)
    row_means l r (inl e) words zs m h =
        subst (λ x. Gives v m (row_holds (placed_row (vars l) x) zs) (row_bit (placed_row (vars l) x) (enough (length (vars l)) words) m)) (sym e) (no_row_means (vars l) (no_zero l) (enough (length (vars l)) words) zs m)
    row_means l r (inr f) words zs m h =
        let n = length (vars l) in
        let j = n - length words in
        let long = long_enough n words zs (shown_length words zs h) in
        subst (λ b. Gives v m b (row_bit (placed_row (vars l) r) (enough n words) m)) (padded_row (placed_row (vars l) r) zs j)
        (rows_are v one (placed_row (vars l) r) (enough n words) (zs ++ replicate j (pos 0)) m (are_shown words zs j h) (proper (vars l) (length (zs ++ replicate j (pos 0))) long r.form f.form) f.bound)

    among : (vs : List ℕ) (rows : List Row) (i : ℕ) → All (IsRowOf vs) rows → (o : Option Row) → slice_get rows i ≡ o → (or_no_row o ≡ no_row) ⊎ IsRowOf vs (or_no_row o)
    among vs rows i h None e = inl refl
    among vs [] i h (Some r) e = absurd (cc e)
    among vs (x ∷ rows) zero h (Some r) e = inr (subst (IsRowOf vs) (inner e) (All-head (IsRowOf vs) x rows h))
      where
        inner : Some x ≡ Some r → x ≡ r
        inner e = cc
    among vs (x ∷ rows) (suc i) h (Some r) e = among vs rows i (All-tail (IsRowOf vs) x rows h) (Some r) e

    row_fit : (vs : List ℕ) (p : LoopPoint) → IsLoopOf vs p → (i : ℕ) → (row_in p i ≡ no_row) ⊎ IsRowOf vs (row_in p i)
    row_fit vs Bottom h i = inl refl
    row_fit vs (Rows rows) h zero = inl refl
    row_fit vs (Rows rows) h (suc i) = among vs rows i h (slice_get rows i) refl

    pub fill_means : (m : Meaning) → m.row ≡ rows_say vars q → m.lower ≡ ranks_say vars ranks → FillMeans v (fill_of vars q ranks) m
    fill_means m er el = record {
      row = λ l i words zs made h.
          subst (λ (f : ℕ → ℕ → List CellValue → Bool). Gives v made (f l i (map Number zs)) (row_bit (placed_row_at vars q l i) (enough (length (vars l)) words) made)) (sym er)
          (subst (λ ns. Gives v made (row_holds (placed_row_at vars q l i) ns) (row_bit (placed_row_at vars q l i) (enough (length (vars l)) words) made)) (sym (numbers_back zs))
          (row_means l (row_in (point_at q l) i) (row_fit (vars l) (point_at q l) (rows_fit l) i) words zs made h));
      lower = λ l before after xs ys made h k.
          let n = length (vars l) in
          let i = n - length before in
          let j = n - length after in
          let fs = placed_ranks_at vars ranks l in
          let long_x = long_enough n before xs (shown_length before xs h) in
          let long_y = long_enough n after ys (shown_length after ys k) in
          subst (λ (f : ℕ → List CellValue → List CellValue → Bool). Gives v made (f l (map Number xs) (map Number ys)) (lower_bit fs (enough n before) (enough n after) made)) (sym el)
          (subst (λ ns. Gives v made (lower_than fs ns (numbers_in (map Number ys))) (lower_bit fs (enough n before) (enough n after) made)) (sym (numbers_back xs))
          (subst (λ ns. Gives v made (lower_than fs xs ns) (lower_bit fs (enough n before) (enough n after) made)) (sym (numbers_back ys))
          (subst (λ b. Gives v made b (lower_bit fs (enough n before) (enough n after) made)) (padded_lower fs xs ys i j)
          (ranks_are v one fs (enough n before) (enough n after) (xs ++ replicate i (pos 0)) (ys ++ replicate j (pos 0)) made (are_shown before xs i h) (are_shown after ys j k)
          (all_proper (vars l) (length (xs ++ replicate i (pos 0))) long_x (ranks_at (or_no_ranks ranks) l) (ranks_fit l)) (all_proper (vars l) (length (ys ++ replicate j (pos 0))) long_y (ranks_at (or_no_ranks ranks) l) (ranks_fit l))))));
    }
