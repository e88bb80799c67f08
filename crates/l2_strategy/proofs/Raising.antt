-- The search stays below each point that infers.
use Rattle.std.proofs.Common.{◌≡◌, ℕ, zero, suc, ◌+◌, ◌-◌, ◌<◌, ◌≤◌, Bool, true, false, ℤ, pos, ◌≤ℤ◌, ◌<ℤ◌, List, [], ◌∷◌, length, get_or, map, replicate, Option, Some, None, refl, sym, ap, ◌∙◌, subst, if◌then◌else◌, arith}
use Rattle.std.specs.Prelude.{slice_get, slice_set, slice_index_or}
use Rattle.std.specs.List.{Contains}
use Rattle.std.proofs.lemmas.Int.{ints}
use Rattle.std.proofs.lemmas.List.{length-replicate}
use Rattle.std.proofs.Math.ListN.{length-set}
use native.Mathlib.Decide.{dec_lt, ℕ_discrete}
use Rattle.l2_templates.specs.declared.form.Form.{Form}
use Rattle.l2_templates.specs.declared.form.Row.{Row}
use Rattle.l2_templates.specs.declared.point.LoopPoint.{LoopPoint}
use Rattle.l2_templates.specs.declared.point.LoopPoint.TheVariants.{Bottom, Rows}
use Rattle.l2_templates.specs.Domains.{Rises}
use Rattle.l2_templates.specs.Rows.{row_of}
use Rattle.l2_templates.specs.Forms.{no_form}
use Rattle.l2_templates.specs.Points.{IsTighter, Tightens, IsStrongerAt, IsStronger, HaveSameForms, AreAlike}
use Rattle.l2_cuts.specs.Points.{point_at}
use Rattle.l2_cuts.specs.Strongest.{IsBoundOf, HaveBounds}
use Rattle.l2_strategy.specs.Asking.{IsBounded, IsFailedAt, IsFailed, IsAskable}
use Rattle.l2_strategy.specs.Places.{IsOf, AreOf, IsStrongestOf, Spot, forms_of, at_bottom, rows_of, spot_point, point_of, AtMost, IsBelow, AreBelow, AreFit, IsSearching, left_of, left}

-- ---- bounds

get_some : (bounds : List ℤ) (i : ℕ) (d : ℤ) → i < length bounds → slice_get bounds i ≡ Some (slice_index_or bounds i d)
get_some [] i d h = absurd (omega (arith, h))
get_some (x ∷ xs) zero d h = refl
get_some (x ∷ xs) (suc i) d h = get_some xs i d (omega (arith, h))

get_none : (bounds : List ℤ) (i : ℕ) → length bounds ≤ i → slice_get bounds i ≡ None
get_none [] i h = refl
get_none (x ∷ xs) zero h = absurd (omega (arith, h))
get_none (x ∷ xs) (suc i) h = get_none xs i (omega (arith, h))

same_default : (bounds : List ℤ) (i : ℕ) (d e : ℤ) → i < length bounds → slice_index_or bounds i d ≡ slice_index_or bounds i e
same_default [] i d e h = absurd (omega (arith, h))
same_default (x ∷ xs) zero d e h = refl
same_default (x ∷ xs) (suc i) d e h = same_default xs i d e (omega (arith, h))

same_le : (z : ℤ) → z ≤ℤ z
same_le z = omega (arith, ints)

less_le : (y z : ℤ) → y <ℤ z → y ≤ℤ z
less_le y z h = omega (arith, ints, h)

fit_head : (s : Spot) (spots : List Spot) → AreFit (s ∷ spots) → length s.indexes ≡ length s.forms
fit_head s spots h = h 0 s (omega arith)

fit_tail : (s : Spot) (spots : List Spot) → AreFit (s ∷ spots) → AreFit spots
fit_tail s spots h = λ i d lt. h (suc i) d (omega (arith, lt))

fit_more : (s : Spot) (spots : List Spot) → length s.indexes ≡ length s.forms → AreFit spots → AreFit (s ∷ spots)
fit_more s spots e h = at_index
  where
    at_index : AreFit (s ∷ spots)
    at_index zero d lt = e
    at_index (suc i) d lt = h i d (omega (arith, lt))

module _ (bounds : List ℤ) (rises : Rises bounds) where
  abbrev at : ℕ → ℤ
  at i = slice_index_or bounds i (pos 0)

  pub no_less : (i j : ℕ) → i ≤ j → j < length bounds → at i ≤ℤ at j
  no_less i j h k = go (ℕ_discrete i j)
    where
      go : Dec (i ≡ j) → at i ≤ℤ at j
      go (yes e) = subst (λ n. at i ≤ℤ at n) e (same_le (at i))
      go (no ne) = less_le (at i) (at j) (rises i j (omega (arith, h, ne)) k)

  -- a bound of the list is that of an index
  place_of : (x : ℤ) → Contains bounds x → (m : ℕ) × (m < length bounds) × (at m ≡ x)
  place_of x (m, lt, e) = (m, lt, same_default bounds m (pos 0) _ lt ∙ e)

  -- where a bound is no less than that of an index before, the next bound is at most that
  pub tight_from : (j : ℕ) (b : Option ℤ) → IsBoundOf bounds b → ((x : ℤ) → b ≡ Some x → (m : ℕ) → m < length bounds → at m ≡ x → j ≤ m) → IsTighter (slice_get bounds j) b
  tight_from j None h low = tighter_none (slice_get bounds j)
    where
      tighter_none : (a : Option ℤ) → IsTighter a None
      tighter_none None = tt
      tighter_none (Some x) = tt
  tight_from j (Some x) h low =
      let p = place_of x h in
      let le = low x refl p.0 p.1 p.2 in
      let less = no_less j p.0 le p.1 in
      subst (λ a. IsTighter a (Some x)) (sym (get_some bounds j (pos 0) (omega (arith, le, p.1)))) (subst (λ z. at j ≤ℤ z) p.2 less)

  -- ---- the start

  least_below : (forms : List Form) (rows : List Row) → HaveBounds bounds rows → AtMost bounds (replicate (length forms) 0) rows
  least_below [] rows h = tt
  least_below (f ∷ forms) [] h = tt
  least_below (f ∷ forms) (row ∷ rows) h = (tight_from 0 row.bound h.0 (λ x e m lt is. omega arith), least_below forms rows h.1)

  start_below : (forms : List Form) (q : LoopPoint) → IsOf bounds forms q → IsBelow bounds (at_bottom forms) q
  start_below forms Bottom h = refl
  start_below forms (Rows rows) h = least_below forms rows h.1

  starts_below : (all : List (List Form)) (q : List LoopPoint) → AreOf bounds all q → AreBelow bounds (map at_bottom all) q
  starts_below [] q h = tt
  starts_below (forms ∷ all) [] h = tt
  starts_below (forms ∷ all) (q ∷ qs) h = (start_below forms q h.0, starts_below all qs h.1)

  starts_fit : (all : List (List Form)) → AreFit (map at_bottom all)
  starts_fit [] = λ i d lt. absurd (omega (arith, lt))
  starts_fit (forms ∷ all) = fit_more (at_bottom forms) (map at_bottom all) (length-replicate (length forms) 0) (starts_fit all)

  pub start_forms : (all : List (List Form)) → forms_of (map at_bottom all) ≡ all
  start_forms [] = refl
  start_forms (forms ∷ all) = ap (λ xs. forms ∷ xs) (start_forms all)

  pub starts : (Infers : List LoopPoint → Type 0) (all : List (List Form)) → IsSearching Infers bounds (map at_bottom all)
  starts Infers all = record { fit = starts_fit all; below = λ q h i. starts_below all q (subst (λ a. AreOf bounds a q) (start_forms all) h) }

  -- ---- the end

  rows_forms : (fs : List Form) (is : List ℕ) → length is ≡ length fs → map (λ row. row.form) (rows_of bounds fs is) ≡ fs
  rows_forms [] is e = refl
  rows_forms (f ∷ fs) [] e = absurd (omega (arith, e))
  rows_forms (f ∷ fs) (i ∷ is) e = ap (λ xs. f ∷ xs) (rows_forms fs is (omega (arith, e)))

  bound_of : (i : ℕ) → IsBoundOf bounds (slice_get bounds i)
  bound_of i = go (dec_lt i (length bounds))
    where
      go : Dec (i < length bounds) → IsBoundOf bounds (slice_get bounds i)
      go (yes lt) = subst (λ a. IsBoundOf bounds a) (sym (get_some bounds i (pos 0) lt)) (i, lt, same_default bounds i _ (pos 0) lt)
      go (no ge) = subst (λ a. IsBoundOf bounds a) (sym (get_none bounds i (omega (arith, ge)))) tt

  rows_bounds : (fs : List Form) (is : List ℕ) → HaveBounds bounds (rows_of bounds fs is)
  rows_bounds [] is = tt
  rows_bounds (f ∷ fs) [] = tt
  rows_bounds (f ∷ fs) (i ∷ is) = (bound_of i, rows_bounds fs is)

  spot_of : (s : Spot) → length s.indexes ≡ length s.forms → IsOf bounds s.forms (spot_point bounds s)
  spot_of s e = go s.reached
    where
      go : (b : Bool) → IsOf bounds s.forms (if b then Rows (rows_of bounds s.forms s.indexes) else Bottom)
      go true = (rows_forms s.forms s.indexes e, rows_bounds s.forms s.indexes)
      go false = tt

  pub point_is : (spots : List Spot) → AreFit spots → AreOf bounds (forms_of spots) (point_of bounds spots)
  point_is [] h = tt
  point_is (s ∷ spots) h = (spot_of s (fit_head s spots h), point_is spots (fit_tail s spots h))

  -- rows below those of a point are the stronger ones
  tightens : (fs : List Form) (is : List ℕ) (bs : List Row) → map (λ row. row.form) bs ≡ fs → length is ≡ length fs → AtMost bounds is bs → (row : Row) (k : ℕ) → k < length bs → get_or bs k row ≡ row → Tightens (rows_of bounds fs is) row
  tightens fs is [] e l h row k lt at = absurd (omega (arith, lt))
  tightens [] is (b ∷ bs) e l h row k lt at = let c : suc (length (map (λ (r : Row). r.form) bs)) ≡ 0 = ap length e in absurd (omega (arith, c))
  tightens (f ∷ fs) [] (b ∷ bs) e l h row k lt at = absurd (omega (arith, l))
  tightens (f ∷ fs) (i ∷ is) (b ∷ bs) e l h row zero lt at =
      let form : b.form ≡ f = ap (λ xs. get_or xs 0 no_form) e in
      (row_of f (slice_get bounds i), (0, omega arith, refl), sym form ∙ ap (λ (r : Row). r.form) at, subst (λ (r : Row). IsTighter (slice_get bounds i) r.bound) at h.0)
  tightens (f ∷ fs) (i ∷ is) (b ∷ bs) e l h row (suc k) lt at =
      let r = tightens fs is bs (ap (λ xs. tail xs) e) (omega (arith, l)) h.1 row k (omega (arith, lt)) at in
      (r.0, (suc r.1.0, omega (arith, r.1.1), r.1.2), r.2, r.3)
    where
      tail : List Form → List Form
      tail [] = []
      tail (x ∷ xs) = xs

  spot_stronger : (s : Spot) (q : LoopPoint) → length s.indexes ≡ length s.forms → IsOf bounds s.forms q → IsBelow bounds s q → IsStrongerAt (spot_point bounds s) q
  spot_stronger s q e of below = go s.reached refl q of below
    where
      go : (b : Bool) → s.reached ≡ b → (q : LoopPoint) → IsOf bounds s.forms q → IsBelow bounds s q → IsStrongerAt (if b then Rows (rows_of bounds s.forms s.indexes) else Bottom) q
      go false r q of below = tt
      go true r Bottom of below = let c : true ≡ false = sym r ∙ below in cc
      go true r (Rows rows) of below = λ row (k, lt, at) x is. tightens s.forms s.indexes rows of.0 e below row k lt at

  pub below_stronger : (spots : List Spot) (q : List LoopPoint) → AreFit spots → AreOf bounds (forms_of spots) q → AreBelow bounds spots q → IsStronger (point_of bounds spots) q
  below_stronger [] [] fit of below = tt
  below_stronger [] (q ∷ qs) fit of below = absurd of
  below_stronger (s ∷ spots) [] fit of below = absurd of
  below_stronger (s ∷ spots) (q ∷ qs) fit of below = (spot_stronger s q (fit_head s spots fit) of.0 below.0, below_stronger spots qs (fit_tail s spots fit) of.1 below.1)

  pub ends : (Infers : List LoopPoint → Type 0) (spots : List Spot) → IsSearching Infers bounds spots → Infers (point_of bounds spots) → IsStrongestOf Infers bounds (forms_of spots) (point_of bounds spots)
  ends Infers spots s infers = record { point = point_is spots s.fit; infers = infers; strongest = λ q of i. below_stronger spots q s.fit of (s.below q of i) }

-- ---- raising

-- of a list of forms: which spots they leave as they are
same_forms : (spots : List Spot) (i : ℕ) (s d : Spot) → s.forms ≡ (slice_index_or spots i d).forms → forms_of (slice_set spots i s) ≡ forms_of spots
same_forms [] i s d e = refl
same_forms (x ∷ xs) zero s d e = ap (λ f. f ∷ forms_of xs) e
same_forms (x ∷ xs) (suc i) s d e = ap (λ fs. x.forms ∷ fs) (same_forms xs i s d e)

set_fit : (spots : List Spot) (i : ℕ) (s : Spot) → length s.indexes ≡ length s.forms → AreFit spots → AreFit (slice_set spots i s)
set_fit [] i s e h = h
set_fit (x ∷ xs) zero s e h = fit_more s xs e (fit_tail x xs h)
set_fit (x ∷ xs) (suc i) s e h = fit_more x (slice_set xs i s) (fit_head x xs h) (set_fit xs i s e (fit_tail x xs h))

set_below : (bounds : List ℤ) (spots : List Spot) (i : ℕ) (s d : Spot) (q : List LoopPoint) → (IsBelow bounds (slice_index_or spots i d) (point_at q (suc i)) → i < length q → IsBelow bounds s (point_at q (suc i))) → AreBelow bounds spots q → AreBelow bounds (slice_set spots i s) q
set_below bounds [] i s d q new h = h
set_below bounds (x ∷ xs) zero s d [] new h = tt
set_below bounds (x ∷ xs) (suc i) s d [] new h = tt
set_below bounds (x ∷ xs) zero s d (q ∷ qs) new h = (new h.0 (omega arith), h.1)
set_below bounds (x ∷ xs) (suc i) s d (q ∷ qs) new h = (h.0, set_below bounds xs i s d qs (λ b lt. new b (omega (arith, lt))) h.1)

at_most_set : (bounds : List ℤ) (is : List ℕ) (rows : List Row) (r j : ℕ) → ((row : Row) → slice_get rows r ≡ Some row → IsTighter (slice_get bounds j) row.bound) → AtMost bounds is rows → AtMost bounds (slice_set is r j) rows
at_most_set bounds [] rows r j new h = tt
at_most_set bounds (i ∷ is) [] zero j new h = tt
at_most_set bounds (i ∷ is) [] (suc r) j new h = tt
at_most_set bounds (i ∷ is) (row ∷ rows) zero j new h = (new row refl, h.1)
at_most_set bounds (i ∷ is) (row ∷ rows) (suc r) j new h = (h.0, at_most_set bounds is rows r j new h.1)

abbrev cost : Bool → ℕ
cost b = if b then 0 else 1

left_reach : (most : ℕ) (spots : List Spot) (i : ℕ) (d : Spot) → i < length spots → (slice_index_or spots i d).reached ≡ false → left most (slice_set spots i (record (slice_index_or spots i d) { reached = true })) < left most spots
left_reach most [] i d lt e = absurd (omega (arith, lt))
left_reach most (x ∷ xs) zero d lt e = let s : cost x.reached ≡ cost false = ap cost e in omega (arith, s)
left_reach most (x ∷ xs) (suc i) d lt e = let k = left_reach most xs i d (omega (arith, lt)) e in omega (arith, k)

left_index : (most : ℕ) (is : List ℕ) (r j : ℕ) → r < length is → slice_index_or is r 0 < j → j ≤ most → left_of most (slice_set is r j) + (j - slice_index_or is r 0) ≤ left_of most is
left_index most [] r j lt up le = absurd (omega (arith, lt))
left_index most (i ∷ is) zero j lt up le = omega (arith, up, le)
left_index most (i ∷ is) (suc r) j lt up le = let k = left_index most is r j (omega (arith, lt)) up le in omega (arith, k)

left_raise : (most : ℕ) (spots : List Spot) (i : ℕ) (d : Spot) (r j : ℕ) → i < length spots → r < length (slice_index_or spots i d).indexes → slice_index_or (slice_index_or spots i d).indexes r 0 < j → j ≤ most →
    left most (slice_set spots i (record (slice_index_or spots i d) { indexes = slice_set (slice_index_or spots i d).indexes r j })) + (j - slice_index_or (slice_index_or spots i d).indexes r 0) ≤ left most spots
left_raise most [] i d r j lt inside up le = absurd (omega (arith, lt))
left_raise most (x ∷ xs) zero d r j lt inside up le = let k = left_index most x.indexes r j inside up le in omega (arith, k)
left_raise most (x ∷ xs) (suc i) d r j lt inside up le = let k = left_raise most xs i d r j (omega (arith, lt)) inside up le in omega (arith, k)

-- points of the same forms are alike
of_alike : (bounds : List ℤ) (all : List (List Form)) (a b : List LoopPoint) → AreOf bounds all a → AreOf bounds all b → AreAlike a b
of_alike bounds [] [] [] h k = tt
of_alike bounds [] [] (y ∷ b) h k = absurd k
of_alike bounds [] (x ∷ a) b h k = absurd h
of_alike bounds (forms ∷ all) [] b h k = absurd h
of_alike bounds (forms ∷ all) (x ∷ a) [] h k = absurd k
of_alike bounds (forms ∷ all) (x ∷ a) (y ∷ b) h k = (same x y h.0 k.0, of_alike bounds all a b h.1 k.1)
  where
    same : (x y : LoopPoint) → IsOf bounds forms x → IsOf bounds forms y → HaveSameForms x y
    same Bottom y h k = tt
    same (Rows as') Bottom h k = tt
    same (Rows as') (Rows bs) h k = h.0 ∙ sym k.0

-- ---- what a question tells

-- what questions mean, at one problem
module _ (bounds : List ℤ) (rises : Rises bounds) (Infers : List LoopPoint → Type 0) (Exceeds : List LoopPoint → ℕ → ℕ → ℤ → Type 0) (lower_law : (q : List LoopPoint) (l row : ℕ) (a b : ℤ) → b ≤ℤ a → Exceeds q l row a → Exceeds q l row b) (below_law : (a b : List LoopPoint) → AreAlike a b → IsStronger a b → Infers b → (l row : ℕ) (above : ℤ) → IsBounded (point_at b l) row above → ¬ Exceeds a l row above) (spots : List Spot) (searching : IsSearching Infers bounds spots) where
  abbrev here : List LoopPoint
  here = point_of bounds spots

  stronger : (q : List LoopPoint) → AreOf bounds (forms_of spots) q → Infers q → IsStronger here q
  stronger q of i = below_stronger bounds rises spots q searching.fit of (searching.below q of i)

  alike : (q : List LoopPoint) → AreOf bounds (forms_of spots) q → AreAlike here q
  alike q of = of_alike bounds (forms_of spots) here q (point_is bounds rises spots searching.fit) of

  of_index : (all : List (List Form)) (q : List LoopPoint) (i : ℕ) → AreOf bounds all q → (rows : List Row) → point_at q (suc i) ≡ Rows rows → HaveBounds bounds rows
  of_index [] [] i of rows e = cc
  of_index [] (q ∷ qs) i of rows e = absurd of
  of_index (forms ∷ all) [] i of rows e = absurd of
  of_index (forms ∷ all) (q ∷ qs) zero of rows e = bounds_of q of.0 e
    where
      bounds_of : (q : LoopPoint) → IsOf bounds forms q → q ≡ Rows rows → HaveBounds bounds rows
      bounds_of q h e = (subst (λ x. IsOf bounds forms x) e h).1
  of_index (forms ∷ all) (q ∷ qs) (suc i) of rows e = of_index all qs i of.1 rows e

  bound_at : (rows : List Row) (r : ℕ) (row : Row) → HaveBounds bounds rows → slice_get rows r ≡ Some row → IsBoundOf bounds row.bound
  bound_at [] r row h e = cc
  bound_at (x ∷ rows) zero row h e = subst (λ (y : Row). IsBoundOf bounds y.bound) (first x row e) h.0
    where
      first : (x y : Row) → Some x ≡ Some y → x ≡ y
      first x y e = cc
  bound_at (x ∷ rows) (suc r) row h e = bound_at rows r row h.1 e

  -- a loop is left at Bottom where some run came to an end of a turn
  pub reached_below : (i : ℕ) (d : Spot) → ((above : ℤ) → Exceeds here (suc i) 0 above) → (q : List LoopPoint) → AreOf bounds (forms_of spots) q → Infers q →
      AreBelow bounds (slice_set spots i (record (slice_index_or spots i d) { reached = true })) q
  reached_below i d comes q of infers = set_below bounds spots i (record (slice_index_or spots i d) { reached = true }) d q (λ b lt. new (point_at q (suc i)) refl b) (searching.below q of infers)
    where
      new : (x : LoopPoint) → point_at q (suc i) ≡ x → IsBelow bounds (slice_index_or spots i d) x → IsBelow bounds (record (slice_index_or spots i d) { reached = true }) x
      new Bottom e b = absurd (below_law here q (alike q of) (stronger q of infers) infers (suc i) 0 (pos 0) (subst (λ x. IsBounded x 0 (pos 0)) (sym e) tt) (comes (pos 0)))
      new (Rows rows) e b = b

  -- a row is raised to an index whose bound before some run exceeds
  pub raised_below : (i r j : ℕ) (d : Spot) → 0 < j → j ≤ length bounds → Exceeds here (suc i) (suc r) (slice_index_or bounds (j - 1) (pos 0)) → (q : List LoopPoint) → AreOf bounds (forms_of spots) q → Infers q →
      AreBelow bounds (slice_set spots i (record (slice_index_or spots i d) { indexes = slice_set (slice_index_or spots i d).indexes r j })) q
  raised_below i r j d some most exceeds q of infers = set_below bounds spots i _ d q (λ b lt. new (point_at q (suc i)) refl b) (searching.below q of infers)
    where
      low : (rows : List Row) → point_at q (suc i) ≡ Rows rows → (row : Row) → slice_get rows r ≡ Some row → (x : ℤ) → row.bound ≡ Some x → (m : ℕ) → m < length bounds → slice_index_or bounds m (pos 0) ≡ x → j ≤ m
      low rows e row is x has m lt at_m = go (dec_lt m j)
        where
          go : Dec (m < j) → j ≤ m
          go (no ge) = omega (arith, ge)
          go (yes less) =
              let le = no_less bounds rises m (j - 1) (omega (arith, less)) (omega (arith, most, some)) in
              let more = lower_law here (suc i) (suc r) (slice_index_or bounds (j - 1) (pos 0)) x (subst (λ z. z ≤ℤ slice_index_or bounds (j - 1) (pos 0)) at_m le) exceeds in
              absurd (below_law here q (alike q of) (stronger q of infers) infers (suc i) (suc r) x (subst (λ y. IsBounded y (suc r) x) (sym e) (row, is, has)) more)

      new : (x : LoopPoint) → point_at q (suc i) ≡ x → IsBelow bounds (slice_index_or spots i d) x → IsBelow bounds (record (slice_index_or spots i d) { indexes = slice_set (slice_index_or spots i d).indexes r j }) x
      new Bottom e b = b
      new (Rows rows) e b =
          at_most_set bounds (slice_index_or spots i d).indexes rows r j (λ row is. tight_from bounds rises j row.bound (bound_at rows r row (of_index (forms_of spots) q i of rows e) is) (low rows e row is)) b

-- ---- the place that fails

point_index : (bounds : List ℤ) (spots : List Spot) (i : ℕ) (d : Spot) → i < length spots → point_at (point_of bounds spots) (suc i) ≡ spot_point bounds (slice_index_or spots i d)
point_index bounds [] i d lt = absurd (omega (arith, lt))
point_index bounds (x ∷ xs) zero d lt = refl
point_index bounds (x ∷ xs) (suc i) d lt = point_index bounds xs i d (omega (arith, lt))

pub point_long : (bounds : List ℤ) (spots : List Spot) → length (point_of bounds spots) ≡ length spots
point_long bounds [] = refl
point_long bounds (x ∷ xs) = let e = point_long bounds xs in omega (arith, e)

-- at a loop that no run reached
pub fails_bottom : (bounds : List ℤ) (Exceeds : ℕ → ℤ → Type 0) (s : Spot) (row : ℕ) → s.reached ≡ false → IsFailedAt Exceeds (spot_point bounds s) row → (above : ℤ) → Exceeds 0 above
fails_bottom bounds Exceeds s row e h = (subst (λ b. IsFailedAt Exceeds (if b then Rows (rows_of bounds s.forms s.indexes) else Bottom) row) e h).1

-- at one that some run reached: the row has an index with a bound, which some run exceeds
pub record Raisable (bounds : List ℤ) (Exceeds : ℕ → ℤ → Type 0) (s : Spot) (row : ℕ) : Type 0 where
  pub some : 1 ≤ row
  pub inside : row - 1 < length s.indexes
  pub bounded : slice_index_or s.indexes (row - 1) 0 < length bounds
  pub exceeded : Exceeds row (slice_index_or bounds (slice_index_or s.indexes (row - 1) 0) (pos 0))

row_index : (bounds : List ℤ) (fs : List Form) (is : List ℕ) (r : ℕ) (row : Row) (x : ℤ) → slice_get (rows_of bounds fs is) r ≡ Some row → row.bound ≡ Some x → (r < length is) × (slice_get bounds (slice_index_or is r 0) ≡ Some x)
row_index bounds [] is r row x e b = let c : None ≡ Some row = e in cc
row_index bounds (f ∷ fs) [] r row x e b = let c : None ≡ Some row = e in cc
row_index bounds (f ∷ fs) (i ∷ is) zero row x e b = (omega arith, ap (λ (r : Row). r.bound) (first e) ∙ b)
  where
    first : Some (row_of f (slice_get bounds i)) ≡ Some row → row_of f (slice_get bounds i) ≡ row
    first e = cc
row_index bounds (f ∷ fs) (i ∷ is) (suc r) row x e b = let k = row_index bounds fs is r row x e b in (omega (arith, k.0), k.1)

got : (bounds : List ℤ) (i : ℕ) (x : ℤ) → slice_get bounds i ≡ Some x → (i < length bounds) × (slice_index_or bounds i (pos 0) ≡ x)
got [] i x e = let c : None ≡ Some x = e in cc
got (y ∷ ys) zero x e = (omega arith, same e)
  where
    same : Some y ≡ Some x → y ≡ x
    same e = cc
got (y ∷ ys) (suc i) x e = let k = got ys i x e in (omega (arith, k.0), k.1)

pub fails_row : (bounds : List ℤ) (Exceeds : ℕ → ℤ → Type 0) (s : Spot) (row : ℕ) → s.reached ≡ true → IsFailedAt Exceeds (spot_point bounds s) row → Raisable bounds Exceeds s row
fails_row bounds Exceeds s row e h = go row (subst (λ b. IsFailedAt Exceeds (if b then Rows (rows_of bounds s.forms s.indexes) else Bottom) row) e h)
  where
    go : (row : ℕ) → IsFailedAt Exceeds (Rows (rows_of bounds s.forms s.indexes)) row → Raisable bounds Exceeds s row
    go zero (bound, (r, is, has), exceeds) = let c : None ≡ Some r = is in cc
    go (suc n) (bound, (r, is, has), exceeds) =
        let k = row_index bounds s.forms s.indexes n r bound is has in
        let m = got bounds (slice_index_or s.indexes n 0) bound k.1 in
        let same : suc n - 1 ≡ n = omega arith in
        record {
          some = omega arith;
          inside = omega (arith, k.0);
          bounded = subst (λ j. slice_index_or s.indexes j 0 < length bounds) (sym same) m.0;
          exceeded = subst (λ j. Exceeds (suc n) (slice_index_or bounds (slice_index_or s.indexes j 0) (pos 0))) (sym same) (subst (λ z. Exceeds (suc n) z) (sym m.1) exceeds);
        }

pub failed_at : (bounds : List ℤ) (spots : List Spot) (d : Spot) (Exceeds : ℕ → ℕ → ℤ → Type 0) (q : List LoopPoint) (l row : ℕ) → q ≡ point_of bounds spots → IsFailed Exceeds q l row → (l - 1 < length spots) × IsFailedAt (Exceeds l) (spot_point bounds (slice_index_or spots (l - 1) d)) row
failed_at bounds spots d Exceeds q zero row e h = let c = h.some in absurd (omega (arith, c))
failed_at bounds spots d Exceeds q (suc i) row e h =
    let long : length q ≡ length spots = ap length e ∙ point_long bounds spots in
    let inside : i < length spots = omega (arith, long, h.within) in
    let same : suc i - 1 ≡ i = omega arith in (
      omega (arith, inside),
      subst (λ j. IsFailedAt (Exceeds (suc i)) (spot_point bounds (slice_index_or spots j d)) row) (sym same)
          (subst (λ x. IsFailedAt (Exceeds (suc i)) x row) (point_index bounds spots i d inside) (subst (λ x. IsFailedAt (Exceeds (suc i)) (point_at x (suc i)) row) e h.fails)),
    )

-- ---- steps

-- the search goes on by so many steps
pub record Stepped (Infers : List LoopPoint → Type 0) (bounds : List ℤ) (old new : List Spot) (steps : ℕ) : Type 0 where
  pub searching : IsSearching Infers bounds new
  pub forms : forms_of new ≡ forms_of old
  pub left : left (length bounds) new + steps ≤ left (length bounds) old

module _ (bounds : List ℤ) (rises : Rises bounds) (Infers : List LoopPoint → Type 0) (Exceeds : List LoopPoint → ℕ → ℕ → ℤ → Type 0) (lower_law : (q : List LoopPoint) (l row : ℕ) (a b : ℤ) → b ≤ℤ a → Exceeds q l row a → Exceeds q l row b) (below_law : (a b : List LoopPoint) → AreAlike a b → IsStronger a b → Infers b → (l row : ℕ) (above : ℤ) → IsBounded (point_at b l) row above → ¬ Exceeds a l row above) (spots : List Spot) (searching : IsSearching Infers bounds spots) where
  reach_at : (i row : ℕ) (d : Spot) → i < length spots → IsFailedAt (Exceeds (point_of bounds spots) (suc i)) (spot_point bounds (slice_index_or spots i d)) row → (slice_index_or spots i d).reached ≡ false →
      Stepped Infers bounds spots (slice_set spots i (record (slice_index_or spots i d) { reached = true })) 1
  reach_at i row d lt fails no' = record {
    searching = record {
      fit = set_fit spots i (record (slice_index_or spots i d) { reached = true }) (searching.fit i d lt) searching.fit;
      below = λ q of infers. reached_below bounds rises Infers Exceeds lower_law below_law spots searching i d (fails_bottom bounds (Exceeds (point_of bounds spots) (suc i)) (slice_index_or spots i d) row no' fails) q (subst (λ a. AreOf bounds a q) same of) infers;
    };
    forms = same;
    left = (let k = left_reach (length bounds) spots i d lt no' in omega (arith, k));
  }
    where
      same : forms_of (slice_set spots i (record (slice_index_or spots i d) { reached = true })) ≡ forms_of spots
      same = same_forms spots i (record (slice_index_or spots i d) { reached = true }) d refl

  pub reach_step : (d s' : Spot) (q : List LoopPoint) (l row : ℕ) → q ≡ point_of bounds spots → IsFailed (Exceeds q) q l row → s' ≡ record (slice_index_or spots (l - 1) d) { reached = true } → (slice_index_or spots (l - 1) d).reached ≡ false → Stepped Infers bounds spots (slice_set spots (l - 1) s') 1
  reach_step d s' q zero row e failed is no' = let c = failed.some in absurd (omega (arith, c))
  reach_step d s' q (suc i) row e failed is no' =
      let at' = failed_at bounds spots d (Exceeds q) q (suc i) row e failed in
      let n : suc i - 1 ≡ i = omega arith in
      let fails = subst (λ j. IsFailedAt (Exceeds q (suc i)) (spot_point bounds (slice_index_or spots j d)) row) n at'.1 in
      let here = subst (λ x. IsFailedAt (Exceeds x (suc i)) (spot_point bounds (slice_index_or spots i d)) row) e fails in
      let no'' = subst (λ j. (slice_index_or spots j d).reached ≡ false) n no' in
      subst (λ x. Stepped Infers bounds spots (slice_set spots (suc i - 1) x) 1) (sym is)
      (subst (λ j. Stepped Infers bounds spots (slice_set spots j (record (slice_index_or spots j d) { reached = true })) 1) (sym n) (reach_at i row d (omega (arith, at'.0)) here no''))

  raise_at : (i r j : ℕ) (d : Spot) → i < length spots → r < length (slice_index_or spots i d).indexes → slice_index_or (slice_index_or spots i d).indexes r 0 < j → j ≤ length bounds → Exceeds (point_of bounds spots) (suc i) (suc r) (slice_index_or bounds (j - 1) (pos 0)) →
      Stepped Infers bounds spots (slice_set spots i (record (slice_index_or spots i d) { indexes = slice_set (slice_index_or spots i d).indexes r j })) (j - slice_index_or (slice_index_or spots i d).indexes r 0)
  raise_at i r j d lt inside up most exceeds = record {
    searching = record {
      fit = set_fit spots i (record (slice_index_or spots i d) { indexes = slice_set (slice_index_or spots i d).indexes r j }) d' searching.fit;
      below = λ q of infers. raised_below bounds rises Infers Exceeds lower_law below_law spots searching i r j d (omega (arith, up)) most exceeds q (subst (λ a. AreOf bounds a q) same of) infers;
    };
    forms = same;
    left = left_raise (length bounds) spots i d r j lt inside up most;
  }
    where
      d' : length (slice_set (slice_index_or spots i d).indexes r j) ≡ length (slice_index_or spots i d).forms
      d' = length-set (slice_index_or spots i d).indexes r j ∙ searching.fit i d lt

      same : forms_of (slice_set spots i (record (slice_index_or spots i d) { indexes = slice_set (slice_index_or spots i d).indexes r j })) ≡ forms_of spots
      same = same_forms spots i (record (slice_index_or spots i d) { indexes = slice_set (slice_index_or spots i d).indexes r j }) d refl

  pub raisable : (d : Spot) (q : List LoopPoint) (l row : ℕ) → q ≡ point_of bounds spots → IsFailed (Exceeds q) q l row → (slice_index_or spots (l - 1) d).reached ≡ true → Raisable bounds (Exceeds q l) (slice_index_or spots (l - 1) d) row
  raisable d q l row e failed yes' = fails_row bounds (Exceeds q l) (slice_index_or spots (l - 1) d) row yes' (failed_at bounds spots d (Exceeds q) q l row e failed).1

  pub raise_step : (d s' : Spot) (q : List LoopPoint) (l row j : ℕ) → q ≡ point_of bounds spots → IsFailed (Exceeds q) q l row → (slice_index_or spots (l - 1) d).reached ≡ true → slice_index_or (slice_index_or spots (l - 1) d).indexes (row - 1) 0 < j → j ≤ length bounds → Exceeds q l row (slice_index_or bounds (j - 1) (pos 0)) →
      s' ≡ record (slice_index_or spots (l - 1) d) { indexes = slice_set (slice_index_or spots (l - 1) d).indexes (row - 1) j } → Stepped Infers bounds spots (slice_set spots (l - 1) s') (j - slice_index_or (slice_index_or spots (l - 1) d).indexes (row - 1) 0)
  raise_step d s' q zero row j e failed yes' up most exceeds is = let c = failed.some in absurd (omega (arith, c))
  raise_step d s' q (suc i) zero j e failed yes' up most exceeds is = let c = (raisable d q (suc i) zero e failed yes').some in absurd (omega (arith, c))
  raise_step d s' q (suc i) (suc r) j e failed yes' up most exceeds is =
      let at' = failed_at bounds spots d (Exceeds q) q (suc i) (suc r) e failed in
      let can = raisable d q (suc i) (suc r) e failed yes' in
      let n : suc i - 1 ≡ i = omega arith in
      let m : suc r - 1 ≡ r = omega arith in
      let inside : r < length (slice_index_or spots i d).indexes = subst (λ y. y < length (slice_index_or spots i d).indexes) m (subst (λ x. suc r - 1 < length (slice_index_or spots x d).indexes) n can.inside) in
      let up' : slice_index_or (slice_index_or spots i d).indexes r 0 < j = subst (λ y. slice_index_or (slice_index_or spots i d).indexes y 0 < j) m (subst (λ x. slice_index_or (slice_index_or spots x d).indexes (suc r - 1) 0 < j) n up) in
      let here : Exceeds (point_of bounds spots) (suc i) (suc r) (slice_index_or bounds (j - 1) (pos 0)) = subst (λ x. Exceeds x (suc i) (suc r) (slice_index_or bounds (j - 1) (pos 0))) e exceeds in
      subst (λ x. Stepped Infers bounds spots (slice_set spots (suc i - 1) x) (j - slice_index_or (slice_index_or spots (suc i - 1) d).indexes (suc r - 1) 0)) (sym is)
      (subst (λ x. Stepped Infers bounds spots (slice_set spots x (record (slice_index_or spots x d) { indexes = slice_set (slice_index_or spots x d).indexes (suc r - 1) j })) (j - slice_index_or (slice_index_or spots x d).indexes (suc r - 1) 0)) (sym n)
      (subst (λ y. Stepped Infers bounds spots (slice_set spots i (record (slice_index_or spots i d) { indexes = slice_set (slice_index_or spots i d).indexes y j })) (j - slice_index_or (slice_index_or spots i d).indexes y 0)) (sym m)
      (raise_at i r j d (omega (arith, at'.0)) inside up' most here)))

pub spot_same : (spots : List Spot) (i : ℕ) (a b : Spot) → i < length spots → a ≡ slice_index_or spots i a → b ≡ slice_index_or spots i b → a ≡ b
spot_same [] i a b lt e f = absurd (omega (arith, lt))
spot_same (x ∷ xs) zero a b lt e f = e ∙ sym f
spot_same (x ∷ xs) (suc i) a b lt e f = spot_same xs i a b (omega (arith, lt)) e f

-- a place that was seen twice, and reached
pub can : (bounds : List ℤ) (Exceeds : ℕ → ℕ → ℤ → Type 0) (spots : List Spot) (q : List LoopPoint) (l row : ℕ) (seen again : Spot) → q ≡ point_of bounds spots → IsFailed Exceeds q l row →
    seen ≡ slice_index_or spots (l - 1) seen → again ≡ slice_index_or spots (l - 1) again → true ≡ seen.reached → Raisable bounds (Exceeds l) again row
can bounds Exceeds spots q l row seen again e failed es ea r =
    let here = failed_at bounds spots again Exceeds q l row e failed in
    let same = spot_same spots (l - 1) again seen here.0 ea es in
    let fails = subst (λ (s : Spot). IsFailedAt (Exceeds l) (spot_point bounds s) row) (sym ea) here.1 in
    fails_row bounds (Exceeds l) again row (ap (λ (s : Spot). s.reached) same ∙ sym r) fails

-- and what may be asked of it
pub can_ask : (bounds : List ℤ) (Exceeds : ℕ → ℕ → ℤ → Type 0) (spots : List Spot) (q : List LoopPoint) (l row : ℕ) (seen again : Spot) → q ≡ point_of bounds spots → IsFailed Exceeds q l row →
    seen ≡ slice_index_or spots (l - 1) seen → again ≡ slice_index_or spots (l - 1) again → true ≡ seen.reached → IsAskable q l row (slice_index_or bounds (slice_index_or again.indexes (row - 1) 0) (pos 0))
can_ask bounds Exceeds spots q l row seen again e failed es ea r = record {
  some = failed.some;
  within = failed.within;
  least =
      (slice_index_or bounds (slice_index_or again.indexes (row - 1) 0) (pos 0), (can bounds (λ l' row' z. IsBounded (point_at q l') row' z) spots q l row seen again e (record { some = failed.some; within = failed.within; fails = bound (point_at q l) failed.fails }) es ea r).exceeded, same_le (slice_index_or bounds (slice_index_or again.indexes (row - 1) 0) (pos 0)));
}
  where
    bound : (x : LoopPoint) → IsFailedAt (Exceeds l) x row → IsFailedAt (λ row z. IsBounded x row z) x row
    bound Bottom h = (h.0, (λ a. tt))
    bound (Rows rows) h = (h.0, h.1, h.1)

-- so much is left to raise
some_index : (most : ℕ) (is : List ℕ) (r : ℕ) → r < length is → most - slice_index_or is r 0 ≤ left_of most is
some_index most [] r h = absurd (omega (arith, h))
some_index most (i ∷ is) zero h = omega arith
some_index most (i ∷ is) (suc r) h = let e = some_index most is r (omega (arith, h)) in omega (arith, e)

pub some_raise : (most : ℕ) (spots : List Spot) (i : ℕ) (s : Spot) (r : ℕ) → i < length spots → s ≡ slice_index_or spots i s → r < length s.indexes → most - slice_index_or s.indexes r 0 ≤ left most spots
some_raise most [] i s r h e inside = absurd (omega (arith, h))
some_raise most (x ∷ xs) zero s r h e inside =
    let k : most - slice_index_or s.indexes r 0 ≤ left_of most x.indexes = subst (λ (y : Spot). most - slice_index_or s.indexes r 0 ≤ left_of most y.indexes) e (some_index most s.indexes r inside) in omega (arith, k)
some_raise most (x ∷ xs) (suc i) s r h e inside = let k = some_raise most xs i s r (omega (arith, h)) e inside in omega (arith, k)

-- as often as a row of a place that was seen twice can be raised
pub steps_there : (bounds : List ℤ) (Exceeds : ℕ → ℕ → ℤ → Type 0) (spots : List Spot) (q : List LoopPoint) (l row : ℕ) (seen again : Spot) → q ≡ point_of bounds spots → IsFailed Exceeds q l row →
    seen ≡ slice_index_or spots (l - 1) seen → again ≡ slice_index_or spots (l - 1) again → true ≡ seen.reached → (from : ℕ) → from ≡ slice_index_or again.indexes (row - 1) 0 → length bounds - from ≤ left (length bounds) spots
steps_there bounds Exceeds spots q l row seen again e failed es ea r from is =
    subst (λ n. length bounds - n ≤ left (length bounds) spots) (sym is)
    (some_raise (length bounds) spots (l - 1) again (row - 1) (failed_at bounds spots again Exceeds q l row e failed).0 ea (can bounds Exceeds spots q l row seen again e failed es ea r).inside)
