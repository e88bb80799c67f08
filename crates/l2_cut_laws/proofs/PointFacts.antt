-- When the rows of a point hold, of a stronger one, and of a meet.
use Rattle.std.proofs.Common.{◌≡◌, ℕ, zero, suc, Bool, true, false, cond, ℤ, ◌≤ℤ◌, int_lt, Option, Some, None, List, [], ◌∷◌, ◌++◌, get_or, drop, map, refl, sym, ap, subst, arith}
use Rattle.std.specs.Prelude.{◌&&◌, slice_index_or}
use Rattle.std.specs.List.{Contains, list_all}
use Rattle.std.proofs.lemmas.Bool.{and_parts}
use Rattle.std.proofs.lemmas.Int.{ints}
use Rattle.std.proofs.lemmas.List.Elements.{All-contains, All-contains_itself}
use Rattle.l2_runs.specs.Store.{Store}
use Rattle.l2_runs.specs.Loops.{Test, numbered}
use Rattle.l2_run_laws.specs.Watches.{HoldAll, alone}
use Rattle.l2_run_laws.proofs.Meeting.{TestsMeet}
use Rattle.l2_templates.specs.declared.form.Row.{Row}
use Rattle.l2_templates.specs.declared.point.LoopPoint.{LoopPoint}
use Rattle.l2_templates.specs.declared.point.LoopPoint.TheVariants.{Bottom, Rows}
use Rattle.l2_templates.specs.Forms.{is_within, IsWithin, RowHolds, row_holds, row_value, no_form}
use Rattle.l2_templates.specs.Points.{Holds, holds, meet, meet_loop, meet_row, meet_rows, meet_bound, HaveSameForms, AreAlike, IsTighter, IsStrongerAt, IsStronger}
use Rattle.l2_templates.proofs.Holding.{holds_decides}
use Rattle.l2_templates.proofs.Strength.{meet_first, meet_second}
use Rattle.l2_cuts.specs.Points.{values_of, point_at, row_test, rows_of, starts}
use Rattle.l2_cuts.specs.Cuts.{rows_at, watch, watched}

both_true : (a b : Bool) → a ≡ true → b ≡ true → (a && b) ≡ true
both_true true b e f = f
both_true false b e f = cc

-- ---- lists of tests

pub hold_append : (xs ys : List Test) (a b : Store) → HoldAll xs a b → HoldAll ys a b → HoldAll (xs ++ ys) a b
hold_append [] ys a b h k = k
hold_append (x ∷ xs) ys a b h k = (h.0, hold_append xs ys a b h.1 k)

pub hold_left : (xs ys : List Test) (a b : Store) → HoldAll (xs ++ ys) a b → HoldAll xs a b
hold_left [] ys a b h = tt
hold_left (x ∷ xs) ys a b h = (h.0, hold_left xs ys a b h.1)

pub hold_right : (xs ys : List Test) (a b : Store) → HoldAll (xs ++ ys) a b → HoldAll ys a b
hold_right [] ys a b h = h
hold_right (x ∷ xs) ys a b h = hold_right xs ys a b h.1

-- ---- the rows of a point as tests

tests_hold : (n : ℕ) (rows : List Row) (a b : Store) → list_all (λ row. row_holds row (values_of b)) rows ≡ true → HoldAll (numbered n (map row_test rows)) a b
tests_hold n [] a b h = tt
tests_hold n (row ∷ rows) a b h = let p = and_parts (row_holds row (values_of b)) (list_all (λ row. row_holds row (values_of b)) rows) h in (p.0, tests_hold (suc n) rows a b p.1)

hold_tests : (n : ℕ) (rows : List Row) (a b : Store) → HoldAll (numbered n (map row_test rows)) a b → list_all (λ row. row_holds row (values_of b)) rows ≡ true
hold_tests n [] a b h = refl
hold_tests n (row ∷ rows) a b h = both_true (row_holds row (values_of b)) (list_all (λ row. row_holds row (values_of b)) rows) h.0 (hold_tests (suc n) rows a b h.1)

pub rows_from : (q : LoopPoint) (a b : Store) → HoldAll (rows_of q) a b → holds q (values_of b) ≡ true
rows_from Bottom a b h = let e : false ≡ true = h.0 in cc
rows_from (Rows rows) a b h = hold_tests 1 rows a b h

pub rows_to : (q : LoopPoint) (a b : Store) → holds q (values_of b) ≡ true → HoldAll (rows_of q) a b
rows_to Bottom a b h = cc
rows_to (Rows rows) a b h = tests_hold 1 rows a b h

-- ---- strength

within_wider : (a : Option ℤ) (x v : ℤ) → IsTighter a (Some x) → IsWithin a v → v ≤ℤ x
within_wider None x v h k = absurd h
within_wider (Some y) x v h k = omega (arith, ints, h, k)

stronger_holds : (a b : LoopPoint) → IsStrongerAt a b → (vs : List ℤ) → Holds a vs → Holds b vs
stronger_holds Bottom b h vs k = absurd k
stronger_holds (Rows as') Bottom h vs k = absurd h
stronger_holds (Rows as') (Rows bs) h vs k = λ i d lt. go (slice_index_or bs i d) (All-contains_itself bs i d lt) (slice_index_or bs i d).bound refl
  where
    go : (row : Row) → Contains bs row → (bound : Option ℤ) → row.bound ≡ bound → RowHolds row vs
    go row inside None e = subst (λ w. IsWithin w (row_value row.form vs)) (sym e) tt
    go row inside (Some x) e =
        let t = h row inside x e in
        let r : RowHolds t.0 vs = All-contains (λ row. RowHolds row vs) as' t.0 k t.1 in
        let tight : IsTighter t.0.bound (Some x) = subst (λ w. IsTighter t.0.bound w) e t.3 in
        let low : row_value t.0.form vs ≤ℤ x = within_wider t.0.bound x (row_value t.0.form vs) tight r in
        subst (λ w. IsWithin w (row_value row.form vs)) (sym e) (subst (λ f. row_value f vs ≤ℤ x) t.2 low)

pub stronger_rows : (a b : LoopPoint) → IsStrongerAt a b → (vs : List ℤ) → holds a vs ≡ true → holds b vs ≡ true
stronger_rows a b h vs k = (holds_decides b vs).1 (stronger_holds a b h vs ((holds_decides a vs).0 k))

-- ---- meet

within_meet : (a b : Option ℤ) (v : ℤ) → is_within a v ≡ true → is_within b v ≡ true → is_within (meet_bound a b) v ≡ true
within_meet None b v h k = k
within_meet (Some x) None v h k = h
within_meet (Some x) (Some y) v h k = go (int_lt y x)
  where
    go : (test : Bool) → is_within (Some (cond test y x)) v ≡ true
    go true = k
    go false = h

meet_holds : (as' bs : List Row) (vs : List ℤ) → map (λ row. row.form) as' ≡ map (λ row. row.form) bs → list_all (λ row. row_holds row vs) as' ≡ true → list_all (λ row. row_holds row vs) bs ≡ true → list_all (λ row. row_holds row vs) (meet_rows as' bs) ≡ true
meet_holds [] bs vs e h k = refl
meet_holds (a ∷ as') [] vs e h k = refl
meet_holds (a ∷ as') (b ∷ bs) vs e h k =
    let p = and_parts (row_holds a vs) (list_all (λ row. row_holds row vs) as') h in
    let q = and_parts (row_holds b vs) (list_all (λ row. row_holds row vs) bs) k in
    let head : a.form ≡ b.form = ap (λ forms. get_or forms 0 no_form) e in
    let tail : map (λ row. row.form) as' ≡ map (λ row. row.form) bs = ap (drop 1) e in
    both_true (row_holds (meet_row a b) vs) (list_all (λ row. row_holds row vs) (meet_rows as' bs))
    (within_meet a.bound b.bound (row_value a.form vs) p.0 (subst (λ f. is_within b.bound (row_value f vs) ≡ true) (sym head) q.0)) (meet_holds as' bs vs tail p.1 q.1)

meet_loop_holds : (a b : LoopPoint) (vs : List ℤ) → HaveSameForms a b → holds a vs ≡ true → holds b vs ≡ true → holds (meet_loop a b) vs ≡ true
meet_loop_holds Bottom b vs e h k = h
meet_loop_holds (Rows as') Bottom vs e h k = k
meet_loop_holds (Rows as') (Rows bs) vs e h k = meet_holds as' bs vs e h k

-- ---- points, loop by loop

or_bottom_at : List LoopPoint → ℕ → LoopPoint
or_bottom_at q i = point_at q (suc i)

stronger_index : (p q : List LoopPoint) → IsStronger p q → (i : ℕ) → IsStrongerAt (point_at p (suc i)) (point_at q (suc i))
stronger_index [] [] h i = tt
stronger_index [] (b ∷ q) h i = absurd h
stronger_index (a ∷ p) [] h i = absurd h
stronger_index (a ∷ p) (b ∷ q) h zero = h.0
stronger_index (a ∷ p) (b ∷ q) h (suc i) = stronger_index p q h.1 i

pub stronger_at : (p q : List LoopPoint) → IsStronger p q → (l : ℕ) → IsStrongerAt (point_at p l) (point_at q l)
stronger_at p q h zero = tt
stronger_at p q h (suc i) = stronger_index p q h i

meet_index : (p q : List LoopPoint) → AreAlike p q → (i : ℕ) (vs : List ℤ) → holds (point_at p (suc i)) vs ≡ true → holds (point_at q (suc i)) vs ≡ true → holds (point_at (meet p q) (suc i)) vs ≡ true
meet_index [] [] alike i vs h k = h
meet_index [] (b ∷ q) alike i vs h k = absurd alike
meet_index (a ∷ p) [] alike i vs h k = absurd alike
meet_index (a ∷ p) (b ∷ q) alike zero vs h k = meet_loop_holds a b vs alike.0 h k
meet_index (a ∷ p) (b ∷ q) alike (suc i) vs h k = meet_index p q alike.1 i vs h k

meet_at : (p q : List LoopPoint) → AreAlike p q → (l : ℕ) (vs : List ℤ) → holds (point_at p l) vs ≡ true → holds (point_at q l) vs ≡ true → holds (point_at (meet p q) l) vs ≡ true
meet_at p q alike zero vs h k = h
meet_at p q alike (suc i) vs h k = meet_index p q alike i vs h k

-- ---- tests

-- a back start may begin wherever a turn may end
pub rows_start : (q : List LoopPoint) (l : ℕ) (a b : Store) → HoldAll (rows_at q l) a b → starts q l b ≡ true
rows_start q l a b h = rows_from (point_at q l) a b h

pub stronger_starts : (p q : List LoopPoint) → IsStronger p q → (l : ℕ) (b : Store) → starts p l b ≡ true → starts q l b ≡ true
stronger_starts p q h l b k = stronger_rows (point_at p l) (point_at q l) (stronger_at p q h l) (values_of b) k

pub stronger_tests : (p q : List LoopPoint) → IsStronger p q → (l : ℕ) (a b : Store) → HoldAll (rows_at p l) a b → HoldAll (rows_at q l) a b
stronger_tests p q h l a b k = rows_to (point_at q l) a b (stronger_starts p q h l b (rows_from (point_at p l) a b k))

-- a meet against its parts
pub meet_tests : (p q : List LoopPoint) → AreAlike p q → (y : Bool) → TestsMeet (alone (rows_at (meet p q)) y) (alone (rows_at p) y) (alone (rows_at q) y)
meet_tests p q alike y = record {
  hold = λ l a b h. (stronger_tests (meet p q) p (meet_first p q alike) l a b h, stronger_tests (meet p q) q (meet_second p q alike) l a b h);
  fail = λ l a b h k. rows_to (point_at (meet p q) l) a b (meet_at p q alike l (values_of b) (rows_from (point_at p l) a b h) (rows_from (point_at q l) a b k));
}

-- a stronger point with watches, against its rows, and against a weaker point with watches
pub stronger_watches : (p q : List LoopPoint) (passes : ℕ → Store → Store → Bool) → IsStronger p q → TestsMeet (watched p passes true) (alone (rows_at p) true) (watched q passes true)
stronger_watches p q passes strong = record {
  hold = λ l a b h. (
    hold_left (rows_at p l) (watch p passes l) a b h,
    hold_append (rows_at q l) (watch q passes l) a b (stronger_tests p q strong l a b (hold_left (rows_at p l) (watch p passes l) a b h)) (let w = hold_right (rows_at p l) (watch p passes l) a b h in (w.0, tt)),
  );
  fail = λ l a b h k. hold_append (rows_at p l) (watch p passes l) a b h (let w = hold_right (rows_at q l) (watch q passes l) a b k in (w.0, tt));
}

-- a stronger point against itself and a weaker one
pub stronger_meets : (p q : List LoopPoint) → IsStronger p q → TestsMeet (alone (rows_at p) true) (alone (rows_at p) true) (alone (rows_at q) true)
stronger_meets p q strong = record { hold = λ l a b h. (h, stronger_tests p q strong l a b h); fail = λ l a b h k. h }
