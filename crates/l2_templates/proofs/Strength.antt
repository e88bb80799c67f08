-- The meet of two points.
use Rattle.std.proofs.Common.{◌≡◌, ℕ, zero, suc, ◌<◌, ◌≤◌, Bool, true, false, cond, ℤ, ◌≤ℤ◌, int_lt, Option, Some, None, List, [], ◌∷◌, length, get_or, drop, map, refl, sym, ap, subst, ◌∙◌, arith}
use Rattle.std.specs.Int.{int_min}
use Rattle.std.proofs.lemmas.Int.{ints}
use Rattle.l2_templates.specs.declared.form.Form.{Form}
use Rattle.l2_templates.specs.declared.form.Row.{Row}
use Rattle.l2_templates.specs.declared.point.LoopPoint.{LoopPoint}
use Rattle.l2_templates.specs.declared.point.LoopPoint.TheVariants.{Bottom, Rows}
use Rattle.l2_templates.specs.Forms.{no_form}
use Rattle.l2_templates.specs.Points.{AreAlike, BoundsAll, HaveSameForms, IsStronger, IsStrongerAt, IsTighter, Tightens, meet, meet_bound, meet_loop, meet_row, meet_rows}

abbrev forms_of : List Row → List Form
forms_of rows = map (λ row. row.form) rows

same_head : (a b : Row) (as' bs : List Row) → forms_of (a ∷ as') ≡ forms_of (b ∷ bs) → a.form ≡ b.form
same_head a b as' bs same = ap (λ forms. get_or forms 0 no_form) same

same_tail : (a b : Row) (as' bs : List Row) → forms_of (a ∷ as') ≡ forms_of (b ∷ bs) → forms_of as' ≡ forms_of bs
same_tail a b as' bs same = ap (drop 1) same

-- ---- bounds

min_first : (x y : ℤ) → int_min x y ≤ℤ x
min_first x y = go (int_lt y x) refl
  where
    go : (test : Bool) → int_lt y x ≡ test → cond test y x ≤ℤ x
    go true e = grind (arith, ints)
    go false e = omega (arith, ints)

min_second : (x y : ℤ) → int_min x y ≤ℤ y
min_second x y = go (int_lt y x) refl
  where
    go : (test : Bool) → int_lt y x ≡ test → cond test y x ≤ℤ y
    go true e = omega (arith, ints)
    go false e = grind (arith, ints)

bound_first : (a b : Option ℤ) → IsTighter (meet_bound a b) a
bound_first None b = tt
bound_first (Some x) None = omega (arith, ints)
bound_first (Some x) (Some y) = min_first x y

bound_second : (a b : Option ℤ) → IsTighter (meet_bound a b) b
bound_second None None = tt
bound_second None (Some y) = omega (arith, ints)
bound_second (Some x) None = tt
bound_second (Some x) (Some y) = min_second x y

tighter_than : (p q r : Option ℤ) → IsTighter p q → IsTighter q r → IsTighter p r
tighter_than p q None h k = tt
tighter_than p None (Some z) h k = absurd k
tighter_than None (Some y) (Some z) h k = absurd h
tighter_than (Some x) (Some y) (Some z) h k = omega (arith, ints, h, k)

-- ---- rows

later : (row : Row) (rows : List Row) (a : Row) → Tightens rows row → Tightens (a ∷ rows) row
later row rows a (r, (k, inside, at), form, tighter) = (r, (suc k, omega arith, at), form, tighter)

tighter_first : (as' bs : List Row) (row : Row) (k : ℕ) → forms_of as' ≡ forms_of bs → k < length as' → get_or as' k row ≡ row → Tightens (meet_rows as' bs) row
tighter_first [] bs row k same inside at = absurd (omega arith)
tighter_first (a ∷ as') [] row k same inside at = let none : suc (length (forms_of as')) ≡ 0 = ap length same in absurd (omega (arith, none))
tighter_first (a ∷ as') (b ∷ bs) row zero same inside at = (meet_row a b, (0, omega arith, refl), ap (λ r. r.form) at, subst (λ r. IsTighter (meet_bound a.bound b.bound) r.bound) at (bound_first a.bound b.bound))
tighter_first (a ∷ as') (b ∷ bs) row (suc k) same inside at = later row (meet_rows as' bs) (meet_row a b) (tighter_first as' bs row k (same_tail a b as' bs same) (omega arith) at)

tighter_second : (as' bs : List Row) (row : Row) (k : ℕ) → forms_of as' ≡ forms_of bs → k < length bs → get_or bs k row ≡ row → Tightens (meet_rows as' bs) row
tighter_second as' [] row k same inside at = absurd (omega arith)
tighter_second [] (b ∷ bs) row k same inside at = let none : 0 ≡ suc (length (forms_of bs)) = ap length same in absurd (omega (arith, none))
tighter_second (a ∷ as') (b ∷ bs) row zero same inside at = (meet_row a b, (0, omega arith, refl), same_head a b as' bs same ∙ ap (λ r. r.form) at, subst (λ r. IsTighter (meet_bound a.bound b.bound) r.bound) at (bound_second a.bound b.bound))
tighter_second (a ∷ as') (b ∷ bs) row (suc k) same inside at = later row (meet_rows as' bs) (meet_row a b) (tighter_second as' bs row k (same_tail a b as' bs same) (omega arith) at)

-- what bounds two rows of a form bounds their meet
bounds_both : (rs : List Row) (a b : Row) → a.form ≡ b.form → ((x : ℤ) → a.bound ≡ Some x → Tightens rs a) → ((y : ℤ) → b.bound ≡ Some y → Tightens rs b) → (x : ℤ) → meet_bound a.bound b.bound ≡ Some x → Tightens rs (meet_row a b)
bounds_both rs a b same first second x is = go a.bound b.bound refl refl is
  where
    from_first : (z : ℤ) → a.bound ≡ Some z → IsTighter a.bound (meet_bound a.bound b.bound) → Tightens rs (meet_row a b)
    from_first z has tight = let t = first z has in (t.0, t.1, t.2, tighter_than t.0.bound a.bound (meet_bound a.bound b.bound) t.3 tight)

    from_second : (z : ℤ) → b.bound ≡ Some z → IsTighter b.bound (meet_bound a.bound b.bound) → Tightens rs (meet_row a b)
    from_second z has tight = let t = second z has in (t.0, t.1, t.2 ∙ sym same, tighter_than t.0.bound b.bound (meet_bound a.bound b.bound) t.3 tight)

    same_bound : (z : Option ℤ) → IsTighter z z
    same_bound None = tt
    same_bound (Some z) = omega (arith, ints)

    go : (p q : Option ℤ) → a.bound ≡ p → b.bound ≡ q → meet_bound p q ≡ Some x → Tightens rs (meet_row a b)
    go None None ea eb has = let no : None ≡ Some x = has in cc
    go None (Some y) ea eb has = from_second y eb (subst (λ z. IsTighter b.bound z) (sym ((λ i. meet_bound (ea i) b.bound))) (same_bound b.bound))
    go (Some z) None ea eb has = from_first z ea (subst (λ w. IsTighter a.bound w) (sym ((λ i. meet_bound (ea i) (eb i)) ∙ sym ea)) (same_bound a.bound))
    go (Some z) (Some y) ea eb has = by_test (int_lt y z) refl
      where
        by_test : (test : Bool) → int_lt y z ≡ test → Tightens rs (meet_row a b)
        by_test true e = from_second y eb (subst (λ w. IsTighter b.bound w) (sym ((λ i. meet_bound (ea i) (eb i)) ∙ ap (λ t. Some (cond t y z)) e ∙ sym eb)) (same_bound b.bound))
        by_test false e = from_first z ea (subst (λ w. IsTighter a.bound w) (sym ((λ i. meet_bound (ea i) (eb i)) ∙ ap (λ t. Some (cond t y z)) e ∙ sym ea)) (same_bound a.bound))

head_bounds : (rs : List Row) (a : Row) (as' : List Row) → BoundsAll rs (a ∷ as') → (x : ℤ) → a.bound ≡ Some x → Tightens rs a
head_bounds rs a as' all x is = all a (0, omega arith, refl) x is

tail_bounds : (rs : List Row) (a : Row) (as' : List Row) → BoundsAll rs (a ∷ as') → BoundsAll rs as'
tail_bounds rs a as' all row (k, inside, at) x is = all row (suc k, omega arith, at) x is

bounds_meet : (rs as' bs : List Row) → forms_of as' ≡ forms_of bs → BoundsAll rs as' → BoundsAll rs bs → BoundsAll rs (meet_rows as' bs)
bounds_meet rs [] bs same first second row (k, inside, at) x is = absurd (omega arith)
bounds_meet rs (a ∷ as') [] same first second row (k, inside, at) x is = absurd (omega arith)
bounds_meet rs (a ∷ as') (b ∷ bs) same first second row (zero, inside, at) x is =
    subst (Tightens rs) at (bounds_both rs a b (same_head a b as' bs same) (head_bounds rs a as' first) (head_bounds rs b bs second) x (ap (λ r. r.bound) at ∙ is))
bounds_meet rs (a ∷ as') (b ∷ bs) same first second row (suc k, inside, at) x is =
    bounds_meet rs as' bs (same_tail a b as' bs same) (tail_bounds rs a as' first) (tail_bounds rs b bs second) row (k, omega arith, at) x is

-- ---- points

stronger_first : (a b : LoopPoint) → HaveSameForms a b → IsStrongerAt (meet_loop a b) a
stronger_first Bottom b alike = tt
stronger_first (Rows as') Bottom alike = tt
stronger_first (Rows as') (Rows bs) alike = λ row (k, inside, at) x is. tighter_first as' bs row k alike inside at

stronger_second : (a b : LoopPoint) → HaveSameForms a b → IsStrongerAt (meet_loop a b) b
stronger_second Bottom b alike = tt
stronger_second (Rows as') Bottom alike = tt
stronger_second (Rows as') (Rows bs) alike = λ row (k, inside, at) x is. tighter_second as' bs row k alike inside at

stronger_meet : (c a b : LoopPoint) → HaveSameForms a b → IsStrongerAt c a → IsStrongerAt c b → IsStrongerAt c (meet_loop a b)
stronger_meet Bottom a b alike first second = tt
stronger_meet (Rows rs) Bottom b alike first second = absurd first
stronger_meet (Rows rs) (Rows as') Bottom alike first second = absurd second
stronger_meet (Rows rs) (Rows as') (Rows bs) alike first second = bounds_meet rs as' bs alike first second

pub meet_first : (p q : List LoopPoint) → AreAlike p q → IsStronger (meet p q) p
meet_first [] [] alike = tt
meet_first [] (b ∷ q) alike = absurd alike
meet_first (a ∷ p) [] alike = absurd alike
meet_first (a ∷ p) (b ∷ q) alike = (stronger_first a b alike.0, meet_first p q alike.1)

pub meet_second : (p q : List LoopPoint) → AreAlike p q → IsStronger (meet p q) q
meet_second [] [] alike = tt
meet_second [] (b ∷ q) alike = absurd alike
meet_second (a ∷ p) [] alike = absurd alike
meet_second (a ∷ p) (b ∷ q) alike = (stronger_second a b alike.0, meet_second p q alike.1)

pub meet_greatest : (p q r : List LoopPoint) → AreAlike p q → IsStronger r p → IsStronger r q → IsStronger r (meet p q)
meet_greatest [] [] r alike first second = first
meet_greatest [] (b ∷ q) r alike first second = absurd alike
meet_greatest (a ∷ p) [] r alike first second = absurd alike
meet_greatest (a ∷ p) (b ∷ q) [] alike first second = absurd first
meet_greatest (a ∷ p) (b ∷ q) (c ∷ r) alike first second = (stronger_meet c a b alike.0 first.0 second.0, meet_greatest p q r alike.1 first.1 second.1)

-- ---- the loops that make it

pub alike_length : (p q : List LoopPoint) → AreAlike p q → length p ≡ length q
alike_length [] [] alike = refl
alike_length [] (b ∷ q) alike = absurd alike
alike_length (a ∷ p) [] alike = absurd alike
alike_length (a ∷ p) (b ∷ q) alike = ap suc (alike_length p q alike.1)

pub meet_rows_none : (as' bs : List Row) (i : ℕ) → length as' ≤ i → meet_rows (drop i as') (drop i bs) ≡ []
meet_rows_none [] bs zero none = refl
meet_rows_none [] bs (suc i) none = refl
meet_rows_none (a ∷ as') bs zero none = absurd (omega arith)
meet_rows_none (a ∷ as') [] (suc i) none = nothing (drop i as')
  where
    nothing : (rows : List Row) → meet_rows rows [] ≡ []
    nothing [] = refl
    nothing (row ∷ rows) = refl
meet_rows_none (a ∷ as') (b ∷ bs) (suc i) none = meet_rows_none as' bs i (omega arith)

pub meet_rows_none_second : (as' bs : List Row) (i : ℕ) → length bs ≤ i → meet_rows (drop i as') (drop i bs) ≡ []
meet_rows_none_second as' [] i none = nothing (drop i as') i
  where
    nothing : (rows : List Row) (i : ℕ) → meet_rows rows (drop i []) ≡ []
    nothing [] i = refl
    nothing (row ∷ rows) zero = refl
    nothing (row ∷ rows) (suc i) = refl
meet_rows_none_second as' (b ∷ bs) zero none = absurd (omega arith)
meet_rows_none_second [] (b ∷ bs) (suc i) none = refl
meet_rows_none_second (a ∷ as') (b ∷ bs) (suc i) none = meet_rows_none_second as' bs i (omega arith)

pub meet_rows_more : (as' bs : List Row) (i : ℕ) (d : Row) → i < length as' → i < length bs → meet_rows (drop i as') (drop i bs) ≡ meet_row (get_or as' i d) (get_or bs i d) ∷ meet_rows (drop (suc i) as') (drop (suc i) bs)
meet_rows_more [] bs i d first second = absurd (omega arith)
meet_rows_more (a ∷ as') [] i d first second = absurd (omega arith)
meet_rows_more (a ∷ as') (b ∷ bs) zero d first second = refl
meet_rows_more (a ∷ as') (b ∷ bs) (suc i) d first second = meet_rows_more as' bs i d (omega arith) (omega arith)

pub meet_more : (p q : List LoopPoint) (i : ℕ) (d : LoopPoint) → i < length p → i < length q → meet (drop i p) (drop i q) ≡ meet_loop (get_or p i d) (get_or q i d) ∷ meet (drop (suc i) p) (drop (suc i) q)
meet_more [] q i d first second = absurd (omega arith)
meet_more (a ∷ p) [] i d first second = absurd (omega arith)
meet_more (a ∷ p) (b ∷ q) zero d first second = refl
meet_more (a ∷ p) (b ∷ q) (suc i) d first second = meet_more p q i d (omega arith) (omega arith)
