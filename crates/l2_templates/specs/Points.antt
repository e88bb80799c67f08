-- Points: what they say at some values, their meet, and which of two is the stronger.
use Rattle.std.specs.Prelude.{◌≡◌, ⊤, ℕ, Bool, false, ℤ, ◌≤ℤ◌, Option, Some, None, List, [], ◌∷◌, map, slice_index_or}
use Rattle.std.specs.Int.{int_min}
use Rattle.std.specs.List.{All, Contains, list_all}
use Rattle.l2_templates.specs.declared.form.Row.{Row}
use Rattle.l2_templates.specs.declared.point.LoopPoint.{LoopPoint}
use Rattle.l2_templates.specs.declared.point.LoopPoint.TheVariants.{Bottom, Rows}
use Rattle.l2_templates.specs.Forms.{IsOver, RowHolds, row_holds}
use Rattle.l2_templates.specs.Rows.{bounded_rows, row_of}

-- what a point says of the loop of an index
abbrev pub loop_at : List LoopPoint → ℕ → LoopPoint
loop_at p i = slice_index_or p i Bottom

-- each row holds; at Bottom nothing does
abbrev pub holds : LoopPoint → List ℤ → Bool
holds Bottom values = false
holds (Rows rows) values = list_all (λ row. row_holds row values) rows

-- the same as a fact
abbrev pub Holds : LoopPoint → List ℤ → Type 0
Holds Bottom values = ⊥
Holds (Rows rows) values = All (λ row. RowHolds row values) rows

-- the variables of its forms are among the first n
abbrev pub LoopIsOver : ℕ → LoopPoint → Type 0
LoopIsOver n Bottom = ⊤
LoopIsOver n (Rows rows) = All (λ row. IsOver n row.form) rows

-- the same without the rows that have no bound
abbrev pub bounded_loop : LoopPoint → LoopPoint
bounded_loop Bottom = Bottom
bounded_loop (Rows rows) = Rows (bounded_rows rows)

abbrev pub bounded : List LoopPoint → List LoopPoint
bounded p = map bounded_loop p

-- ---- meet

-- the smaller bound, where there are two
abbrev pub meet_bound : Option ℤ → Option ℤ → Option ℤ
meet_bound None b = b
meet_bound (Some x) None = Some x
meet_bound (Some x) (Some y) = Some (int_min x y)

abbrev pub meet_row : Row → Row → Row
meet_row a b = row_of a.form (meet_bound a.bound b.bound)

-- row by row
abbrev pub meet_rows : List Row → List Row → List Row
meet_rows [] bs = []
meet_rows (a ∷ as') [] = []
meet_rows (a ∷ as') (b ∷ bs) = meet_row a b ∷ meet_rows as' bs

-- Bottom wins
abbrev pub meet_loop : LoopPoint → LoopPoint → LoopPoint
meet_loop Bottom q = Bottom
meet_loop (Rows as') Bottom = Bottom
meet_loop (Rows as') (Rows bs) = Rows (meet_rows as' bs)

-- loop by loop
abbrev pub meet : List LoopPoint → List LoopPoint → List LoopPoint
meet [] q = []
meet (a ∷ p) [] = []
meet (a ∷ p) (b ∷ q) = meet_loop a b ∷ meet p q

-- the rows are of the same forms, where both have rows
abbrev pub HaveSameForms : LoopPoint → LoopPoint → Type 0
HaveSameForms Bottom b = ⊤
HaveSameForms (Rows as') Bottom = ⊤
HaveSameForms (Rows as') (Rows bs) = map (λ row. row.form) as' ≡ map (λ row. row.form) bs

-- points over the same loops and forms
abbrev pub AreAlike : List LoopPoint → List LoopPoint → Type 0
AreAlike [] [] = ⊤
AreAlike [] (b ∷ q) = ⊥
AreAlike (a ∷ p) [] = ⊥
AreAlike (a ∷ p) (b ∷ q) = HaveSameForms a b × AreAlike p q

-- ---- strength

-- the first bound is no greater than the second, where there is a second
abbrev pub IsTighter : Option ℤ → Option ℤ → Type 0
IsTighter a None = ⊤
IsTighter None (Some y) = ⊥
IsTighter (Some x) (Some y) = x ≤ℤ y

-- some row of these is of the same form with a bound that is no greater
abbrev pub Tightens : List Row → Row → Type 0
Tightens rows row = (r : Row) × (Contains rows r) × (r.form ≡ row.form) × (IsTighter r.bound row.bound)

-- each bound of the second has one of the first that is no greater
abbrev pub BoundsAll : List Row → List Row → Type 0
BoundsAll as' bs = (row : Row) → Contains bs row → (bound : ℤ) → row.bound ≡ Some bound → Tightens as' row

-- at a loop: Bottom, or the other isn't Bottom and each of its bounds is met
abbrev pub IsStrongerAt : LoopPoint → LoopPoint → Type 0
IsStrongerAt Bottom b = ⊤
IsStrongerAt (Rows as') Bottom = ⊥
IsStrongerAt (Rows as') (Rows bs) = BoundsAll as' bs

-- at least as strong at each loop
abbrev pub IsStronger : List LoopPoint → List LoopPoint → Type 0
IsStronger [] [] = ⊤
IsStronger [] (b ∷ q) = ⊥
IsStronger (a ∷ p) [] = ⊥
IsStronger (a ∷ p) (b ∷ q) = IsStrongerAt a b × IsStronger p q
