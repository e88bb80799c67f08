-- Where the search for the strongest point stands.
use Rattle.std.specs.Prelude.{◌≡◌, ℕ, ℤ, ◌+◌, ◌-◌, Bool, false, if◌then◌else◌, List, [], ◌∷◌, length, map, replicate, slice_get}
use Rattle.std.specs.List.{All}
use Rattle.l2_templates.specs.declared.form.Form.{Form}
use Rattle.l2_templates.specs.declared.form.Row.{Row}
use Rattle.l2_templates.specs.declared.point.LoopPoint.{LoopPoint}
use Rattle.l2_templates.specs.declared.point.LoopPoint.TheVariants.{Bottom, Rows}
use Rattle.l2_templates.specs.Rows.{row_of}
use Rattle.l2_templates.specs.Points.{IsStronger, IsTighter}
use Rattle.l2_cuts.specs.Strongest.{HaveBounds}

-- ---- points of given forms and bounds

-- Bottom, or rows of these forms whose bounds are among these
abbrev pub IsOf : List ℤ → List Form → LoopPoint → Type 0
IsOf bounds forms Bottom = Unit {0}
IsOf bounds forms (Rows rows) = (map (λ row. row.form) rows ≡ forms) × HaveBounds bounds rows

abbrev pub AreOf : List ℤ → List (List Form) → List LoopPoint → Type 0
AreOf bounds [] [] = Unit {0}
AreOf bounds [] (q ∷ qs) = ⊥
AreOf bounds (forms ∷ all) [] = ⊥
AreOf bounds (forms ∷ all) (q ∷ qs) = IsOf bounds forms q × AreOf bounds all qs

-- it infers, and is at least as strong as each other such point that infers
pub record IsStrongestOf (Infers : List LoopPoint → Type 0) (bounds : List ℤ) (all : List (List Form)) (q : List LoopPoint) : Type 0 where
  pub point : AreOf bounds all q
  pub infers : Infers q
  pub strongest : (other : List LoopPoint) → AreOf bounds all other → Infers other → IsStronger q other

-- ---- the search

-- of a loop: its forms, for each row an index into the bounds, and whether some run ended a turn
pub record Spot : Type 0 where
  pub forms : List Form
  pub indexes : List ℕ
  pub reached : Bool

abbrev pub forms_of : List Spot → List (List Form)
forms_of spots = map (λ s. s.forms) spots

abbrev pub at_bottom : List Form → Spot
at_bottom forms = record { forms = forms; indexes = replicate (length forms) 0; reached = false }

-- rows of these forms, each with the bound of its index, or with none behind the last one
abbrev pub rows_of : List ℤ → List Form → List ℕ → List Row
rows_of bounds [] indexes = []
rows_of bounds (f ∷ fs) [] = []
rows_of bounds (f ∷ fs) (i ∷ is) = row_of f (slice_get bounds i) ∷ rows_of bounds fs is

abbrev pub spot_point : List ℤ → Spot → LoopPoint
spot_point bounds s = if s.reached then Rows (rows_of bounds s.forms s.indexes) else Bottom

abbrev pub point_of : List ℤ → List Spot → List LoopPoint
point_of bounds spots = map (spot_point bounds) spots

-- how often the indexes can still rise
abbrev pub left_of : ℕ → List ℕ → ℕ
left_of most [] = 0
left_of most (i ∷ is) = (most - i) + left_of most is

-- how often the search can still raise a row or leave Bottom
abbrev pub left : ℕ → List Spot → ℕ
left most [] = 0
left most (s ∷ rest) = (if s.reached then 0 else 1) + left_of most s.indexes + left most rest

-- ---- what the search keeps

-- each row's bound is at most that of a point's row
abbrev pub AtMost : List ℤ → List ℕ → List Row → Type 0
AtMost bounds [] rows = Unit {0}
AtMost bounds (i ∷ is) [] = Unit {0}
AtMost bounds (i ∷ is) (row ∷ rows) = IsTighter (slice_get bounds i) row.bound × AtMost bounds is rows

abbrev pub IsBelow : List ℤ → Spot → LoopPoint → Type 0
IsBelow bounds s Bottom = s.reached ≡ false
IsBelow bounds s (Rows rows) = AtMost bounds s.indexes rows

abbrev pub AreBelow : List ℤ → List Spot → List LoopPoint → Type 0
AreBelow bounds [] qs = Unit {0}
AreBelow bounds (s ∷ spots) [] = Unit {0}
AreBelow bounds (s ∷ spots) (q ∷ qs) = IsBelow bounds s q × AreBelow bounds spots qs

-- an index for each form
abbrev pub AreFit : List Spot → Type 0
AreFit spots = All (λ s. length s.indexes ≡ length s.forms) spots

-- the search is below each point that infers
pub record IsSearching (Infers : List LoopPoint → Type 0) (bounds : List ℤ) (spots : List Spot) : Type 0 where
  pub fit : AreFit spots
  pub below : (q : List LoopPoint) → AreOf bounds (forms_of spots) q → Infers q → AreBelow bounds spots q
