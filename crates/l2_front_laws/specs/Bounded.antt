-- Where the rows of a point stand that have a bound.
use Rattle.std.specs.Prelude.{ℕ, zero, suc, Bool, true, false, is_some, List, [], ◌∷◌}
use Rattle.l2_templates.specs.declared.form.Row.{Row}
use Rattle.l2_templates.specs.declared.point.LoopPoint.{LoopPoint}
use Rattle.l2_templates.specs.declared.point.LoopPoint.TheVariants.{Bottom, Rows}

-- behind a row that counts among those or doesn't
abbrev pub behind_row : Bool → (ℕ → ℕ) → ℕ → ℕ
behind_row true next zero = zero
behind_row true next (suc i) = suc (next i)
behind_row false next i = suc (next i)

-- the index of the row with a bound of this index; behind the last one, behind all rows
abbrev pub index_of_bounded : List Row → ℕ → ℕ
index_of_bounded [] i = i
index_of_bounded (r ∷ rows) i = behind_row (is_some r.bound) (index_of_bounded rows) i

-- the same by numbers from 1 on
abbrev pub number_of_bounded : LoopPoint → ℕ → ℕ
number_of_bounded Bottom i = i
number_of_bounded (Rows rows) zero = zero
number_of_bounded (Rows rows) (suc i) = suc (index_of_bounded rows i)
