-- A point with one more row in front of a loop's own.
use Rattle.std.specs.Prelude.{ℕ, ℤ, List, ◌∷◌, Some}
use Rattle.l2_runs.specs.Numbers.{set_number}
use Rattle.l2_templates.specs.declared.form.Row.{Row}
use Rattle.l2_templates.specs.declared.point.LoopPoint.{LoopPoint}
use Rattle.l2_templates.specs.declared.point.LoopPoint.TheVariants.{Bottom, Rows}
use Rattle.l2_templates.specs.Rows.{row_of}
use Rattle.l2_cuts.specs.Points.{point_at}

-- at Bottom there is no place for it
abbrev pub in_front : Row → LoopPoint → LoopPoint
in_front r Bottom = Bottom
in_front r (Rows rows) = Rows (r ∷ rows)

abbrev pub with_front : List LoopPoint → ℕ → Row → List LoopPoint
with_front q l r = set_number q l (in_front r (point_at q l))

-- in front of the loop's rows this one again, with another bound
abbrev pub with_raised : List LoopPoint → ℕ → Row → ℤ → List LoopPoint
with_raised q l r above = with_front q l (row_of r.form (Some above))
