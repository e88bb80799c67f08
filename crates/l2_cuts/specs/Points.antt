-- What a point says of a program's loops, as tests on stores.
use Rattle.std.specs.Prelude.{ℕ, ℤ, Bool, List, [], map, Option, Some, None}
use Rattle.l2_runs.specs.Numbers.{at_number}
use Rattle.l2_runs.specs.Store.{Store}
use Rattle.l2_runs.specs.Loops.{Test, numbered, bottom}
use Rattle.l2_meaning.specs.Meaning.{number_of}
use Rattle.l2_templates.specs.declared.form.Form.{Form}
use Rattle.l2_templates.specs.declared.form.Row.{Row}
use Rattle.l2_templates.specs.declared.point.LoopPoint.{LoopPoint}
use Rattle.l2_templates.specs.declared.point.LoopPoint.TheVariants.{Bottom, Rows}
use Rattle.l2_templates.specs.Forms.{row_holds, lower_than}
use Rattle.l2_templates.specs.Points.{holds}

-- the values of the variables: of each object the number in its first cell
abbrev pub values_of : Store → List ℤ
values_of store = map (λ o. number_of o.cells) store

abbrev pub or_bottom : Option LoopPoint → LoopPoint
or_bottom None = Bottom
or_bottom (Some q) = q

-- what a point says of a loop, by its number
abbrev pub point_at : List LoopPoint → ℕ → LoopPoint
point_at q l = or_bottom (at_number q l)

abbrev pub row_test : Row → Store → Store → Bool
row_test row old new = row_holds row (values_of new)

-- the rows of a loop, in order, at the end of a turn; at Bottom no turn may end
abbrev pub rows_of : LoopPoint → List Test
rows_of Bottom = bottom
rows_of (Rows rows) = numbered 1 (map row_test rows)

-- whether a loop may start back in a store
abbrev pub starts : List LoopPoint → ℕ → Store → Bool
starts q l store = holds (point_at q l) (values_of store)

abbrev pub or_no_forms : Option (List Form) → List Form
or_no_forms None = []
or_no_forms (Some r) = r

-- the forms that rank a loop, by its number
abbrev pub ranks_at : List (List Form) → ℕ → List Form
ranks_at r l = or_no_forms (at_number r l)

-- whether a turn from one store to another lowers its loop's rank
abbrev pub lowers : List (List Form) → ℕ → Store → Store → Bool
lowers r l old new = lower_than (ranks_at r l) (values_of old) (values_of new)
