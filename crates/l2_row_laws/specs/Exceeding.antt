-- What the runs of a point come to, where the rows of the last end aren't asked.
use Rattle.std.specs.Prelude.{ℕ, zero, suc, ℤ, Bool, true, false, int_le, List, Option, Some, None, slice_get}
use Rattle.l2_runs.specs.declared.member.Member.{Member}
use Rattle.l2_runs.specs.Store.{Store}
use Rattle.l2_program.specs.Programs.{ProgramTree}
use Rattle.l2_templates.specs.declared.form.Row.{Row}
use Rattle.l2_templates.specs.declared.point.LoopPoint.{LoopPoint}
use Rattle.l2_templates.specs.declared.point.LoopPoint.TheVariants.{Bottom, Rows}
use Rattle.l2_templates.specs.Forms.{row_value}
use Rattle.l2_cuts.specs.Points.{values_of, point_at}
use Rattle.l2_cuts.specs.Strongest.{Reaches}

abbrev pub is_at_most : Option Row → ℤ → Store → Bool
is_at_most None above store = true
is_at_most (Some row) above store = int_le (row_value row.form (values_of store)) above

-- whether the value of the row of this number is at most this; with number 0 nothing is, and a row that isn't there always is
abbrev pub is_below : LoopPoint → ℕ → ℤ → Store → Bool
is_below q zero above store = false
is_below Bottom (suc i) above store = true
is_below (Rows rows) (suc i) above store = is_at_most (slice_get rows i) above store

-- some cut run comes to the end of a turn of the loop, one that counts, where the value of the row exceeds this; with number 0 it
-- comes there
abbrev pub Exceeds : ProgramTree → (ℕ → Member → Bool) → ℕ → List LoopPoint → ℕ → ℕ → ℤ → Type 0
Exceeds p sets k q l row above = Reaches p sets k q l (is_below (point_at q l) row above)
