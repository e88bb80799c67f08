-- What a point and rankings say of the values of a loop's variables.
use Rattle.std.specs.Prelude.{ℕ, ℤ, List, map, Option}
use Rattle.l2_runs.specs.declared.cells.CellValue.{CellValue}
use Rattle.l2_templates.specs.declared.form.Form.{Form}
use Rattle.l2_templates.specs.declared.point.LoopPoint.{LoopPoint}
use Rattle.l2_templates.specs.Forms.{row_holds, lower_than}
use Rattle.l2_ssa.specs.Steps.{number_in}
use Rattle.l2_ssa.specs.Law.{RowsOf, RanksOf}
use Rattle.l2_ssa_points.specs.Places.{placed_row_at, placed_ranks_at}

abbrev pub numbers_in : List CellValue → List ℤ
numbers_in = map number_in

-- whether row i of loop l holds of the values of the loop's variables, in the order of the variables
abbrev pub rows_say : (ℕ → List ℕ) → List LoopPoint → RowsOf
rows_say vars q l i cells = row_holds (placed_row_at vars q l i) (numbers_in cells)

-- whether its ranking is lower at the second values than at the first
abbrev pub ranks_say : (ℕ → List ℕ) → Option (List (List Form)) → RanksOf
ranks_say vars ranks l old new = lower_than (placed_ranks_at vars ranks l) (numbers_in old) (numbers_in new)
