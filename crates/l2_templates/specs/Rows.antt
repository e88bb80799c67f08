-- Lists of rows.
use Rattle.std.specs.Prelude.{ℕ, ℤ, Option, None, is_some, List, slice_index_or}
use Rattle.std.specs.List.{filter}
use Rattle.l2_templates.specs.declared.form.Form.{Form}
use Rattle.l2_templates.specs.declared.form.Row.{Row}
use Rattle.l2_templates.specs.Forms.{no_form}

abbrev pub row_of : Form → Option ℤ → Row
row_of form bound = record { form = form; bound = bound }

-- the row of an index
abbrev pub row_at : List Row → ℕ → Row
row_at rows i = slice_index_or rows i (row_of no_form None)

-- the rows that have a bound
abbrev pub bounded_rows : List Row → List Row
bounded_rows rows = filter (λ row. is_some row.bound) rows
