-- Forms over the variables of a loop, by the places of the variables in the loop's list.
use Rattle.std.specs.Prelude.{ℕ, zero, suc, ◌==◌, if◌then◌else◌, List, [], ◌∷◌, map, Option, Some, None}
use Rattle.l2_runs.specs.Numbers.{at_number}
use Rattle.l2_templates.specs.declared.form.Form.{Form}
use Rattle.l2_templates.specs.declared.form.Row.{Row}
use Rattle.l2_templates.specs.declared.point.LoopPoint.{LoopPoint}
use Rattle.l2_templates.specs.declared.point.LoopPoint.TheVariants.{Bottom, Rows}
use Rattle.l2_templates.specs.Forms.{no_form}
use Rattle.l2_templates.specs.Rows.{row_of}
use Rattle.l2_cuts.specs.Points.{point_at, ranks_at}
use Rattle.l2_code.specs.Trees.{CodeTree}
use Rattle.l2_ssa.specs.Law.{loop_vars}

-- the variables of a loop, by its number
abbrev pub vars_of : CodeTree → ℕ → List ℕ
vars_of c l = loop_vars (at_number c.loops l)

abbrev pub later : ℕ → ℕ
later zero = 0
later (suc n) = suc (suc n)

-- where a variable stands among these, from 1 on, or 0
abbrev pub place : List ℕ → ℕ → ℕ
place [] v = 0
place (w ∷ ws) v = if w == v then 1 else later (place ws v)

abbrev pub placed : List ℕ → Form → Form
placed vars f = record { first = place vars f.first; plus = f.plus; second = place vars f.second; second_plus = f.second_plus }

abbrev pub placed_row : List ℕ → Row → Row
placed_row vars row = record { form = placed vars row.form; bound = row.bound }

-- ---- rows and rankings by numbers

-- a row that always holds
abbrev pub no_row : Row
no_row = row_of no_form None

abbrev pub or_no_row : Option Row → Row
or_no_row None = no_row
or_no_row (Some row) = row

-- the row of a number, from 1 on
abbrev pub row_in : LoopPoint → ℕ → Row
row_in Bottom i = no_row
row_in (Rows rows) i = or_no_row (at_number rows i)

abbrev pub placed_row_at : (ℕ → List ℕ) → List LoopPoint → ℕ → ℕ → Row
placed_row_at vars q l i = placed_row (vars l) (row_in (point_at q l) i)

abbrev pub or_no_ranks : Option (List (List Form)) → List (List Form)
or_no_ranks None = []
or_no_ranks (Some ranks) = ranks

abbrev pub placed_ranks_at : (ℕ → List ℕ) → Option (List (List Form)) → ℕ → List Form
placed_ranks_at vars ranks l = map (placed (vars l)) (ranks_at (or_no_ranks ranks) l)
