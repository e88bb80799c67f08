-- Formulas as they are handed over: clauses of whole numbers.
use Rattle.std.specs.Prelude.{◌≡◌, ℕ, ℤ, List, length, map}
use Rattle.l2_templates.specs.declared.point.LoopPoint.{LoopPoint}
use Rattle.l2_templates.specs.declared.point.LoopPoint.TheVariants.{Bottom, Rows}
use Rattle.l2_gates.specs.Gates.{Lit, number_of}
use Rattle.l2_goals.specs.declared.making.Goals.{Goals}
use Rattle.l2_goals.specs.Formulas.{Formulas}

abbrev pub numbers : List Lit → List ℤ
numbers = map number_of

abbrev pub all_numbers : List (List Lit) → List (List ℤ)
all_numbers = map numbers

-- these are the formulas
pub record AreFormulas (g : Goals) (fs : Formulas) : Type 0 where
  pub base : g.base ≡ all_numbers fs.base
  pub variables : g.variables ≡ fs.variables
  pub last : g.last ≡ all_numbers fs.last

-- how many rows each loop has
abbrev pub row_count : LoopPoint → ℕ
row_count Bottom = 0
row_count (Rows rows) = length rows

abbrev pub row_counts : List LoopPoint → List ℕ
row_counts = map row_count
