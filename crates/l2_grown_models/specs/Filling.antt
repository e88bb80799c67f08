-- What fills the rows of grown equations, by what fills those of a point.
use Rattle.std.specs.Prelude.{◌≡◌, ℕ, zero, suc, Bool, true, List}
use Rattle.l2_templates.specs.declared.point.LoopPoint.{LoopPoint}
use Rattle.l2_cuts.specs.Points.{point_at}
use Rattle.l2_code.specs.Trees.{CodeTree}
use Rattle.l2_code.specs.Modes.{types_of}
use Rattle.l2_renumber_laws.specs.Fronted.{has_rows}
use Rattle.l2_ssa.specs.Law.{RanksOf}
use Rattle.l2_ssa_points.specs.Places.{vars_of}
use Rattle.l2_ssa_points.specs.Meanings.{rows_say}
use Rattle.l2_gates.specs.Gates.{Lit, T, F, Made, Bit, known}
use Rattle.l2_circuits.specs.Words.{literal_if}
use Rattle.l2_blast.specs.Words.{Fill}
use Rattle.l2_blast_laws.specs.Law.{IsMade, FillMeans}
use Rattle.l2_grown_models.specs.Asking.{meaning_at}

-- row 1 says that the loop isn't at Bottom, and behind it stand the point's rows; no ranking is asked for
abbrev pub grown_row : List LoopPoint → Fill → ℕ → ℕ → List (List Lit) → Made → Bit
grown_row q fill l zero words m = known F m
grown_row q fill l (suc zero) words m = known (literal_if (has_rows (point_at q l))) m
grown_row q fill l (suc (suc i)) words m = fill.row l (suc i) words m

abbrev pub grown_fill : List LoopPoint → Fill → Fill
grown_fill q fill = record { row = grown_row q fill; lower = λ l old new m. known T m }

-- it is made where the point's fill is, and gives what the point says where this does
pub record GrownFills : Type 0 where
  pub made : (q : List LoopPoint) (fill : Fill) → IsMade fill → IsMade (grown_fill q fill)
  pub means : (c : CodeTree) (q : List LoopPoint) (fill : Fill) (lower : RanksOf) (v : ℕ → Bool) → v 0 ≡ true
      → FillMeans v fill (record { types = types_of c; row = rows_say (vars_of c) q; lower = lower }) → FillMeans v (grown_fill q fill) (meaning_at c q)
