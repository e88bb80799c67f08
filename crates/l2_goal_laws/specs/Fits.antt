-- Points and rankings that fit a code.
use Rattle.std.specs.Prelude.{◌≡◌, ℕ, List, length, true, Option}
use Rattle.std.specs.List.{All}
use Rattle.l2_templates.specs.declared.form.Form.{Form}
use Rattle.l2_templates.specs.declared.form.Row.{Row}
use Rattle.l2_templates.specs.declared.point.LoopPoint.{LoopPoint}
use Rattle.l2_templates.specs.declared.point.LoopPoint.TheVariants.{Bottom, Rows}
use Rattle.l2_code.specs.Trees.{CodeTree}
use Rattle.l2_cuts.specs.Points.{point_at, ranks_at}
use Rattle.l2_row_circuits.specs.Law.{IsBound}
use Rattle.l2_ssa_points.specs.Places.{vars_of, or_no_ranks}
use Rattle.l2_ssa_points.specs.Law.{IsFormOver}

-- a form over these variables; where it has one, its second sign is plus
pub record IsFormOf (vars : List ℕ) (f : Form) : Type 0 where
  pub over : IsFormOver vars f
  pub plain : f.second ≡ 0 → f.second_plus ≡ true

-- a row over them, whose bound is from -2^64 - 1 to 2^64
pub record IsRowOf (vars : List ℕ) (row : Row) : Type 0 where
  pub form : IsFormOf vars row.form
  pub bound : IsBound row.bound

abbrev pub IsLoopOf : List ℕ → LoopPoint → Type 0
IsLoopOf vars Bottom = Unit {0}
IsLoopOf vars (Rows rows) = All (IsRowOf vars) rows

-- a point and rankings of a code's loops
pub record AreOf (c : CodeTree) (q : List LoopPoint) (ranks : Option (List (List Form))) : Type 0 where
  pub loops : length q ≡ length c.loops
  pub rows : (l : ℕ) → IsLoopOf (vars_of c l) (point_at q l)
  pub rankings : (l : ℕ) → All (IsFormOf (vars_of c l)) (ranks_at (or_no_ranks ranks) l)
