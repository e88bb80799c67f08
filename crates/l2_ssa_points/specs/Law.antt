-- The tests and back starts of a code's equations at a point are those of the point.
use Rattle.std.specs.Prelude.{◌≡◌, ◌⊎◌, ℕ, Bool, true, false, List, Option}
use Rattle.std.specs.List.{All}
use Rattle.l2_run_laws.specs.Watches.{alone}
use Rattle.l2_templates.specs.declared.form.Form.{Form}
use Rattle.l2_templates.specs.declared.form.Row.{Row}
use Rattle.l2_templates.specs.declared.point.LoopPoint.{LoopPoint}
use Rattle.l2_templates.specs.declared.point.LoopPoint.TheVariants.{Bottom, Rows}
use Rattle.l2_templates.specs.Domains.{is_in}
use Rattle.l2_code.specs.Trees.{CodeTree}
use Rattle.l2_code.specs.Sets.{Family}
use Rattle.l2_code.specs.Modes.{Cut, limit_of}
use Rattle.l2_cuts.specs.Points.{point_at, ranks_at}
use Rattle.l2_cuts.specs.Cuts.{rows_at}
use Rattle.l2_cut_code.specs.Limits.{point_limit}
use Rattle.l2_ssa.specs.Law.{setting_of, starts, tests}
use Rattle.l2_ssa_points.specs.Goals.{kind_at}
use Rattle.l2_ssa_points.specs.Places.{vars_of, or_no_ranks}
use Rattle.l2_ssa_points.specs.Meanings.{rows_say, ranks_say}

-- a form over these variables
pub record IsFormOver (vars : List ℕ) (f : Form) : Type 0 where
  pub first : is_in vars f.first ≡ true
  pub second : (f.second ≡ 0) ⊎ (is_in vars f.second ≡ true)

abbrev pub IsLoopOver : List ℕ → LoopPoint → Type 0
IsLoopOver vars Bottom = Unit {0}
IsLoopOver vars (Rows rows) = All (λ (row : Row). IsFormOver vars row.form) rows

-- a point and rankings over the variables of a code's loops
pub record AreOver (c : CodeTree) (q : List LoopPoint) (ranks : Option (List (List Form))) : Type 0 where
  pub rows : (l : ℕ) → IsLoopOver (vars_of c l) (point_at q l)
  pub rankings : (l : ℕ) → All (IsFormOver (vars_of c l)) (ranks_at (or_no_ranks ranks) l)

-- loops start back at a point
abbrev pub PointsStart : Type 0
PointsStart =
    (c : CodeTree) (f : Family) (k : ℕ) (q : List LoopPoint) (ranks : Option (List (List Form))) → AreOver c q ranks → (rk : Bool)
    → limit_of c f (Cut k (starts (rows_say (vars_of c) q) (setting_of c f k (kind_at q) rk))) ≡ point_limit c f k q

-- where no rankings are asked for, the tests at the ends of turns are the point's rows
abbrev pub PointsTest : Type 0
PointsTest =
    (c : CodeTree) (f : Family) (k : ℕ) (q : List LoopPoint) (ranks : Option (List (List Form))) → AreOver c q ranks
    → tests (rows_say (vars_of c) q) (ranks_say (vars_of c) ranks) (setting_of c f k (kind_at q) false) ≡ alone (rows_at q)
