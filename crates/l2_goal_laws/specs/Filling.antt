-- What a point fills the steps of rows and rankings with.
use Rattle.std.specs.Prelude.{◌≡◌, ℕ, Bool, true, List, Option}
use Rattle.std.specs.List.{All}
use Rattle.l2_templates.specs.declared.form.Form.{Form}
use Rattle.l2_templates.specs.declared.point.LoopPoint.{LoopPoint}
use Rattle.l2_cuts.specs.Points.{point_at, ranks_at}
use Rattle.l2_code.specs.Values.{Types}
use Rattle.l2_blast_laws.specs.Law.{IsMade, FillMeans}
use Rattle.l2_ssa_points.specs.Places.{place, or_no_ranks}
use Rattle.l2_ssa_points.specs.Meanings.{rows_say, ranks_say}
use Rattle.l2_goals.specs.Fills.{fill_of}
use Rattle.l2_goal_laws.specs.Fits.{IsFormOf, IsLoopOf}

-- it is made
abbrev pub FillsAreMade : Type 0
FillsAreMade = (vars : ℕ → List ℕ) (q : List LoopPoint) (ranks : Option (List (List Form))) → IsMade (fill_of vars q ranks)

-- and gives what the point says, where its forms are over the loops' variables
abbrev pub FillsMean : Type 0
FillsMean =
    (types : Types) (vars : ℕ → List ℕ) (q : List LoopPoint) (ranks : Option (List (List Form))) → ((l : ℕ) → place (vars l) 0 ≡ 0) → ((l : ℕ) → IsLoopOf (vars l) (point_at q l)) → ((l : ℕ) → All (IsFormOf (vars l)) (ranks_at (or_no_ranks ranks) l))
    → (v : ℕ → Bool) → v 0 ≡ true → FillMeans v (fill_of vars q ranks) (record { types = types; row = rows_say vars q; lower = ranks_say vars ranks })
