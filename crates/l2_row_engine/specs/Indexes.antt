-- Where the goals of a point's rows stand.
use Rattle.std.specs.Prelude.{ℕ, zero, suc, ◌+◌, List, [], ◌∷◌, length}
use Rattle.l2_templates.specs.declared.point.LoopPoint.{LoopPoint}
use Rattle.l2_templates.specs.declared.point.LoopPoint.TheVariants.{Bottom, Rows}

-- how many goals a loop's rows have
abbrev pub goal_count : LoopPoint → ℕ
goal_count Bottom = 1
goal_count (Rows rows) = length rows

-- how many goals stand before those of the loop of an index
abbrev pub goals_before : List LoopPoint → ℕ → ℕ
goals_before [] i = 0
goals_before (p ∷ q) zero = 0
goals_before (p ∷ q) (suc i) = goal_count p + goals_before q i

-- the number of the first row of a loop
abbrev pub first_row : LoopPoint → ℕ
first_row Bottom = 0
first_row (Rows rows) = 1
