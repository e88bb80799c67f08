-- What is to be shown of a code at a point: its goals, in their order.
use Rattle.std.specs.Prelude.{ℕ, zero, suc, List, [], ◌∷◌, ◌++◌, length, Option, Some, None}
use Rattle.l2_templates.specs.declared.form.Form.{Form}
use Rattle.l2_templates.specs.declared.point.LoopPoint.{LoopPoint}
use Rattle.l2_templates.specs.declared.point.LoopPoint.TheVariants as point
use Rattle.l2_cuts.specs.Points.{point_at}
use Rattle.l2_ssa.specs.Walks.{Kind, Bottom, Rows, Goal, RowGoal, RankGoal, CheckGoal}

-- what a loop is to the walk
abbrev pub kind_of : LoopPoint → Kind
kind_of point.Bottom = Bottom
kind_of (point.Rows rows) = Rows (length rows)

abbrev pub kind_at : List LoopPoint → ℕ → Kind
kind_at q l = kind_of (point_at q l)

-- the goals of so many rows of a loop, from row i on
abbrev pub goals_of_rows : ℕ → ℕ → ℕ → List Goal
goals_of_rows l i zero = []
goals_of_rows l i (suc more) = RowGoal l i ∷ goals_of_rows l (suc i) more

-- the rows of a loop, or that no turn of it ends
abbrev pub loop_goals : ℕ → LoopPoint → List Goal
loop_goals l point.Bottom = RowGoal l 0 ∷ []
loop_goals l (point.Rows rows) = goals_of_rows l 1 (length rows)

-- of the loops from number l on
abbrev pub row_goals : ℕ → List LoopPoint → List Goal
row_goals l [] = []
row_goals l (p ∷ q) = loop_goals l p ++ row_goals (suc l) q

abbrev pub loop_rank_goals : ℕ → LoopPoint → List Goal
loop_rank_goals l point.Bottom = []
loop_rank_goals l (point.Rows rows) = RankGoal l ∷ []

-- the ranking of each loop that isn't at Bottom
abbrev pub rank_goals : ℕ → List LoopPoint → List Goal
rank_goals l [] = []
rank_goals l (p ∷ q) = loop_rank_goals l p ++ rank_goals (suc l) q

-- so many checks from number n on
abbrev pub check_goals : ℕ → ℕ → List Goal
check_goals n zero = []
check_goals n (suc more) = CheckGoal n ∷ check_goals (suc n) more

-- where there are rankings, these are shown, and checks aren't
abbrev pub last_goals : ℕ → List LoopPoint → Option (List (List Form)) → List Goal
last_goals checks q None = check_goals 1 checks
last_goals checks q (Some ranks) = rank_goals 1 q

-- the goals of a point, and of rankings or of so many checks
abbrev pub goals : ℕ → List LoopPoint → Option (List (List Form)) → List Goal
goals checks q ranks = row_goals 1 q ++ last_goals checks q ranks
