-- Lists of forms for one loop, and where the goal of a loop's ranking stands.
use Rattle.std.specs.Prelude.{ℕ, zero, suc, ◌+◌, List, [], ◌∷◌, ◌++◌, length, replicate}
use Rattle.l2_templates.specs.declared.form.Form.{Form}
use Rattle.l2_templates.specs.declared.point.LoopPoint.{LoopPoint}
use Rattle.l2_templates.specs.declared.point.LoopPoint.TheVariants.{Bottom, Rows}
use Rattle.l2_ssa_points.specs.Goals.{row_goals}

-- these forms rank the loop of an index, and none ranks another
abbrev pub only_at : ℕ → List Form → List (List Form)
only_at i fs = replicate i [] ++ fs ∷ []

-- whether a loop has a ranking's goal
abbrev pub rank_count : LoopPoint → ℕ
rank_count Bottom = 0
rank_count (Rows rows) = 1

-- how many goals of rankings stand before that of the loop of an index
abbrev pub ranks_before : List LoopPoint → ℕ → ℕ
ranks_before [] i = 0
ranks_before (p ∷ q) zero = 0
ranks_before (p ∷ q) (suc i) = rank_count p + ranks_before q i

-- the index of the goal of its ranking among all goals
abbrev pub rank_index : List LoopPoint → ℕ → ℕ
rank_index q i = length (row_goals 1 q) + ranks_before q i
