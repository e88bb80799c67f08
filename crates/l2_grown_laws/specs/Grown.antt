-- Equations that serve all points: each loop has one row in front, that it isn't at Bottom, and as many behind it as any point gives it.
use Rattle.std.specs.Prelude.{◌≡◌, ℕ, zero, suc, ◌≤◌, Bool, true, false, List, length}
use Rattle.l2_templates.specs.declared.point.LoopPoint.{LoopPoint}
use Rattle.l2_templates.specs.Forms.{row_holds}
use Rattle.l2_cuts.specs.Points.{point_at}
use Rattle.l2_code.specs.Trees.{CodeTree}
use Rattle.l2_code.specs.Sets.{Family}
use Rattle.l2_renumber_laws.specs.Fronted.{has_rows, its_rows}
use Rattle.l2_ssa.specs.Walks.{Kind, Rows, Goal, RowGoal, RankGoal, CheckGoal, Out}
use Rattle.l2_ssa.specs.Law.{RowsOf, ssa}
use Rattle.l2_ssa_points.specs.Places.{placed_row_at}
use Rattle.l2_ssa_points.specs.Meanings.{numbers_in}
use Rattle.l2_grown_laws.specs.Questions as questions
use Rattle.l2_grown_laws.specs.Questions.{Question, Any, Break}

abbrev pub grown_kind : (ℕ → ℕ) → ℕ → Kind
grown_kind counts l = Rows (suc (counts l))

abbrev pub grown_ssa : CodeTree → Family → ℕ → (ℕ → ℕ) → Out
grown_ssa c f k counts = ssa c f k (grown_kind counts) false

-- what a point says: row 1 that the loop isn't at Bottom, and behind it its rows; those behind the last one hold
abbrev pub grown_rows : (ℕ → List ℕ) → List LoopPoint → RowsOf
grown_rows vars q l zero cells = false
grown_rows vars q l (suc zero) cells = has_rows (point_at q l)
grown_rows vars q l (suc (suc i)) cells = row_holds (placed_row_at vars q l (suc i)) (numbers_in cells)

-- there is a place for each row of the point
abbrev pub HasRoom : (ℕ → ℕ) → List LoopPoint → Type 0
HasRoom counts q = (l : ℕ) → length (its_rows (point_at q l)) ≤ counts l

abbrev pub in_front : Bool → ℕ
in_front true = 2
in_front false = 1

-- the events by which a question is answered: of a row that is asked for, that of the row in front of the others, or at Bottom of row 1
abbrev pub IsAnswer : Question → Goal → Type 0
IsAnswer (questions.Row q at row above) goal = goal ≡ RowGoal at (in_front (has_rows (point_at q at)))
IsAnswer (Any q) (RowGoal l i) = Unit {0}
IsAnswer (Any q) goal = ⊥
IsAnswer (Break q) (RowGoal l i) = Unit {0}
IsAnswer (Break q) (RankGoal l) = ⊥
IsAnswer (Break q) (CheckGoal n) = Unit {0}
