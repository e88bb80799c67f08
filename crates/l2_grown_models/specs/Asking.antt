-- Clauses behind which those of the grown equations stand, and literals by which they are asked for the runs of a question.
use Rattle.std.specs.Prelude.{◌≡◌, ◌==◌, ◌&&◌, ℕ, Bool, true, false, List, length}
use Rattle.l2_templates.specs.declared.point.LoopPoint.{LoopPoint}
use Rattle.l2_code.specs.Trees.{CodeTree}
use Rattle.l2_code.specs.Modes.{types_of}
use Rattle.l2_ssa.specs.Steps.{Meaning}
use Rattle.l2_ssa.specs.Walks.{Goal, RowGoal, RankGoal, CheckGoal, Out}
use Rattle.l2_ssa.specs.Law.{RanksOf, HasEvent}
use Rattle.l2_ssa_points.specs.Places.{vars_of}
use Rattle.l2_gates.specs.Gates.{Lit, Made}
use Rattle.l2_gates.specs.Models.{value, Ok}
use Rattle.l2_blast.specs.Words.{Setting}
use Rattle.l2_blast.specs.Blasting.{Blasted}
use Rattle.l2_blast_laws.specs.Law.{solution}
use Rattle.l2_blast_laws.specs.Behind.{behind, open_setting, AreAsSaid}
use Rattle.l2_said_rows.specs.Law.{AllTrue}
use Rattle.l2_cuts.specs.Points.{point_at}
use Rattle.l2_renumber_laws.specs.Fronted.{has_rows}
use Rattle.l2_grown_laws.specs.Questions as questions
use Rattle.l2_grown_laws.specs.Questions.{Question, Any, Break}
use Rattle.l2_grown_laws.specs.Grown.{grown_rows, in_front, IsAnswer}

abbrev pub open_of : CodeTree → Setting
open_of c = open_setting (types_of c) (length c.objects)

-- the clauses of the grown equations behind those that there are; rows are variables of their own
abbrev pub grown_clauses : CodeTree → Out → Made → Blasted
grown_clauses c o m = behind (open_of c) o.steps m

-- no ranking is asked for
abbrev pub no_ranks : RanksOf
no_ranks l old new = true

abbrev pub meaning_at : CodeTree → List LoopPoint → Meaning
meaning_at c q = record { types = types_of c; row = grown_rows (vars_of c) q; lower = no_ranks }

-- in each model of these clauses the literals are true exactly where the variables of rows are as the point says
pub record SayRows (c : CodeTree) (o : Out) (b : Blasted) (q : List LoopPoint) (m : Made) (ys : List Lit) : Type 0 where
  pub only : (v : ℕ → Bool) → v 0 ≡ true → Ok v m → AllTrue v ys → AreAsSaid (meaning_at c q) b.env (solution b.env v) 0 o.steps
  pub all : (v : ℕ → Bool) → v 0 ≡ true → Ok v m → AreAsSaid (meaning_at c q) b.env (solution b.env v) 0 o.steps → AllTrue v ys

-- the literal is true exactly where some event is by which the question is answered
pub record SaysEvent (o : Out) (b : Blasted) (x : Question) (m : Made) (z : Lit) : Type 0 where
  pub only : (v : ℕ → Bool) → v 0 ≡ true → Ok v m → value v z ≡ true → (goal : Goal) × IsAnswer x goal × HasEvent (solution b.env v) goal o.events
  pub some : (v : ℕ → Bool) → v 0 ≡ true → Ok v m → (goal : Goal) → IsAnswer x goal → HasEvent (solution b.env v) goal o.events → value v z ≡ true

-- the same as a test: by which goals a question is answered
abbrev pub is_asked : Question → Goal → Bool
is_asked (questions.Row q at row above) (RowGoal l i) = (l == at) && (i == in_front (has_rows (point_at q at)))
is_asked (questions.Row q at row above) goal = false
is_asked (Any q) (RowGoal l i) = true
is_asked (Any q) goal = false
is_asked (Break q) (RowGoal l i) = true
is_asked (Break q) (RankGoal l) = false
is_asked (Break q) (CheckGoal n) = true
