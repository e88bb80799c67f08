-- That the formulas of a program's code tell of its cut runs.
use Rattle.std.specs.Prelude.{ℕ, ◌≤◌, List, length, None}
use Rattle.l2_program.specs.Programs.{ProgramTree}
use Rattle.l2_templates.specs.declared.point.LoopPoint.{LoopPoint}
use Rattle.l2_code.specs.declared.sets.Sets.{Sets}
use Rattle.l2_code.specs.Trees.{CodeTree}
use Rattle.l2_code.specs.Sets.{family}
use Rattle.l2_goals.specs.declared.making.Goals.{Goals}
use Rattle.l2_goals.specs.Formulas.{formulas}
use Rattle.l2_goals.specs.Numbers.{AreFormulas}
use Rattle.l2_goal_laws.specs.Fits.{AreOf}
use Rattle.l2_row_engine.specs.Cutting.{Belongs, TellRuns}

abbrev pub GoalsTell : Type 0
GoalsTell =
    (p : ProgramTree) (c : CodeTree) (s : Sets) → Belongs p c s → (k : ℕ) → 1 ≤ k → (q : List LoopPoint) → AreOf c q None
    → (g : Goals) → AreFormulas g (formulas c (family s) k q None) → TellRuns p (family s).object k q (length c.checks) g.base g.last
