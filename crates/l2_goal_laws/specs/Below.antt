-- What the crates below say of equations, of their clauses and runs, and of programs.
use Rattle.std.specs.Prelude.{◌≡◌, ℕ, ◌≤◌, ℤ, Bool, true, List}
use Rattle.l2_runs.specs.Loops.{Tests}
use Rattle.l2_templates.specs.declared.form.Form.{Form}
use Rattle.l2_templates.specs.declared.point.LoopPoint.{LoopPoint}
use Rattle.l2_program.specs.Programs.{ProgramTree}
use Rattle.l2_meaning.specs.Execution.{cells_of, exec, Safe}
use Rattle.l2_meaning.specs.Pointing.{Sets, AreClosed}
use Rattle.l2_meaning.specs.Lawful.{IsLawful}
use Rattle.l2_code.specs.Sets.{Family, IsClosed}
use Rattle.l2_code.specs.Modes.{types_of}
use Rattle.l2_code.specs.WellFormed.{IsWellFormed}
use Rattle.l2_lower.specs.Alike.{exec_code}
use Rattle.l2_lower.specs.Code.{code}
use Rattle.l2_cuts.specs.Cuts.{cut_limit, Proves, RankProves}
use Rattle.l2_cuts.specs.Turns.{Terminating}
use Rattle.l2_cut_code.specs.Limits.{NameCells, point_limit}
use Rattle.l2_labels.specs.Law.{RunsAlike, StaysWellFormed, StaysResolved}
use Rattle.l2_direct_code.specs.Law.{CodeIsDirect, StaysDirect}
use Rattle.l2_ssa.specs.Steps.{Step}
use Rattle.l2_ssa.specs.Law.{SolutionsRun, StepsInOrder}
use Rattle.l2_ssa_laws.specs.Entering.{RunsEnter}
use Rattle.l2_ssa_laws.specs.Events.{EventsNamed}
use Rattle.l2_ssa_laws.specs.Rankings.{RowsRun, RanksRun, RunsFall, NoneWatched}
use Rattle.l2_ssa_points.specs.Law.{PointsStart, PointsTest}
use Rattle.l2_gates.specs.Models.{Ok}
use Rattle.l2_blast.specs.Words.{Setting}
use Rattle.l2_blast.specs.Blasting.{clauses_of}
use Rattle.l2_blast_laws.specs.Law.{IsMade, ModelsSolve, FillsHold, ChoicesHaveModels, LiteralsShow}
use Rattle.l2_typed_steps.specs.Law.{StepsAreTyped}
use Rattle.l2_given_steps.specs.Law.{ChoicesMatch}
use Rattle.l2_goal_laws.specs.Filling.{FillsAreMade, FillsMean}

-- variable 1 is true where the clauses are
abbrev pub FirstIsTrue : Type 0
FirstIsTrue = (s : Setting) → IsMade s.fill → (xs : List Step) (v : ℕ → Bool) → Ok v (clauses_of s xs).made → v 0 ≡ true

-- of equations and their clauses
pub record Below : Type 0 where
  pub in_order : StepsInOrder
  pub typed : StepsAreTyped
  pub choices_match : ChoicesMatch
  pub choices_have_models : ChoicesHaveModels
  pub models_solve : ModelsSolve
  pub fills_hold : FillsHold
  pub literals_show : LiteralsShow
  pub first_true : FirstIsTrue

-- of equations and runs
pub record Runs : Type 0 where
  pub solutions_run : SolutionsRun
  pub runs_enter : RunsEnter
  pub rows_run : RowsRun
  pub ranks_run : RanksRun
  pub runs_fall : RunsFall
  pub none_watched : NoneWatched
  pub named : EventsNamed
  pub points_start : PointsStart
  pub points_test : PointsTest

-- and of programs and their code
pub record Laws : Type 0 where
  pub below : Below
  pub runs : Runs
  pub made : FillsAreMade
  pub mean : FillsMean
  pub well_formed : (p : ProgramTree) → IsLawful p → IsWellFormed (code p)
  pub direct : CodeIsDirect
  pub runs_alike : RunsAlike
  pub stays_well_formed : StaysWellFormed
  pub stays_resolved : StaysResolved
  pub stays_direct : StaysDirect
  pub cells : (p : ProgramTree) → (types_of (code p)).objects ≡ cells_of p
  pub closed : (p : ProgramTree) → IsLawful p → (f : Family) → IsClosed (code p) f → AreClosed p f.object
  pub executions : (p : ProgramTree) → IsLawful p → (f : Family) → NameCells (cells_of p) f.object → (k : ℕ) (q : List LoopPoint) (tests : Tests) (choices : List ℤ) (turns : ℕ)
      → exec p (cut_limit p f.object k q) tests choices turns ≡ exec_code (code p) (point_limit (code p) f k q) tests choices turns
  pub safe : (p : ProgramTree) → IsLawful p → (sets : Sets) → AreClosed p sets → (k : ℕ) → 1 ≤ k → (q : List LoopPoint) → Proves p sets k q → Safe p
  pub terminating : (p : ProgramTree) → IsLawful p → (sets : Sets) → AreClosed p sets → (k : ℕ) → 1 ≤ k → (q : List LoopPoint) (r : List (List Form)) → RankProves p sets k q r → Terminating p r
