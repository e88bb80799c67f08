-- A program with its code, and what its formulas say of its cut runs.
use Rattle.std.specs.Prelude.{◌≡◌, ◌↔◌, ℕ, ◌+◌, ◌<◌, ◌≤◌, Bool, ℤ, List, length, slice_get, Some}
use Rattle.l2_runs.specs.declared.outcome.Outcome.TheVariants.{Broken}
use Rattle.l2_runs.specs.declared.member.Member.{Member}
use Rattle.l2_runs.specs.Runs.{End, Over, Fallen}
use Rattle.l2_program.specs.declared.program.Program.{Program}
use Rattle.l2_program.specs.Programs.{ProgramTree, program_tree}
use Rattle.l2_meaning.specs.Lawful.{IsLawful}
use Rattle.l2_templates.specs.declared.point.LoopPoint.{LoopPoint}
use Rattle.l2_cuts.specs.Cuts.{row_end}
use Rattle.l2_code.specs.declared.sets.Sets.{Sets}
use Rattle.l2_code.specs.declared.code.Code.{Code}
use Rattle.l2_code.specs.Trees.{CodeTree, code_of}
use Rattle.l2_code.specs.Sets.{AllRise, IsResolved, family}
use Rattle.l2_lower.specs.Code.{code}
use Rattle.l2_ssa.specs.Walks.{RowGoal}
use Rattle.l2_ssa_points.specs.Goals.{row_goals}
use Rattle.l2_missed.specs.Meeting.{IsMet}

-- the program is lawful, and this is its code with sets that are closed over it
pub record Belongs (p : ProgramTree) (c : CodeTree) (s : Sets) : Type 0 where
  pub lawful : IsLawful p
  pub is_code : c ≡ code p
  pub resolved : IsResolved c (family s)
  pub rise : AllRise s.sets

-- the same, where loops are cut into so many copies of a turn
pub record CutProgram : Type 0 where
  pub program : Program
  pub code : Code
  pub sets : Sets
  pub copies : ℕ

pub record IsCut (x : CutProgram) : Type 0 where
  pub belongs : Belongs (program_tree x.program) (code_of x.code) x.sets
  pub some : 1 ≤ x.copies

-- some choices make a cut run at the point end so
abbrev pub Ends : ProgramTree → (ℕ → Member → Bool) → ℕ → List LoopPoint → End → Type 0
Ends p sets k q x = (choices : List ℤ) × (row_end p sets k q choices ≡ x)

-- which of the last clauses can be met together with the base says which rows cut runs fail, and which checks they break: those of
-- the point's rows stand first, in the order of the row goals, and then those of so many checks
pub record TellRuns (p : ProgramTree) (sets : ℕ → Member → Bool) (k : ℕ) (q : List LoopPoint) (checks : ℕ) (base last : List (List ℤ)) : Type 0 where
  pub count : length last ≡ length (row_goals 1 q) + checks
  pub rows : (i l row : ℕ) → slice_get (row_goals 1 q) i ≡ Some (RowGoal l row) → IsMet base last i ↔ Ends p sets k q (Fallen l row)
  pub listed : (choices : List ℤ) (l row : ℕ) → row_end p sets k q choices ≡ Fallen l row → (i : ℕ) × (slice_get (row_goals 1 q) i ≡ Some (RowGoal l row))
  pub broken : (i : ℕ) → i < checks → IsMet base last (length (row_goals 1 q) + i) ↔ Ends p sets k q (Over (Broken (i + 1)))
  pub numbered : (choices : List ℤ) (c : ℕ) → row_end p sets k q choices ≡ Over (Broken c) → (i : ℕ) × (i < checks) × (c ≡ i + 1)
