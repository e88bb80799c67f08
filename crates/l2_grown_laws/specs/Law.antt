-- The solutions of the grown equations with a true event of a question are the runs that it asks for.
use Rattle.std.specs.Prelude.{◌≡◌, ℕ, suc, ◌≤◌, ℤ, List, None}
use Rattle.l2_runs.specs.declared.outcome.Outcome.TheVariants.{Broken}
use Rattle.l2_runs.specs.Runs.{Over, Fallen}
use Rattle.l2_runs.specs.Loops.{Tests}
use Rattle.l2_program.specs.Programs.{ProgramTree}
use Rattle.l2_meaning.specs.Execution.{exec}
use Rattle.l2_templates.specs.declared.point.LoopPoint.{LoopPoint}
use Rattle.l2_cuts.specs.Cuts.{cut_limit, row_end}
use Rattle.l2_code.specs.Trees.{CodeTree}
use Rattle.l2_code.specs.Sets.{Family, IsResolved}
use Rattle.l2_code.specs.Modes.{types_of}
use Rattle.l2_code.specs.WellFormed.{IsWellFormed}
use Rattle.l2_lower.specs.Alike.{exec_code}
use Rattle.l2_cut_code.specs.Limits.{point_limit}
use Rattle.l2_supply.specs.Supply.{Supply}
use Rattle.l2_ssa.specs.Steps.{Names, Solves}
use Rattle.l2_ssa.specs.Walks.{Goal, RowGoal, CheckGoal}
use Rattle.l2_ssa.specs.Law.{RanksOf, HasEvent, Matches}
use Rattle.l2_ssa_laws.specs.Entering.{Enters}
use Rattle.l2_ssa_points.specs.Places.{vars_of}
use Rattle.l2_ssa_points.specs.Law.{AreOver}
use Rattle.l2_grown_laws.specs.Questions.{Question, Asks, IsPut, asked_point}
use Rattle.l2_grown_laws.specs.Grown.{grown_ssa, grown_rows, HasRoom, IsAnswer}

-- cut executions of the code end as those of the program
abbrev pub DoesLike : ProgramTree → Family → CodeTree → Type 0
DoesLike p f c =
    (k : ℕ) (q : List LoopPoint) (tests : Tests) (choices : List ℤ) → (exec p (cut_limit p f.object k q) tests choices 0).end ≡ (exec_code c (point_limit c f k q) tests choices 0).end

-- a well-formed code over its sets that does what a program does
pub record IsCodeOf (p : ProgramTree) (f : Family) (c : CodeTree) : Type 0 where
  pub well_formed : IsWellFormed c
  pub resolved : IsResolved c f
  pub like : DoesLike p f c

-- the names solve the grown equations, by what a point says
abbrev pub SolvesGrown : CodeTree → Family → ℕ → (ℕ → ℕ) → List LoopPoint → RanksOf → Names → Type 0
SolvesGrown c f k counts q lower s = Solves (record { types = types_of c; row = grown_rows (vars_of c) q; lower = lower }) s 0 (grown_ssa c f k counts).steps

-- some values of the names that choices give, which enter the loops without back starts, make an event true, in whatever way the
-- equations are then solved
abbrev pub IsMade : CodeTree → Family → ℕ → (ℕ → ℕ) → List LoopPoint → RanksOf → (Goal → Type 0) → Type 0
IsMade c f k counts q lower IsGoal =
    (u : Supply) × Enters (types_of c).objects (grown_ssa c f k counts).given u × ((s : Names) → SolvesGrown c f k counts q lower s → Matches (types_of c).objects s (grown_ssa c f k counts).given u
    → (goal : Goal) × IsGoal goal × HasEvent s goal (grown_ssa c f k counts).events)

-- where an event of a row is true, some run fails the row before it, and so of a check; and the other way round
pub record GrownRuns : Type 0 where
  pub rows : (p : ProgramTree) (f : Family) (c : CodeTree) → IsCodeOf p f c → (k : ℕ) → 1 ≤ k → (counts : ℕ → ℕ) (q : List LoopPoint) → AreOver c q None → HasRoom counts q → (lower : RanksOf) (s : Names)
      → SolvesGrown c f k counts q lower s → (l i : ℕ) → HasEvent s (RowGoal l i) (grown_ssa c f k counts).events
      → (j : ℕ) × (i ≡ suc j) × ((choices : List ℤ) × (row_end p f.object k q choices ≡ Fallen l j))
  pub checks : (p : ProgramTree) (f : Family) (c : CodeTree) → IsCodeOf p f c → (k : ℕ) → 1 ≤ k → (counts : ℕ → ℕ) (q : List LoopPoint) → AreOver c q None → HasRoom counts q → (lower : RanksOf) (s : Names)
      → SolvesGrown c f k counts q lower s → (n : ℕ) → HasEvent s (CheckGoal n) (grown_ssa c f k counts).events
      → (choices : List ℤ) × (row_end p f.object k q choices ≡ Over (Broken n))
  pub fails : (p : ProgramTree) (f : Family) (c : CodeTree) → IsCodeOf p f c → (k : ℕ) → 1 ≤ k → (counts : ℕ → ℕ) (q : List LoopPoint) → AreOver c q None → HasRoom counts q → (lower : RanksOf)
      → (choices : List ℤ) (l j : ℕ) → row_end p f.object k q choices ≡ Fallen l j → IsMade c f k counts q lower (λ goal. goal ≡ RowGoal l (suc j))
  pub breaks : (p : ProgramTree) (f : Family) (c : CodeTree) → IsCodeOf p f c → (k : ℕ) → 1 ≤ k → (counts : ℕ → ℕ) (q : List LoopPoint) → AreOver c q None → HasRoom counts q → (lower : RanksOf)
      → (choices : List ℤ) (n : ℕ) → row_end p f.object k q choices ≡ Over (Broken n) → IsMade c f k counts q lower (λ goal. goal ≡ CheckGoal n)

-- where an event of a question is true, the run that it asks for exists; and the other way round
pub record QuestionsAreRuns : Type 0 where
  pub found : (p : ProgramTree) (f : Family) (c : CodeTree) → IsCodeOf p f c → (k : ℕ) → 1 ≤ k → (counts : ℕ → ℕ) (x : Question) → IsPut x → AreOver c (asked_point x) None → HasRoom counts (asked_point x)
      → (lower : RanksOf) (s : Names) → SolvesGrown c f k counts (asked_point x) lower s → (goal : Goal) → IsAnswer x goal → HasEvent s goal (grown_ssa c f k counts).events → Asks p f.object k x
  pub made : (p : ProgramTree) (f : Family) (c : CodeTree) → IsCodeOf p f c → (k : ℕ) → 1 ≤ k → (counts : ℕ → ℕ) (x : Question) → IsPut x → AreOver c (asked_point x) None → HasRoom counts (asked_point x)
      → (lower : RanksOf) → Asks p f.object k x → IsMade c f k counts (asked_point x) lower (IsAnswer x)
