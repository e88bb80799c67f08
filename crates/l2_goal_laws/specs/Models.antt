-- Models of the clauses of a code's equations, whatever fills the steps of rows and rankings.
use Rattle.std.specs.Prelude.{◌≡◌, ℕ, Bool, true}
use Rattle.l2_code.specs.Trees.{CodeTree}
use Rattle.l2_code.specs.Sets.{Family, IsResolved}
use Rattle.l2_code.specs.Modes.{types_of}
use Rattle.l2_code.specs.WellFormed.{IsWellFormed}
use Rattle.l2_runs.specs.Store.{Store}
use Rattle.l2_ssa_points.specs.Places.{vars_of}
use Rattle.l2_supply.specs.Supply.{Supply}
use Rattle.l2_ssa.specs.Steps.{Names, Meaning, Solves}
use Rattle.l2_ssa.specs.Walks.{Kind, Goal, Out}
use Rattle.l2_ssa.specs.Law.{RowsOf, RanksOf, first_cells, ssa, HasEvent, Matches}
use Rattle.l2_ssa_laws.specs.Entering.{Enters}
use Rattle.l2_gates.specs.Models.{some_true, Ok}
use Rattle.l2_blast.specs.Words.{Fill}
use Rattle.l2_blast.specs.Kept.{setting_of}
use Rattle.l2_blast.specs.Blasting.{Blasted, clauses_of}
use Rattle.l2_blast_laws.specs.Law.{IsMade, FillMeans, solution}
use Rattle.l2_typed_steps.specs.Direct.{AreDirect}
use Rattle.l2_goals.specs.Formulas.{literals}

-- a well-formed code with sets with which it may be resolved, whose constant addresses are those of cells
pub record IsReady (c : CodeTree) (f : Family) : Type 0 where
  pub well_formed : IsWellFormed c
  pub resolved : IsResolved c f
  pub direct : AreDirect (types_of c).objects c.body

-- the clauses of a code's equations
abbrev pub clauses_with : CodeTree → Fill → Out → Blasted
clauses_with c fill o = clauses_of (setting_of c fill) o.steps

abbrev pub meaning_with : CodeTree → RowsOf → RanksOf → Meaning
meaning_with c row lower = record { types = types_of c; row = row; lower = lower }

-- what fills the steps of rows and rankings is made, and gives what these say
pub record Fills (c : CodeTree) (fill : Fill) (row : RowsOf) (lower : RanksOf) : Type 0 where
  pub made : IsMade fill
  pub means : (v : ℕ → Bool) → v 0 ≡ true → FillMeans v fill (meaning_with c row lower)

-- the ranking of each loop says of its variables' values whether a turn is lower
abbrev pub AreLower : CodeTree → RanksOf → (ℕ → Store → Store → Bool) → Type 0
AreLower c lower low = (l : ℕ) (a b : Store) → lower l (first_cells a (vars_of c l)) (first_cells b (vars_of c l)) ≡ low l a b

-- an event of the goal is true besides the clauses
abbrev pub IsModel : Blasted → Out → Goal → (ℕ → Bool) → Type 0
IsModel b o goal v = Ok v b.made × (some_true v (literals b.env goal o.events) ≡ true)

abbrev pub HasModel : CodeTree → Fill → Out → Goal → Type 0
HasModel c fill o goal = (v : ℕ → Bool) × IsModel (clauses_with c fill o) o goal v

-- in each model of a goal the words show a solution of the equations in which an event of the goal is true
abbrev pub ModelsAreSolutions : Type 0
ModelsAreSolutions =
    (c : CodeTree) (f : Family) → IsReady c f → (k : ℕ) (kind : ℕ → Kind) (ranks : Bool) (fill : Fill) (row : RowsOf) (lower : RanksOf) → Fills c fill row lower
    → (goal : Goal) (v : ℕ → Bool) → IsModel (clauses_with c fill (ssa c f k kind ranks)) (ssa c f k kind ranks) goal v
    → (v 0 ≡ true) × Solves (meaning_with c row lower) (solution (clauses_with c fill (ssa c f k kind ranks)).env v) 0 (ssa c f k kind ranks).steps
    × HasEvent (solution (clauses_with c fill (ssa c f k kind ranks)).env v) goal (ssa c f k kind ranks).events

-- each supply that enters the loops without back starts has a solution that matches it; and where an event of a goal is true in it, the
-- goal has a model
abbrev pub SuppliesAreSolutions : Type 0
SuppliesAreSolutions =
    (c : CodeTree) (f : Family) → IsReady c f → (k : ℕ) (kind : ℕ → Kind) (ranks : Bool) (fill : Fill) (row : RowsOf) (lower : RanksOf) → Fills c fill row lower
    → (u : Supply) → Enters (types_of c).objects (ssa c f k kind ranks).given u
    → (s : Names) × Solves (meaning_with c row lower) s 0 (ssa c f k kind ranks).steps × Matches (types_of c).objects s (ssa c f k kind ranks).given u
    × ((goal : Goal) → HasEvent s goal (ssa c f k kind ranks).events → HasModel c fill (ssa c f k kind ranks) goal)
