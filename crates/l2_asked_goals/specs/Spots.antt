-- Where the equations of a code ask for rows, and what a point says there.
use Rattle.std.specs.Prelude.{◌≡◌, ◌⊎◌, ℕ, suc, Bool, true, List, [], ◌∷◌, map, if◌then◌else◌}
use Rattle.l2_templates.specs.declared.point.LoopPoint.{LoopPoint}
use Rattle.l2_code.specs.declared.action.Operand.{Operand}
use Rattle.l2_code.specs.Trees.{CodeTree}
use Rattle.l2_code.specs.Sets.{Family}
use Rattle.l2_ssa.specs.Steps.{Names, Step, Row, Lower, values_of}
use Rattle.l2_ssa.specs.Walks.{Goal, Event}
use Rattle.l2_ssa_points.specs.Places.{vars_of}
use Rattle.l2_gates.specs.Gates.{Lit, F, same, Made, Bit, start}
use Rattle.l2_gates.specs.Models.{value}
use Rattle.l2_blast.specs.Words.{Env, name, first, literal, wide_words, Fill}
use Rattle.l2_blast.specs.Blasting.{Blasted}
use Rattle.l2_blast_laws.specs.Law.{solution}
use Rattle.l2_said_rows.specs.Saying.{alike}
use Rattle.l2_grown_laws.specs.Grown.{grown_rows, grown_ssa}
use Rattle.l2_grown_models.specs.Asking.{grown_clauses}

-- the variable that stands for a row of a loop at some values of the loop's variables
pub record Spot : Type 0 where
  pub own : Lit
  pub at : ℕ
  pub row : ℕ
  pub vars : List Operand

abbrev pub unless_false : Lit → Spot → List Spot → List Spot
unless_false g s rest = if same g F then rest else s ∷ rest

-- those of equations from a name on, whose paths aren't F; a ranking that were asked for would hold, as row 2 of no loop does
abbrev pub spots_of : Env → ℕ → List Step → List Spot
spots_of env n [] = []
spots_of env n (Row g l i vars ∷ xs) = unless_false (literal env g) (record { own = first (name env n).bits; at = l; row = i; vars = vars }) (spots_of env (suc n) xs)
spots_of env n (Lower g l old now ∷ xs) = unless_false (literal env g) (record { own = first (name env n).bits; at = 0; row = 2; vars = [] }) (spots_of env (suc n) xs)
spots_of env n (x ∷ xs) = spots_of env (suc n) xs

-- ---- of a code

-- the clauses of the grown equations and the words of their names
abbrev pub base_of : CodeTree → Family → ℕ → (ℕ → ℕ) → Blasted
base_of c f k counts = grown_clauses c (grown_ssa c f k counts) start

abbrev pub grown_spots : CodeTree → Family → ℕ → (ℕ → ℕ) → List Spot
grown_spots c f k counts = spots_of (base_of c f k counts).env 0 (grown_ssa c f k counts).steps

-- an event as its literal
pub record Shown : Type 0 where
  pub goal : Goal
  pub literal : Lit

abbrev pub shown_by : Env → Event → Shown
shown_by env e = record { goal = e.goal; literal = literal env e.literal }

abbrev pub grown_events : CodeTree → Family → ℕ → (ℕ → ℕ) → List Shown
grown_events c f k counts = map (shown_by (base_of c f k counts).env) (grown_ssa c f k counts).events

-- the literal of an event of this goal is true
abbrev pub HasLiteral : (ℕ → Bool) → Goal → List Shown → Type 0
HasLiteral v goal [] = ⊥
HasLiteral v goal (x ∷ xs) = ((x.goal ≡ goal) × (value v x.literal ≡ true)) ⊎ HasLiteral v goal xs

-- the values of the names in a model
abbrev pub grown_names : CodeTree → Family → ℕ → (ℕ → ℕ) → (ℕ → Bool) → Names
grown_names c f k counts v = solution (base_of c f k counts).env v

-- the variable is what a point says of its row
abbrev pub IsAsSaidAt : CodeTree → List LoopPoint → Env → (ℕ → Bool) → Spot → Type 0
IsAsSaidAt c q env v s = value v s.own ≡ grown_rows (vars_of c) q s.at s.row (values_of (solution env v) s.vars)

abbrev pub AllAsSaid : CodeTree → List LoopPoint → Env → (ℕ → Bool) → List Spot → Type 0
AllAsSaid c q env v [] = Unit {0}
AllAsSaid c q env v (s ∷ ss) = IsAsSaidAt c q env v s × AllAsSaid c q env v ss

-- the literal that the variable is what fills the row of this number
abbrev pub row_literal : Fill → Env → Spot → ℕ → Made → Bit
row_literal fill env s i m = alike s.own (fill.row s.at i (wide_words env s.vars) m)
