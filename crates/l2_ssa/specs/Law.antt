-- The solutions of a code's equations are its cut runs.
use Rattle.std.specs.Prelude.{◌≡◌, ◌⊎◌, ℕ, zero, suc, ◌≤◌, ℤ, pos, Bool, true, false, not, ◌&&◌, ◌||◌, List, [], ◌∷◌, ◌++◌, length, Option, Some, None}
use Rattle.l2_runs.specs.declared.outcome.Outcome.TheVariants.{Broken}
use Rattle.l2_runs.specs.Numbers.{at_number}
use Rattle.l2_runs.specs.Runs.{End, Over, Fallen, Result, Go, Halt}
use Rattle.l2_code.specs.declared.action.Operand.{Operand}
use Rattle.l2_code.specs.declared.action.Operand.TheVariants.{Constant}
use Rattle.l2_code.specs.declared.code.CodeObject.{CodeObject}
use Rattle.l2_code.specs.declared.code.CodeLoop.{CodeLoop}
use Rattle.l2_code.specs.Trees.{CodeTree}
use Rattle.l2_code.specs.Sets.{Family, IsResolved}
use Rattle.l2_code.specs.Modes.{Cut, types_of, mods_of, limit_of, run_code, start}
use Rattle.l2_code.specs.WellFormed.{IsWellFormed}
use Rattle.l2_supply.specs.Supply.{Supply, left, right, number_of, IsFailure}
use Rattle.l2_runs.specs.Fits.{Layout}
use Rattle.l2_runs.specs.Back.{pointer_of}
use Rattle.l2_ssa.specs.Steps.{Names, on, bit, number_in, Solves, IsBefore, InOrder}
use Rattle.std.specs.Ordering.{int_eq}
use Rattle.l2_bits.specs.Values.{wrap}
use Rattle.l2_runs.specs.declared.cells.CellValue.{CellValue}
use Rattle.l2_runs.specs.declared.cells.CellValue.TheVariants.{Number}
use Rattle.l2_runs.specs.Store.{Store, cell_at}
use Rattle.l2_runs.specs.Loops.{Test, Tests, bottom}
use Rattle.l2_ssa.specs.Walks.{Setting, Kind, Bottom, Plain, Rows, Goal, RowGoal, RankGoal, CheckGoal, Given, nothing, entering, chosen, taken, halves, pair, Slot, Walk, Event, Out, T, F, past, walk}

-- what rows and rankings say of the values of a loop's variables
abbrev pub RowsOf : Type 0
RowsOf = ℕ → ℕ → List CellValue → Bool

abbrev pub RanksOf : Type 0
RanksOf = ℕ → List CellValue → List CellValue → Bool

-- the values of these objects' first cells
abbrev pub first_cells : Store → List ℕ → List CellValue
first_cells store [] = []
first_cells store (o ∷ os) = cell_at store (record { object = o; offset = 0 }) ∷ first_cells store os

abbrev pub row_holds : RowsOf → Setting → ℕ → ℕ → Store → Bool
row_holds row g l i store = row l i (first_cells store (g.vars l))

-- so many rows from this number on
abbrev pub rows_hold : RowsOf → Setting → ℕ → ℕ → ℕ → Store → Bool
rows_hold row g l i zero store = true
rows_hold row g l i (suc more) store = row_holds row g l i store && rows_hold row g l (suc i) more store

abbrev pub row_tests : RowsOf → Setting → ℕ → ℕ → ℕ → List Test
row_tests row g l i zero = []
row_tests row g l i (suc more) = record { row = i; holds = λ a b. row_holds row g l i b } ∷ row_tests row g l (suc i) more

abbrev pub rank_test : RanksOf → Setting → Bool → ℕ → ℕ → List Test
rank_test lower g false l n = []
rank_test lower g true l n = record { row = n; holds = λ a b. lower l (first_cells a (g.vars l)) (first_cells b (g.vars l)) } ∷ []

abbrev pub tests_of : RowsOf → RanksOf → Setting → Kind → ℕ → List Test
tests_of row lower g Bottom l = bottom
tests_of row lower g Plain l = []
tests_of row lower g (Rows n) l = row_tests row g l 1 n ++ rank_test lower g g.ranks l (suc n)

-- the tests at the ends of a loop's turns: its rows, and then its ranking, where rankings are asked for
abbrev pub tests : RowsOf → RanksOf → Setting → Tests
tests row lower g counted l = tests_of row lower g (g.kind l) l

abbrev pub starts_of : RowsOf → Setting → Kind → ℕ → Store → Bool
starts_of row g Bottom l store = false
starts_of row g Plain l store = true
starts_of row g (Rows n) l store = rows_hold row g l 1 n store

-- where a loop may start back
abbrev pub starts : RowsOf → Setting → ℕ → Store → Bool
starts row g l store = starts_of row g (g.kind l) l store

-- ---- the names that choices give

-- where their paths are true, the names are those that a supply gives, or give the pointer that it gives
abbrev pub Matches : Layout → Names → Given → Supply → Type 0
Matches cells s nothing u = Unit {0}
Matches cells s entering u = int_eq (number_of u) (pos 0) ≡ true
Matches cells s (chosen g n) u = on s g ≡ true → s n ≡ bit (not (int_eq (number_of u) (pos 0)))
Matches cells s (taken g n ty) u = on s g ≡ true → s n ≡ Number (wrap ty (number_of u))
Matches cells s (halves g n) u =
    on s g ≡ true → pointer_of cells (number_in (s n)) (number_in (s (suc n))) ≡ pointer_of cells (number_of (left u)) (number_of (left (right u)))
Matches cells s (pair x y) u = Matches cells s x (left u) × Matches cells s y (right u)

-- ---- a code and its equations

abbrev pub loop_vars : Option CodeLoop → List ℕ
loop_vars None = []
loop_vars (Some l) = l.vars

-- the walk over a code with k copies of each turn, over these sets, where a loop is of this kind; whether rankings are asked for
abbrev pub setting_of : CodeTree → Family → ℕ → (ℕ → Kind) → Bool → Setting
setting_of c f k kind ranks = record {
  copies = k;
  types = types_of c;
  objects = length c.objects;
  family = f;
  mods = mods_of c;
  vars = λ l. loop_vars (at_number c.loops l);
  kind = kind;
  ranks = ranks;
}

abbrev pub constants : List CellValue → List Operand
constants [] = []
constants (v ∷ vs) = Constant v ∷ constants vs

abbrev pub flag_of : Bool → Operand
flag_of true = T
flag_of false = F

abbrev pub first_slots : List CodeObject → List Slot
first_slots [] = []
first_slots (o ∷ os) = record { cells = constants o.start; live = flag_of (o.is_static || o.hidden) } ∷ first_slots os

abbrev pub first_walk : CodeTree → Walk
first_walk c = record { path = T; temps = λ n. F; slots = first_slots c.objects }

-- the equations of a code, with their events
abbrev pub ssa : CodeTree → Family → ℕ → (ℕ → Kind) → Bool → Out
ssa c f k kind ranks = walk (setting_of c f k kind ranks) c.body [] T 0 (first_walk c)

-- an event of this goal is true
abbrev pub HasEvent : Names → Goal → List Event → Type 0
HasEvent s goal [] = ⊥
HasEvent s goal (e ∷ es) = ((e.goal ≡ goal) × (on s e.literal ≡ true)) ⊎ HasEvent s goal es

-- the row that stands for a loop's ranking
abbrev pub rank_row : Kind → ℕ
rank_row Bottom = 0
rank_row Plain = 0
rank_row (Rows n) = suc n

-- the end of a run at an event of this goal
abbrev pub end_of : Setting → Goal → End
end_of g (RowGoal l i) = Fallen l i
end_of g (RankGoal l) = Fallen l (rank_row (g.kind l))
end_of g (CheckGoal c) = Over (Broken c)

abbrev pub EndsAt : End → Result (Unit {0}) → Type 0
EndsAt e (Go u s) = ⊥
EndsAt e (Halt x s) = x ≡ e

-- some choices make a cut run end at an event of this goal, whatever choices follow
abbrev pub IsReached : CodeTree → Family → ℕ → RowsOf → RanksOf → (ℕ → Kind) → Goal → Type 0
IsReached c f k row lower kind goal =
    (choices : List ℤ) × ((rest : List ℤ) (turns : ℕ) → EndsAt (end_of (setting_of c f k kind false) goal)
    (run_code c (limit_of c f (Cut k (starts row (setting_of c f k kind false)))) (tests row lower (setting_of c f k kind false)) (start c (choices ++ rest) turns)))

-- where names solve the equations of a well-formed code over its sets and an event is true, some cut run ends there
abbrev pub SolutionsRun : Type 0
SolutionsRun =
    (c : CodeTree) (f : Family) → IsWellFormed c → IsResolved c f → (k : ℕ) → 1 ≤ k → (kind : ℕ → Kind) (row : RowsOf) (lower : RanksOf) (s : Names)
    → Solves (record { types = types_of c; row = row; lower = lower }) s 0 (ssa c f k kind false).steps
    → (goal : Goal) → HasEvent s goal (ssa c f k kind false).events → IsReached c f k row lower kind goal

-- an event that stands for this end is true
abbrev pub HasEnd : Names → Setting → End → List Event → Type 0
HasEnd s g x [] = ⊥
HasEnd s g x (e ∷ es) = ((end_of g e.goal ≡ x) × (on s e.literal ≡ true)) ⊎ HasEnd s g x es

-- where a cut run ends at a failure, some values of the names that choices give make an event of that end true, in whatever way the
-- equations are then solved; no loop is one without rows whose turns may end
abbrev pub RunsSolve : Type 0
RunsSolve =
    (c : CodeTree) (f : Family) → IsWellFormed c → IsResolved c f → (k : ℕ) → 1 ≤ k → (kind : ℕ → Kind) → ((l : ℕ) → kind l ≡ Plain → ⊥) → (row : RowsOf) (lower : RanksOf)
    → (choices : List ℤ) (turns : ℕ) (x : End) → IsFailure x
    → EndsAt x (run_code c (limit_of c f (Cut k (starts row (setting_of c f k kind false)))) (tests row lower (setting_of c f k kind false)) (start c choices turns))
    → (u : Supply) × ((s : Names) → Solves (record { types = types_of c; row = row; lower = lower }) s 0 (ssa c f k kind false).steps → Matches (types_of c).objects s (ssa c f k kind false).given u
    → HasEnd s (setting_of c f k kind false) x (ssa c f k kind false).events)

abbrev pub EventsKnown : ℕ → List Event → Type 0
EventsKnown n [] = Unit {0}
EventsKnown n (e ∷ es) = IsBefore n e.literal × EventsKnown n es

-- each equation reads constants and names before its own, and events name equations
abbrev pub StepsInOrder : Type 0
StepsInOrder =
    (c : CodeTree) (f : Family) (k : ℕ) (kind : ℕ → Kind) (ranks : Bool)
    → InOrder 0 (ssa c f k kind ranks).steps × EventsKnown (past 0 (ssa c f k kind ranks).steps) (ssa c f k kind ranks).events
