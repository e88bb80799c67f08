-- Supplies that enter each loop without back starts, and name no object without cells.
use Rattle.std.specs.Prelude.{◌≡◌, ℕ, ◌<◌, ◌≤◌, ℤ, pos, true, false, List, length, IfSome}
use Rattle.std.specs.Ordering.{int_eq}
use Rattle.l2_runs.specs.declared.cells.CellValue.{CellValue}
use Rattle.l2_runs.specs.declared.cells.CellValue.TheVariants.{At}
use Rattle.l2_runs.specs.Fits.{Layout}
use Rattle.l2_runs.specs.Back.{pointer_of}
use Rattle.l2_runs.specs.Runs.{End}
use Rattle.l2_code.specs.Trees.{CodeTree}
use Rattle.l2_code.specs.Sets.{Family, IsResolved}
use Rattle.l2_code.specs.Modes.{Cut, types_of, limit_of, run_code, start}
use Rattle.l2_code.specs.WellFormed.{IsWellFormed}
use Rattle.l2_supply.specs.Supply.{Supply, left, right, number_of, IsFailure}
use Rattle.l2_ssa.specs.Steps.{Names, Solves}
use Rattle.l2_ssa.specs.Walks.{Kind, Plain, Given, nothing, entering, chosen, taken, halves, pair}
use Rattle.l2_ssa.specs.Law.{RowsOf, RanksOf, tests, starts, setting_of, ssa, EndsAt, Matches, HasEnd}

-- a pointer's object has cells
abbrev pub HasCells : Layout → CellValue → Type 0
HasCells cells v = (o f : ℕ) → v ≡ At o f → 0 < length (cells o)

abbrev pub Enters : Layout → Given → Supply → Type 0
Enters cells nothing u = Unit {0}
Enters cells entering u = int_eq (number_of u) (pos 0) ≡ true
Enters cells (chosen g n) u = Unit {0}
Enters cells (taken g n ty) u = Unit {0}
Enters cells (halves g n) u = IfSome (pointer_of cells (number_of (left u)) (number_of (left (right u)))) (HasCells cells)
Enters cells (pair x y) u = Enters cells x (left u) × Enters cells y (right u)

-- where a cut run ends at a failure, such a supply makes an event of that end true, in whatever way the equations are then solved; no
-- loop is one without rows whose turns may end
abbrev pub RunsEnter : Type 0
RunsEnter =
    (c : CodeTree) (f : Family) → IsWellFormed c → IsResolved c f → (k : ℕ) → 1 ≤ k → (kind : ℕ → Kind) → ((l : ℕ) → kind l ≡ Plain → ⊥) → (row : RowsOf) (lower : RanksOf)
    → (choices : List ℤ) (turns : ℕ) (x : End) → IsFailure x
    → EndsAt x (run_code c (limit_of c f (Cut k (starts row (setting_of c f k kind false)))) (tests row lower (setting_of c f k kind false)) (start c choices turns))
    → (u : Supply) × Enters (types_of c).objects (ssa c f k kind false).given u
    × ((s : Names) → Solves (record { types = types_of c; row = row; lower = lower }) s 0 (ssa c f k kind false).steps → Matches (types_of c).objects s (ssa c f k kind false).given u
    → HasEnd s (setting_of c f k kind false) x (ssa c f k kind false).events)
