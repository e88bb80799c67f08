-- The runs of code in each mode.
use Rattle.std.specs.Prelude.{ℕ, ℤ, Bool, true, ◌||◌, List, [], map, Option, Some, None}
use Rattle.l2_runs.specs.declared.cells.CellType.{CellType}
use Rattle.l2_runs.specs.Numbers.{at_number}
use Rattle.l2_runs.specs.Store.{Object, Store}
use Rattle.l2_runs.specs.Runs.{State, Run, and_then, stop}
use Rattle.l2_runs.specs.Loops as loops
use Rattle.l2_runs.specs.Loops.{Limit, Tests}
use Rattle.l2_runs.specs.Back.{back}
use Rattle.l2_code.specs.declared.code.CodeObject.{CodeObject}
use Rattle.l2_code.specs.declared.code.CodeLoop.{CodeLoop}
use Rattle.l2_code.specs.declared.code.Pointed.{Pointed}
use Rattle.l2_code.specs.Trees.{CodeTree}
use Rattle.l2_code.specs.Values.{Types, no_temps}
use Rattle.l2_code.specs.Machine.{nodes}
use Rattle.l2_code.specs.Sets.{Family}

abbrev pub object_cells : Option CodeObject → List CellType
object_cells None = []
object_cells (Some o) = o.cells

abbrev pub pointed_cells : Option Pointed → List CellType
pointed_cells None = []
pointed_cells (Some p) = p.cells

abbrev pub types_of : CodeTree → Types
types_of c = record { objects = λ n. object_cells (at_number c.objects n); pointed = λ n. pointed_cells (at_number c.pointed n) }

abbrev pub loop_mods : Option CodeLoop → List ℕ
loop_mods None = []
loop_mods (Some l) = l.mods

-- the objects that a loop may change
abbrev pub mods_of : CodeTree → ℕ → List ℕ
mods_of c l = loop_mods (at_number c.loops l)

-- ---- the start

-- static objects and hidden ones are live from the start on
abbrev pub first_object : CodeObject → Object
first_object o = record { cells = o.start; live = o.is_static || o.hidden }

abbrev pub first_store : CodeTree → Store
first_store c = map first_object c.objects

-- the start with these choices and turns
abbrev pub start : CodeTree → List ℤ → ℕ → State
start c choices turns = record { store = first_store c; choices = choices; turns = turns; arrivals = 0 }

-- ---- modes

-- real runs; short ones, of so many arrivals; and cut ones, of so many copies, where a loop starts back in stores that pass its test
pub data Mode : Type 0 where
  Real : Mode
  Short : ℕ → Mode
  Cut : ℕ → (ℕ → Store → Bool) → Mode

-- a mode's limit on the loops of a code with these sets
abbrev pub limit_of : CodeTree → Family → Mode → Limit
limit_of c f Real = loops.Real
limit_of c f (Short k) = loops.Short k
limit_of c f (Cut k starts) = loops.Cut k (back (types_of c).objects f.object (mods_of c) starts)

-- the run of a code, which its `end` ends
abbrev pub run_code : CodeTree → Limit → Tests → Run (Unit {0})
run_code c limit tests = and_then (nodes (record { limit = limit; tests = tests; types = types_of c }) true c.body no_temps) (λ w. stop)
