-- Executions of a program, and what it is to be safe.
use Rattle.std.specs.Prelude.{ℕ, zero, suc, ◌+◌, ◌-◌, ℤ, pos, Bool, true, false, if◌then◌else◌, List, [], ◌∷◌, length, map, take, drop, codes, slice_index_or, Option, Some, None}
use Rattle.std.specs.Str.{bytes_eq}
use Rattle.l2_syntax.specs.declared.token.Name.{Name}
use Rattle.l2_runs.specs.declared.cells.CellType.{CellType}
use Rattle.l2_runs.specs.declared.cells.CellType.TheVariants.{Integer, Pointer}
use Rattle.l2_runs.specs.declared.cells.CellValue.{CellValue}
use Rattle.l2_runs.specs.declared.cells.CellValue.TheVariants.{Number, Invalid}
use Rattle.l2_runs.specs.declared.outcome.Outcome.TheVariants.{Ended, Stopped, Broken, OutOfChoices, OutOfTurns}
use Rattle.l2_runs.specs.Numbers.{at_number}
use Rattle.l2_runs.specs.Store.{Object, Store}
use Rattle.l2_runs.specs.Fits.{Layout}
use Rattle.l2_runs.specs.Runs.{End, Over, Fallen, Result, Go, Halt, Run, and_then, done, stop, enliven, bury_all}
use Rattle.l2_runs.specs.Loops.{Limit, Real, Tests, no_tests}
use Rattle.l2_program.specs.declared.program.ObjectInfo.{ObjectInfo}
use Rattle.l2_program.specs.declared.program.StaticValue.{StaticValue}
use Rattle.l2_program.specs.Programs.{ProgramTree, FunctionTree}
use Rattle.l2_meaning.specs.Meaning.{Value, Ending, Next, Broke, Continued, Returned, Jumping, Calls, Setting, first_of, put, fresh, act, declare}

-- ---- the start

-- a cell before its object is live
abbrev pub first_cell : CellType → CellValue
first_cell (Integer ty) = Number (pos 0)
first_cell Pointer = Invalid

abbrev pub value_in : StaticValue → CellValue
value_in s = s.value

-- an object of static storage is live and holds the first of these values
abbrev pub static_object : ObjectInfo → List StaticValue → Object
static_object o values = record { cells = map value_in (take (length o.cells) values); live = true }

-- every other one is dead
abbrev pub dead_object : ObjectInfo → Object
dead_object o = record { cells = map first_cell o.cells; live = false }

-- the static values stand by object and offset, so each static object takes the next ones
abbrev pub first_objects : List StaticValue → List ObjectInfo → Store
first_objects values [] = []
first_objects values (o ∷ rest) =
    if o.is_static then static_object o values ∷ first_objects (drop (length o.cells) values) rest
    else dead_object o ∷ first_objects values rest

abbrev pub first_store : ProgramTree → Store
first_store p = first_objects p.static_values p.objects

-- ---- calls

abbrev pub known_cells : Option ObjectInfo → List CellType
known_cells None = []
known_cells (Some o) = o.cells

-- the cells of each object
abbrev pub cells_of : ProgramTree → Layout
cells_of p n = known_cells (at_number p.objects n)

-- each parameter becomes live and takes its argument
abbrev pub pass : List ℕ → List Value → Run (Unit {0})
pass [] vs = done tt
pass (n ∷ ns) [] = and_then (enliven n) (λ u. pass ns [])
pass (n ∷ ns) (v ∷ vs) = and_then (enliven n) (λ u. and_then (put (first_of n) v) (λ u. pass ns vs))

-- a value made like an object without an initialiser
abbrev pub fresh_value : List CellType → Run Value
fresh_value [] = done []
fresh_value (t ∷ types) = and_then (fresh t) (λ v. and_then (fresh_value types) (λ vs. done (v ∷ vs)))

-- what a function gives whose body is left so
abbrev pub returned : FunctionTree → Ending → Run Value
returned f (Returned v) = done v
returned f Next = fresh_value f.result
returned f Broke = fresh_value f.result
returned f Continued = fresh_value f.result
returned f (Jumping l) = fresh_value f.result

-- the parameters live during the call
abbrev pub call : Setting → Bool → Option FunctionTree → List Value → Run Value
call g b None vs = stop
call g b (Some f) vs =
    and_then (pass f.parameters vs) (λ u. and_then (act g b f.body) (λ e. and_then (bury_all f.parameters) (λ u. returned f e)))

-- calls that are nested at most so deep
abbrev pub calls_of : ProgramTree → Limit → Tests → ℕ → Calls
calls_of p limit tests zero b f vs = stop
calls_of p limit tests (suc depth) b f vs =
    call (record { limit = limit; tests = tests; is_main = false; cells = cells_of p; calls = calls_of p limit tests depth }) b (at_number p.functions f) vs

-- ---- executions

-- the body of `main`: without recursion calls nest at most as deep as there are functions
abbrev pub setting_of : ProgramTree → Limit → Tests → Setting
setting_of p limit tests = record { limit = limit; tests = tests; is_main = true; cells = cells_of p; calls = calls_of p limit tests (length p.functions) }

abbrev pub name_of : List Name → ℕ → List ℕ
name_of names n = (slice_index_or names n (record { bytes = [] })).bytes

-- the function of the name `main`
abbrev pub main_among : List Name → List FunctionTree → Option FunctionTree
main_among names [] = None
main_among names (f ∷ rest) = if bytes_eq (name_of names f.name) (codes "main") then Some f else main_among names rest

abbrev pub declare_all : Setting → List ℕ → Run (Unit {0})
declare_all g [] = done tt
declare_all g (n ∷ ns) = and_then (declare g n) (λ u. declare_all g ns)

-- the parameters of `main` become live and take choices; then its body runs
abbrev pub enter : Setting → Option FunctionTree → Run (Unit {0})
enter g None = done tt
enter g (Some f) = and_then (declare_all g f.parameters) (λ u. and_then (act g true f.body) (λ e. done tt))

abbrev pub run_program : ProgramTree → Limit → Tests → Run (Unit {0})
run_program p limit tests = enter (setting_of p limit tests) (main_among p.names p.functions)

-- how an execution is over, and how many choices and turns it used
pub record Execution : Type 0 where
  pub end : End
  pub choices_used : ℕ
  pub turns_used : ℕ

abbrev pub report : List ℤ → ℕ → Result (Unit {0}) → Execution
report choices turns (Go u s) = record { end = Over Ended; choices_used = length choices - length s.choices; turns_used = turns - s.turns + s.arrivals }
report choices turns (Halt e s) = record { end = e; choices_used = length choices - length s.choices; turns_used = turns - s.turns + s.arrivals }

-- the execution of a program under a limit and tests on these choices and turns
abbrev pub exec : ProgramTree → Limit → Tests → List ℤ → ℕ → Execution
exec p limit tests choices turns =
    report choices turns (run_program p limit tests (record { store = first_store p; choices = choices; turns = turns; arrivals = 0 }))

abbrev pub IsBroken : End → Type 0
IsBroken (Over Ended) = ⊥
IsBroken (Over Stopped) = ⊥
IsBroken (Over (Broken c)) = Unit {0}
IsBroken (Over OutOfChoices) = ⊥
IsBroken (Over OutOfTurns) = ⊥
IsBroken (Fallen l row) = ⊥

-- no execution, of any length and for any choices, breaks a check
abbrev pub Safe : ProgramTree → Type 0
Safe p = (choices : List ℤ) (turns : ℕ) → ¬ IsBroken (exec p Real no_tests choices turns).end
