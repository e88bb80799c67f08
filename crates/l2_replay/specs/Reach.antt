-- What the interpreter's values and results stand for.
use Rattle.std.specs.Prelude.{◌≡◌, Bool, if◌then◌else◌, [], ◌∷◌, Option, Some, None, Result, Ok, Err}
use Rattle.l2_runs.specs.Fits.{Layout, StoreFits}
use Rattle.l2_runs.specs.Runs as runs
use Rattle.l2_runs.specs.Runs.{State, Run, Go, Halt}
use Rattle.l2_runs.specs.Loops.{Real, no_tests}
use Rattle.l2_program.specs.declared.program.Program.{Program}
use Rattle.l2_program.specs.Checked.{CheckedTree, CheckedTrees}
use Rattle.l2_program.specs.Programs.{program_tree}
use Rattle.l2_meaning.specs.Meaning as meaning
use Rattle.l2_meaning.specs.Execution.{cells_of, setting_of, Execution}
use Rattle.l2_meaning.specs.Lawful.{IsTypedStatement, AreTyped, main_result}
use Rattle.l2_replay.specs.declared.answer.Replay.{Replay}
use Rattle.l2_replay.specs.declared.answer.Fault.{Fault}
use Rattle.l2_replay.specs.declared.answer.Fault.TheVariants.{Over, NoMemory}
use Rattle.l2_replay.specs.declared.expressions.Value.{Value}
use Rattle.l2_replay.specs.declared.expressions.Value.TheVariants.{Nothing, Scalar}

abbrev pub value_of : Value → meaning.Value
value_of Nothing = []
value_of (Scalar c) = c ∷ []

-- how a turn ends: the next arrival follows, or the loop is left
abbrev pub turn_end : Bool → Option meaning.Ending
turn_end goes_on = if goes_on then None else Some meaning.Next

-- a function did what a run does, from the old state to the new one, and gives what the run gives; want of memory says nothing
abbrev pub Does : {A B : Type 0} → (A → B) → Run B → State → State → Result A Fault → Type 0
Does given run old new (Ok a) = run old ≡ Go (given a) new
Does given run old new (Err (Over o)) = run old ≡ Halt (runs.Over o) new
Does given run old new (Err NoMemory) = Unit {0}

-- real executions of a program
abbrev pub setting : Program → meaning.Setting
setting p = setting_of (program_tree p) Real no_tests

-- the types of a program's cells
abbrev pub layout : Program → Layout
layout p = cells_of (program_tree p)

-- each cell of the program's objects holds a value of its type
abbrev pub Fits : Program → State → Type 0
Fits p s = StoreFits (layout p) s.store

-- a statement of `main`
abbrev pub IsTypedIn : Program → CheckedTree → Type 0
IsTypedIn p s = IsTypedStatement (layout p) main_result s

abbrev pub AreTypedIn : Program → CheckedTrees → Type 0
AreTypedIn p all = AreTyped (layout p) main_result all

abbrev pub execution_of : Replay → Execution
execution_of r = record { end = runs.Over r.outcome; choices_used = r.choices_used; turns_used = r.turns_used }
