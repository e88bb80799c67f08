-- What loops may change, and the variables that rows of their invariants may speak of.
use Rattle.std.specs.Prelude.{◌≡◌, ℕ, ◌==◌, Bool, true, false, ◌&&◌, ◌||◌, List, [], ◌∷◌, ◌++◌, Option, Some, None, filter}
use Rattle.l2_runs.specs.declared.cells.CellType.{CellType}
use Rattle.l2_runs.specs.declared.cells.CellType.TheVariants.{Integer, Pointer}
use Rattle.l2_runs.specs.Numbers.{at_number}
use Rattle.l2_runs.specs.Fits.{Layout}
use Rattle.l2_program.specs.declared.program.LoopInfo.{LoopInfo}
use Rattle.l2_program.specs.Checked.{TypedTree, Constant, Choice, Read, Unary, Binary, Convert, Assign, Assert, CheckedTree, Block, Declare, Static, Initialise, Label, Evaluate, If, IfElse, While, Return, CheckedTrees, none, more}
use Rattle.l2_program.specs.Names.{lvalue_names}
use Rattle.l2_program.specs.Programs.{ProgramTree, FunctionTree}
use Rattle.l2_meaning.specs.declared.sets.LoopSets.{LoopSets}
use Rattle.l2_meaning.specs.Execution.{cells_of}
use Rattle.l2_meaning.specs.Rising.{rising}
use Rattle.l2_meaning.specs.Scopes.{behind, statics_of}

-- ---- changes

-- the objects that an expression assigns, in the order of the text
abbrev pub changes_of : TypedTree → List ℕ
changes_of (Constant ty v) = []
changes_of (Choice ty) = []
changes_of (Read ty l) = []
changes_of (Unary op ty c e) = changes_of e
changes_of (Binary op ty c x y) = changes_of x ++ changes_of y
changes_of (Convert ty e) = changes_of e
changes_of (Assign ty l e) = lvalue_names l ++ changes_of e
changes_of (Assert c e) = changes_of e

abbrev mutual
  -- the objects that a statement assigns or declares
  pub changes_in : CheckedTree → List ℕ
  changes_in (Block all) = all_changes_in all
  changes_in (Declare n) = n ∷ []
  changes_in (Static n) = n ∷ []
  changes_in (Initialise n e) = n ∷ changes_of e
  changes_in (Label n) = []
  changes_in (Evaluate e) = changes_of e
  changes_in (If e s) = changes_of e ++ changes_in s
  changes_in (IfElse e s t) = changes_of e ++ changes_in s ++ changes_in t
  changes_in (While l named e s) = changes_of e ++ changes_in s
  changes_in (Return e) = changes_of e

  pub all_changes_in : CheckedTrees → List ℕ
  all_changes_in none = []
  all_changes_in (more s rest) = changes_in s ++ all_changes_in rest

-- ---- sets of loops

abbrev pub is_integer : List CellType → Bool
is_integer [] = false
is_integer (Integer ty ∷ []) = true
is_integer (Pointer ∷ []) = false
is_integer (t ∷ u ∷ types) = false

abbrev pub is_one_of : List ℕ → ℕ → Bool
is_one_of [] n = false
is_one_of (m ∷ ms) n = m == n || is_one_of ms n

-- an object of one integer cell that is static or in scope
abbrev pub is_variable : Layout → (ℕ → Bool) → List ℕ → ℕ → Bool
is_variable cells is_static scope n = is_integer (cells n) && (is_static n || is_one_of scope n)

-- the sets of a loop that changes and names these, where this is its scope
abbrev pub sets_of_loop : Layout → (ℕ → Bool) → List ℕ → ℕ → List ℕ → List ℕ → LoopSets
sets_of_loop cells is_static scope l changed named =
    record { number = l; mods = rising changed; vars = rising (filter (is_variable cells is_static scope) (changed ++ named)) }

abbrev mutual
  -- the sets of the loops of a statement, in the order of the text
  pub loop_sets : Layout → (ℕ → Bool) → List ℕ → CheckedTree → List LoopSets
  loop_sets cells is_static scope (Block all) = all_loop_sets cells is_static scope all
  loop_sets cells is_static scope (Declare n) = []
  loop_sets cells is_static scope (Static n) = []
  loop_sets cells is_static scope (Initialise n e) = []
  loop_sets cells is_static scope (Label n) = []
  loop_sets cells is_static scope (Evaluate e) = []
  loop_sets cells is_static scope (If e s) = loop_sets cells is_static scope s
  loop_sets cells is_static scope (IfElse e s t) = loop_sets cells is_static scope s ++ loop_sets cells is_static scope t
  loop_sets cells is_static scope (While l named e s) = sets_of_loop cells is_static scope l (changes_of e ++ changes_in s) named ∷ loop_sets cells is_static scope s
  loop_sets cells is_static scope (Return e) = []

  pub all_loop_sets : Layout → (ℕ → Bool) → List ℕ → CheckedTrees → List LoopSets
  all_loop_sets cells is_static scope none = []
  all_loop_sets cells is_static scope (more s rest) = loop_sets cells is_static scope s ++ all_loop_sets cells is_static (behind scope s) rest

-- ---- programs

-- those of a function of the program
abbrev pub function_loop_sets : ProgramTree → FunctionTree → List LoopSets
function_loop_sets p f = loop_sets (cells_of p) (statics_of p) f.parameters f.body

abbrev pub HasSets : Option LoopInfo → LoopSets → Type 0
HasSets None s = ⊥
HasSets (Some info) s = (info.mods ≡ s.mods) × (info.vars ≡ s.vars)

-- these sets are those of the loops of their numbers
abbrev pub HaveSets : List LoopInfo → List LoopSets → Type 0
HaveSets loops [] = Unit {0}
HaveSets loops (s ∷ rest) = HasSets (at_number loops s.number) s × HaveSets loops rest

abbrev pub functions_loop_sets : ProgramTree → List FunctionTree → List LoopSets
functions_loop_sets p [] = []
functions_loop_sets p (f ∷ rest) = function_loop_sets p f ++ functions_loop_sets p rest

-- one loop after another takes its sets
abbrev pub take_sets : List LoopInfo → List LoopSets → List LoopInfo
take_sets [] sets = []
take_sets (info ∷ infos) [] = info ∷ infos
take_sets (info ∷ infos) (s ∷ sets) = record info { mods = s.mods; vars = s.vars } ∷ take_sets infos sets

-- the program whose loops have the sets of its trees
abbrev pub with_loop_sets : ProgramTree → ProgramTree
with_loop_sets p = record p { loops = take_sets p.loops (functions_loop_sets p p.functions) }
