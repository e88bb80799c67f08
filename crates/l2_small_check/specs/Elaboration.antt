-- The program of a unit of the small form: names stand for objects, and objects, loops and checks are numbered from 1 in the order of the text.
-- A unit has none where a name is declared a second time or is used where it isn't in scope, where a constant is no value of `int`,
-- where a loop's or a branch's body is a declaration, or where there are too many cells.
use Rattle.std.specs.Prelude.{ℕ, ◌+◌, ◌==◌, Bool, true, false, ◌||◌, if◌then◌else◌, nat_lt, List, [], ◌∷◌, ◌++◌, length, codes, Option, Some, None, option_map}
use Rattle.l2_bits.specs.Types.{int_type}
use Rattle.l2_bits.specs.Values.{is_value}
use Rattle.l2_syntax.specs.declared.place.Place.{Place}
use Rattle.l2_runs.specs.declared.cells.CellType.{CellType}
use Rattle.l2_runs.specs.declared.cells.CellType.TheVariants.{Integer}
use Rattle.l2_runs.specs.declared.cells.CellValue.TheVariants as cell
use Rattle.l2_runs.specs.declared.kind.Kind.TheVariants.{Assertion}
use Rattle.l2_program.specs.declared.program.ObjectInfo.{ObjectInfo}
use Rattle.l2_program.specs.declared.program.LoopInfo.{LoopInfo}
use Rattle.l2_program.specs.declared.program.CheckInfo.{CheckInfo}
use Rattle.l2_syntax.specs.declared.token.Name.{Name}
use Rattle.l2_small.specs.SmallForm.{and_then}
use Rattle.l2_small.specs.SmallTrees as small
use Rattle.l2_small.specs.SmallTrees.{SmallExprTree, SmallStmtTree, SmallStmtTrees, SmallUnitTree}
use Rattle.l2_program.specs.Checked as checked
use Rattle.l2_program.specs.Checked.{TypedTree, CheckedTree, CheckedTrees}
use Rattle.l2_program.specs.Names.{names_of, names_in}
use Rattle.l2_program.specs.Programs.{ProgramTree, FunctionTree}
use Rattle.l2_meaning.specs.Changes.{with_loop_sets}
use Rattle.l2_meaning.specs.Thresholds.{thresholds_of}
use Rattle.l2_small_check.specs.declared.entry.Entry.{Entry}

-- the names in scope, in the order of their declarations
abbrev pub Scope : Type 0
Scope = List Entry

abbrev pub lookup : Scope → ℕ → Option ℕ
lookup [] n = None
lookup (e ∷ rest) n = if e.name == n then Some e.object else lookup rest n

-- the objects, loops and checks of the text so far
pub record Found : Type 0 where
  pub objects : List ObjectInfo
  pub loops : List LoopInfo
  pub checks : List CheckInfo

abbrev pub most_cells : ℕ
most_cells = 65536

abbrev pub is_declared : List ObjectInfo → ℕ → Bool
is_declared [] n = false
is_declared (o ∷ rest) n = o.name == n || is_declared rest n

abbrev pub int_cell : CellType
int_cell = Integer int_type

-- a variable of type `int` in `main`
abbrev pub variable : ℕ → Place → ObjectInfo
variable n p = record { name = n; place = p; cells = int_cell ∷ []; is_static = false; function = 1 }

-- what an item becomes, the names that are in scope behind it, and what was found up to its end
pub record Elaborated (A : Type 0) : Type 0 where
  pub tree : A
  pub scope : Scope
  pub found : Found

abbrev pub stays : {A : Type 0} → Scope → Found → A → Elaborated A
stays scope found t = record { tree = t; scope = scope; found = found }

-- the same, made into something larger
abbrev pub made : {A B : Type 0} → (A → B) → Elaborated A → Elaborated B
made f r = record { tree = f r.tree; scope = r.scope; found = r.found }

-- names go out of scope at the end of the block or the statement that declares them (C11 6.2.1p4 and 6.8.4p3)
abbrev pub within : {A : Type 0} → Scope → Option (Elaborated A) → Option (Elaborated A)
within scope None = None
within scope (Some r) = Some (stays scope r.found r.tree)

-- ---- expressions

abbrev pub read_of : ℕ → TypedTree
read_of o = checked.Read int_cell (checked.Object o)

-- the small form has no checks but assertions
abbrev pub typed : Scope → SmallExprTree → Option TypedTree
typed scope (small.Name n p) = option_map read_of (lookup scope n)
typed scope (small.Number z) = if is_value int_type z then Some (checked.Constant int_cell (cell.Number z)) else None
typed scope (small.Choice p) = Some (checked.Choice int_type)
typed scope (small.Parenthesised e) = typed scope e
typed scope (small.Unary op e) = option_map (checked.Unary op int_type 0) (typed scope e)
typed scope (small.Binary op x y) = and_then (typed scope x) (λ a. option_map (checked.Binary op int_type 0 a) (typed scope y))

-- ---- statements

abbrev pub object_number : Found → ℕ
object_number found = length found.objects + 1

abbrev pub loop_number : Found → ℕ
loop_number found = length found.loops + 1

abbrev pub check_number : Found → ℕ
check_number found = length found.checks + 1

-- a declaration: the name is new, and stands for the next object from here on
abbrev pub declare : Scope → Found → ℕ → Place → Option (Elaborated ℕ)
declare scope found n p =
    if is_declared found.objects n || nat_lt most_cells (object_number found) then None
    else Some (record {
      tree = object_number found;
      scope = scope ++ record { name = n; object = object_number found } ∷ [];
      found = record found { objects = found.objects ++ variable n p ∷ [] };
    })

abbrev pub with_loop : Found → Place → Found
with_loop found p = record found { loops = found.loops ++ record { place = p; function = 1; mods = []; vars = [] } ∷ [] }

abbrev pub with_check : Found → Place → Found
with_check found p = record found { checks = found.checks ++ record { place = p; kind = Assertion } ∷ [] }

-- one tree after another
abbrev pub chain : List CheckedTree → CheckedTrees
chain [] = checked.none
chain (t ∷ rest) = checked.more t (chain rest)

abbrev pub block : List CheckedTree → CheckedTree
block all = checked.Block (chain all)

abbrev pub assignment : ℕ → TypedTree → CheckedTree
assignment o t = checked.Evaluate (checked.Assign int_cell (checked.Object o) t)

abbrev pub assertion : ℕ → TypedTree → CheckedTree
assertion c t = checked.Evaluate (checked.Assert c t)

-- a loop of this number, with the objects that its text names
abbrev pub loop : ℕ → TypedTree → CheckedTree → CheckedTree
loop l t s = checked.While l (names_of t ++ names_in s) t s

-- a declaration is no statement, so it isn't what a loop or a branch does (C11 6.8)
abbrev pub is_declaration : SmallStmtTree → Bool
is_declaration (small.Declare n p) = true
is_declaration (small.Initialise n p e) = true
is_declaration s = false

-- what a loop or a branch does
abbrev pub body_of : SmallStmtTree → Option (Elaborated CheckedTree) → Option (Elaborated CheckedTree)
body_of s x = if is_declaration s then None else x

abbrev mutual
  pub item : Scope → Found → SmallStmtTree → Option (Elaborated CheckedTree)
  item scope found (small.Block all) = option_map (made block) (within scope (items scope found all))
  item scope found (small.Declare n p) = option_map (made checked.Declare) (declare scope found n p)
  item scope found (small.Initialise n p e) =
      -- the name is in scope in its own initialiser (C11 6.2.1p7)
      and_then (declare scope found n p) (λ d. option_map (λ t. stays d.scope d.found (checked.Initialise d.tree t)) (typed d.scope e))
  item scope found (small.Assign n p e) =
      and_then (lookup scope n) (λ o. option_map (λ t. stays scope found (assignment o t)) (typed scope e))
  item scope found (small.If e s) =
      and_then (typed scope e) (λ t. option_map (made (checked.If t)) (body_of s (within scope (item scope found s))))
  item scope found (small.IfElse e s z) =
      and_then (typed scope e) (λ t. and_then (body_of s (within scope (item scope found s))) (λ r.
      option_map (made (checked.IfElse t r.tree)) (body_of z (within scope (item scope r.found z)))))
  item scope found (small.While p e s) =
      and_then (typed scope e) (λ t.
      option_map (made (loop (loop_number found) t)) (body_of s (within scope (item scope (with_loop found p) s))))
  item scope found (small.Assert p e) =
      option_map (λ t. stays scope (with_check found p) (assertion (check_number found) t)) (typed scope e)
  item scope found (small.Return e) = option_map (λ t. stays scope found (checked.Return t)) (typed scope e)

  pub items : Scope → Found → SmallStmtTrees → Option (Elaborated (List CheckedTree))
  items scope found small.none = Some (stays scope found [])
  items scope found (small.also all s) =
      and_then (items scope found all) (λ r. option_map (made (λ t. r.tree ++ t ∷ [])) (item r.scope r.found s))

-- ---- units

abbrev pub nothing_found : Found
nothing_found = record { objects = []; loops = []; checks = [] }

abbrev pub main_name : Name
main_name = record { bytes = codes "main" }

-- the one function; its name stands behind the names of the text
abbrev pub main_function : SmallUnitTree → CheckedTree → FunctionTree
main_function u body = record { name = length u.names; place = u.main; parameters = []; result = int_cell ∷ []; body = body }

abbrev pub program_with : SmallUnitTree → Elaborated (List CheckedTree) → ProgramTree
program_with u r = record {
  objects = r.found.objects;
  functions = main_function u (block r.tree) ∷ [];
  loops = r.found.loops;
  checks = r.found.checks;
  names = u.names ++ main_name ∷ [];
  static_values = [];
  thresholds = thresholds_of u.constants;
}

-- its loops have the sets of its trees
abbrev pub program_of : SmallUnitTree → Option ProgramTree
program_of u = option_map with_loop_sets (option_map (program_with u) (items [] nothing_found u.items))
