-- A program as a text again: each number is looked up in the program's lists, and says which name, loop or check it is.
use Rattle.std.specs.Prelude.{◌≡◌, ℕ, pos, false, List, [], ◌∷◌, map, Option, Some, None}
use Rattle.l2_syntax.specs.declared.place.Place.{Place}
use Rattle.l2_runs.specs.declared.cells.CellValue.TheVariants as cell
use Rattle.l2_runs.specs.Numbers.{at_number}
use Rattle.l2_runs.specs.declared.kind.Kind.TheVariants.{Assertion}
use Rattle.l2_program.specs.declared.program.ObjectInfo.{ObjectInfo}
use Rattle.l2_program.specs.declared.program.LoopInfo.{LoopInfo}
use Rattle.l2_program.specs.declared.program.CheckInfo.{CheckInfo}
use Rattle.l2_small.specs.SmallTrees.{SmallExprTree, Name, Number, Choice, Parenthesised, Unary, Binary, SmallStmtTree, Block, Declare, Initialise, Assign, If, IfElse, While, Assert, Return, SmallStmtTrees, none, also}
use Rattle.l2_program.specs.Checked as checked
use Rattle.l2_program.specs.Checked.{TypedTree, CheckedTree, CheckedTrees}
use Rattle.l2_program.specs.Programs.{ProgramTree, FunctionTree}
use Rattle.l2_small_check.specs.Elaboration.{Found, variable, is_declared}

-- ---- texts without their parentheses and without the places of the words in their expressions

abbrev pub nowhere : Place
nowhere = record { offset = 0; line = 0; col = 0 }

abbrev pub plain : SmallExprTree → SmallExprTree
plain (Name n p) = Name n nowhere
plain (Number z) = Number z
plain (Choice p) = Choice nowhere
plain (Parenthesised e) = plain e
plain (Unary op e) = Unary op (plain e)
plain (Binary op x y) = Binary op (plain x) (plain y)

abbrev mutual
  pub plain_item : SmallStmtTree → SmallStmtTree
  plain_item (Block all) = Block (plain_items all)
  plain_item (Declare n p) = Declare n p
  plain_item (Initialise n p e) = Initialise n p (plain e)
  plain_item (Assign n p e) = Assign n nowhere (plain e)
  plain_item (If e s) = If (plain e) (plain_item s)
  plain_item (IfElse e s z) = IfElse (plain e) (plain_item s) (plain_item z)
  plain_item (While p e s) = While p (plain e) (plain_item s)
  plain_item (Assert p e) = Assert p (plain e)
  plain_item (Return e) = Return (plain e)

  pub plain_items : SmallStmtTrees → SmallStmtTrees
  plain_items none = none
  plain_items (also all s) = also (plain_items all) (plain_item s)

-- ---- programs

-- no two objects have one name
abbrev pub AreApart : List ObjectInfo → Type 0
AreApart [] = Unit {0}
AreApart (o ∷ rest) = (is_declared rest o.name ≡ false) × AreApart rest

abbrev pub or_else : {A : Type 0} → A → Option A → A
or_else d None = d
or_else d (Some x) = x

abbrev pub object_of : Found → ℕ → ObjectInfo
object_of f o = or_else (variable 0 nowhere) (at_number f.objects o)

abbrev pub loop_of : Found → ℕ → LoopInfo
loop_of f l = or_else (record { place = nowhere; function = 0; mods = []; vars = [] }) (at_number f.loops l)

abbrev pub check_of : Found → ℕ → CheckInfo
check_of f c = or_else (record { place = nowhere; kind = Assertion }) (at_number f.checks c)

-- what no text of the small form has is spelt 0
abbrev pub spelt : Found → TypedTree → SmallExprTree
spelt f (checked.Constant ty (cell.Number z)) = Number z
spelt f (checked.Constant ty cell.Null) = Number (pos 0)
spelt f (checked.Constant ty cell.Invalid) = Number (pos 0)
spelt f (checked.Constant ty (cell.At o i)) = Number (pos 0)
spelt f (checked.Choice ty) = Choice nowhere
spelt f (checked.Read ty (checked.Object o)) = Name (object_of f o).name nowhere
spelt f (checked.Unary op ty c e) = Unary op (spelt f e)
spelt f (checked.Binary op ty c x y) = Binary op (spelt f x) (spelt f y)
spelt f (checked.Convert ty e) = Number (pos 0)
spelt f (checked.Assign ty l e) = Number (pos 0)
spelt f (checked.Assert c e) = Number (pos 0)

abbrev pub spelt_effect : Found → TypedTree → SmallStmtTree
spelt_effect f (checked.Constant ty v) = Block none
spelt_effect f (checked.Choice ty) = Block none
spelt_effect f (checked.Read ty l) = Block none
spelt_effect f (checked.Unary op ty c e) = Block none
spelt_effect f (checked.Binary op ty c x y) = Block none
spelt_effect f (checked.Convert ty e) = Block none
spelt_effect f (checked.Assign ty (checked.Object o) e) = Assign (object_of f o).name nowhere (spelt f e)
spelt_effect f (checked.Assert c e) = Assert (check_of f c).place (spelt f e)

abbrev mutual
  pub spelt_item : Found → CheckedTree → SmallStmtTree
  spelt_item f (checked.Block all) = Block (spelt_onto f none all)
  spelt_item f (checked.Declare o) = Declare (object_of f o).name (object_of f o).place
  spelt_item f (checked.Static o) = Block none
  spelt_item f (checked.Initialise o e) = Initialise (object_of f o).name (object_of f o).place (spelt f e)
  spelt_item f (checked.Label n) = Block none
  spelt_item f (checked.Evaluate e) = spelt_effect f e
  spelt_item f (checked.If e s) = If (spelt f e) (spelt_item f s)
  spelt_item f (checked.IfElse e s z) = IfElse (spelt f e) (spelt_item f s) (spelt_item f z)
  spelt_item f (checked.While l named e s) = While (loop_of f l).place (spelt f e) (spelt_item f s)
  spelt_item f (checked.Return e) = Return (spelt f e)

  pub spelt_onto : Found → SmallStmtTrees → CheckedTrees → SmallStmtTrees
  spelt_onto f ts checked.none = ts
  spelt_onto f ts (checked.more s rest) = spelt_onto f (also ts (spelt_item f s)) rest

-- a loop without its sets
abbrev pub bare : LoopInfo → LoopInfo
bare l = record l { mods = []; vars = [] }

abbrev pub found_in : ProgramTree → Found
found_in p = record { objects = p.objects; loops = map bare p.loops; checks = p.checks }

-- the bodies of a program's functions, as texts
abbrev pub spelt_bodies : ProgramTree → List SmallStmtTree
spelt_bodies p = map (λ (g : FunctionTree). spelt_item (found_in p) g.body) p.functions
