-- Programs whose trees are typed, name what is in scope, and have what the lists say.
use Rattle.std.specs.Prelude.{◌≡◌, ℕ, suc, ◌+◌, ◌<◌, ◌≤◌, ◌==◌, Bool, true, false, ◌&&◌, List, [], ◌∷◌, ◌++◌, length, map, Option, Some, None, ◌⊎◌, All}
use Rattle.l2_bits.specs.declared.types.Ty.{Ty}
use Rattle.l2_bits.specs.Types.{int_type}
use Rattle.l2_runs.specs.declared.cells.CellType.{CellType}
use Rattle.l2_runs.specs.declared.cells.CellType.TheVariants.{Integer, Pointer}
use Rattle.l2_runs.specs.declared.cells.CellValue.{CellValue}
use Rattle.l2_runs.specs.declared.cells.CellValue.TheVariants.{Number, Null, Invalid, At}
use Rattle.l2_runs.specs.Numbers.{at_number, numbers_where}
use Rattle.l2_runs.specs.Fits.{Layout, CellFits}
use Rattle.l2_runs.specs.declared.kind.Kind.{Kind}
use Rattle.l2_runs.specs.declared.kind.Kind.TheVariants.{Assertion, Overflow}
use Rattle.l2_program.specs.declared.program.ObjectInfo.{ObjectInfo}
use Rattle.l2_program.specs.declared.program.LoopInfo.{LoopInfo}
use Rattle.l2_program.specs.declared.program.CheckInfo.{CheckInfo}
use Rattle.l2_program.specs.declared.program.StaticValue.{StaticValue}
use Rattle.l2_program.specs.Checked.{LvalueTree, Object, TypedTree, Constant, Choice, Read, Unary, Binary, Convert, Assign, Assert, CheckedTree, Block, Declare, Static, Initialise, Label, Evaluate, If, IfElse, While, Return, CheckedTrees, none, more}
use Rattle.l2_program.specs.Types.{type_of, is_computing, is_arithmetic}
use Rattle.l2_program.specs.Names.{declared_in, loops_in, checks_in}
use Rattle.l2_program.specs.Programs.{ProgramTree, FunctionTree}
use Rattle.l2_meaning.specs.Execution.{cells_of, main_among}
use Rattle.l2_meaning.specs.Scopes.{behind, statics_of}
use Rattle.l2_meaning.specs.Pointing.{Sets, ArePointsTo}
use Rattle.l2_meaning.specs.Rising.{Rise}
use Rattle.l2_meaning.specs.Changes.{is_integer, function_loop_sets, HaveSets}

abbrev pub IsIn : ℕ → List ℕ → Type 0
IsIn n [] = ⊥
IsIn n (m ∷ ms) = (n ≡ m) ⊎ IsIn n ms

-- ---- types

abbrev pub IsInteger : List CellType → Type 0
IsInteger [] = ⊥
IsInteger (Integer ty ∷ []) = Unit {0}
IsInteger (Pointer ∷ []) = ⊥
IsInteger (t ∷ u ∷ types) = ⊥

-- an lvalue of these cells
abbrev pub IsTypedLvalue : Layout → List CellType → LvalueTree → Type 0
IsTypedLvalue cells types (Object n) = cells n ≡ types

-- operands are of the types that their operators take
abbrev pub IsTyped : Layout → TypedTree → Type 0
IsTyped cells (Constant ty v) = CellFits cells ty v
IsTyped cells (Choice ty) = Unit {0}
IsTyped cells (Read ty l) = IsTypedLvalue cells (ty ∷ []) l
IsTyped cells (Unary op ty c e) = IsTyped cells e × (type_of e ≡ Integer ty ∷ [])
IsTyped cells (Binary op ty c x y) = IsTyped cells x × (type_of x ≡ Integer ty ∷ []) × IsTyped cells y × (type_of y ≡ Integer ty ∷ [])
IsTyped cells (Convert ty e) = IsTyped cells e × IsInteger (type_of e)
IsTyped cells (Assign ty l e) = IsTypedLvalue cells (ty ∷ []) l × IsTyped cells e × (type_of e ≡ ty ∷ [])
IsTyped cells (Assert c e) = IsTyped cells e × IsInteger (type_of e)

abbrev mutual
  -- in a function that returns such a value
  pub IsTypedStatement : Layout → List CellType → CheckedTree → Type 0
  IsTypedStatement cells result (Block all) = AreTyped cells result all
  IsTypedStatement cells result (Declare n) = Unit {0}
  IsTypedStatement cells result (Static n) = Unit {0}
  IsTypedStatement cells result (Initialise n e) = IsTyped cells e × (cells n ≡ type_of e)
  IsTypedStatement cells result (Label n) = Unit {0}
  IsTypedStatement cells result (Evaluate e) = IsTyped cells e
  IsTypedStatement cells result (If e s) = IsTyped cells e × IsInteger (type_of e) × IsTypedStatement cells result s
  IsTypedStatement cells result (IfElse e s t) = IsTyped cells e × IsInteger (type_of e) × IsTypedStatement cells result s × IsTypedStatement cells result t
  IsTypedStatement cells result (While l named e s) = IsTyped cells e × IsInteger (type_of e) × IsTypedStatement cells result s
  IsTypedStatement cells result (Return e) = IsTyped cells e × (type_of e ≡ result)

  pub AreTyped : Layout → List CellType → CheckedTrees → Type 0
  AreTyped cells result none = Unit {0}
  AreTyped cells result (more s rest) = IsTypedStatement cells result s × AreTyped cells result rest

-- ---- checks

-- the program's checks; and of a function, whether `main` reaches it, so that its checks are listed, and whether those of overflow are
pub record Listing : Type 0 where
  pub checks : List CheckInfo
  pub is_reached : Bool
  pub overflow : Bool

abbrev pub IsOfKind : Kind → Option CheckInfo → Type 0
IsOfKind kind None = ⊥
IsOfKind kind (Some check) = check.kind ≡ kind

-- the number of a check of this kind where it is listed, else 0
abbrev pub HasCheck : Listing → Bool → Kind → ℕ → Type 0
HasCheck g true kind c = IsOfKind kind (at_number g.checks c)
HasCheck g false kind c = c ≡ 0

-- an operator that computes on a type with a sign may overflow
abbrev pub lists_overflow : Listing → Bool → Ty → Bool
lists_overflow g computes ty = g.is_reached && g.overflow && computes && ty.signed

abbrev pub HasChecks : Listing → TypedTree → Type 0
HasChecks g (Constant ty v) = Unit {0}
HasChecks g (Choice ty) = Unit {0}
HasChecks g (Read ty l) = Unit {0}
HasChecks g (Unary op ty c e) = HasChecks g e × HasCheck g (lists_overflow g (is_computing op) ty) Overflow c
HasChecks g (Binary op ty c x y) = HasChecks g x × HasChecks g y × HasCheck g (lists_overflow g (is_arithmetic op) ty) Overflow c
HasChecks g (Convert ty e) = HasChecks g e
HasChecks g (Assign ty l e) = HasChecks g e
HasChecks g (Assert c e) = HasChecks g e × HasCheck g g.is_reached Assertion c

abbrev mutual
  pub StatementHasChecks : Listing → CheckedTree → Type 0
  StatementHasChecks g (Block all) = HaveChecks g all
  StatementHasChecks g (Declare n) = Unit {0}
  StatementHasChecks g (Static n) = Unit {0}
  StatementHasChecks g (Initialise n e) = HasChecks g e
  StatementHasChecks g (Label n) = Unit {0}
  StatementHasChecks g (Evaluate e) = HasChecks g e
  StatementHasChecks g (If e s) = HasChecks g e × StatementHasChecks g s
  StatementHasChecks g (IfElse e s t) = HasChecks g e × StatementHasChecks g s × StatementHasChecks g t
  StatementHasChecks g (While l named e s) = HasChecks g e × StatementHasChecks g s
  StatementHasChecks g (Return e) = HasChecks g e

  pub HaveChecks : Listing → CheckedTrees → Type 0
  HaveChecks g none = Unit {0}
  HaveChecks g (more s rest) = StatementHasChecks g s × HaveChecks g rest

-- ---- scopes

-- an object of static storage may be named anywhere, every other one where its declaration is in scope
abbrev pub IsNameable : (ℕ → Bool) → List ℕ → ℕ → Type 0
IsNameable is_static scope n = (is_static n ≡ true) ⊎ IsIn n scope

abbrev pub IsScopedLvalue : (ℕ → Bool) → List ℕ → LvalueTree → Type 0
IsScopedLvalue is_static scope (Object n) = IsNameable is_static scope n

abbrev pub IsScoped : (ℕ → Bool) → List ℕ → TypedTree → Type 0
IsScoped is_static scope (Constant ty v) = Unit {0}
IsScoped is_static scope (Choice ty) = Unit {0}
IsScoped is_static scope (Read ty l) = IsScopedLvalue is_static scope l
IsScoped is_static scope (Unary op ty c e) = IsScoped is_static scope e
IsScoped is_static scope (Binary op ty c x y) = IsScoped is_static scope x × IsScoped is_static scope y
IsScoped is_static scope (Convert ty e) = IsScoped is_static scope e
IsScoped is_static scope (Assign ty l e) = IsScopedLvalue is_static scope l × IsScoped is_static scope e
IsScoped is_static scope (Assert c e) = IsScoped is_static scope e

-- a declaration is no statement, so it isn't what a loop or a branch does (C11 6.8)
abbrev pub IsNoDeclaration : CheckedTree → Type 0
IsNoDeclaration (Declare n) = ⊥
IsNoDeclaration (Static n) = ⊥
IsNoDeclaration (Initialise n e) = ⊥
IsNoDeclaration s = Unit {0}

abbrev mutual
  -- an object is in scope in its own initialiser, and from there to the end of its block (C11 6.2.1); its declaration has its storage
  pub IsScopedStatement : (ℕ → Bool) → List ℕ → CheckedTree → Type 0
  IsScopedStatement is_static scope (Block all) = AreScoped is_static scope all
  IsScopedStatement is_static scope (Declare n) = is_static n ≡ false
  IsScopedStatement is_static scope (Static n) = is_static n ≡ true
  IsScopedStatement is_static scope (Initialise n e) = (is_static n ≡ false) × IsScoped is_static (scope ++ n ∷ []) e
  IsScopedStatement is_static scope (Label n) = Unit {0}
  IsScopedStatement is_static scope (Evaluate e) = IsScoped is_static scope e
  IsScopedStatement is_static scope (If e s) = IsScoped is_static scope e × IsNoDeclaration s × IsScopedStatement is_static scope s
  IsScopedStatement is_static scope (IfElse e s t) =
      IsScoped is_static scope e × IsNoDeclaration s × IsScopedStatement is_static scope s × IsNoDeclaration t × IsScopedStatement is_static scope t
  IsScopedStatement is_static scope (While l named e s) = IsScoped is_static scope e × IsNoDeclaration s × IsScopedStatement is_static scope s
  IsScopedStatement is_static scope (Return e) = IsScoped is_static scope e

  pub AreScoped : (ℕ → Bool) → List ℕ → CheckedTrees → Type 0
  AreScoped is_static scope none = Unit {0}
  AreScoped is_static scope (more s rest) = IsScopedStatement is_static scope s × AreScoped is_static (behind scope s) rest

-- ---- static values

-- no pointer is invalid at the start
abbrev pub IsStart : CellValue → Type 0
IsStart (Number z) = Unit {0}
IsStart Null = Unit {0}
IsStart Invalid = ⊥
IsStart (At o f) = Unit {0}

-- a static value stands for this cell of the object and fits it; then come those of the cells behind
abbrev pub HoldStart : Layout → ℕ → ℕ → List CellType → List StaticValue → (List StaticValue → Type 0) → Type 0
HoldStart cells n f [] values Rest = Rest values
HoldStart cells n f (t ∷ types) [] Rest = ⊥
HoldStart cells n f (t ∷ types) (s ∷ values) Rest = (s.object ≡ n) × (s.offset ≡ f) × CellFits cells t s.value × IsStart s.value × HoldStart cells n (suc f) types values Rest

-- those of an object, where it is static
abbrev pub HoldObject : Bool → Layout → ℕ → List CellType → List StaticValue → (List StaticValue → Type 0) → Type 0
HoldObject true cells n types values Rest = HoldStart cells n 0 types values Rest
HoldObject false cells n types values Rest = Rest values

-- one static value for each cell of each static object, by object and offset, where the first object has this number
abbrev pub HoldStatics : Layout → ℕ → List ObjectInfo → List StaticValue → Type 0
HoldStatics cells n [] values = values ≡ []
HoldStatics cells n (o ∷ rest) values = HoldObject o.is_static cells n o.cells values (HoldStatics cells (suc n) rest)

-- ---- programs

abbrev pub objects_of : ProgramTree → ℕ → List ℕ
objects_of p k = numbers_where (λ (o : ObjectInfo). o.function == k) 1 p.objects

abbrev pub loops_of : ProgramTree → ℕ → List ℕ
loops_of p k = numbers_where (λ (l : LoopInfo). l.function == k) 1 p.loops

abbrev pub AreNotStatic : (ℕ → Bool) → List ℕ → Type 0
AreNotStatic is_static [] = Unit {0}
AreNotStatic is_static (n ∷ ns) = (is_static n ≡ false) × AreNotStatic is_static ns

-- the function of this number, whose checks are listed so
pub record IsLawfulFunction (p : ProgramTree) (g : Listing) (k : ℕ) (f : FunctionTree) : Type 0 where
  -- its objects are its parameters and then those of the declarations in its tree, in the order of the text
  pub objects : objects_of p k ≡ f.parameters ++ declared_in f.body
  pub parameters : AreNotStatic (statics_of p) f.parameters
  pub loops : loops_of p k ≡ loops_in f.body
  pub typed : IsTypedStatement (cells_of p) f.result f.body
  pub scoped : IsScopedStatement (statics_of p) f.parameters f.body
  pub checks : StatementHasChecks g f.body
  -- its loops have the sets of its tree
  pub loop_sets : HaveSets p.loops (function_loop_sets p f)

abbrev pub main_result : List CellType
main_result = Integer int_type ∷ []

-- `int main(void)`, `int main()` or `int main(int, char **)`
abbrev pub IsMainForm : ProgramTree → FunctionTree → Type 0
IsMainForm p f =
    (f.result ≡ main_result) ×
    ((f.parameters ≡ []) ⊎ (map (cells_of p) f.parameters ≡ (Integer int_type ∷ []) ∷ (Pointer ∷ []) ∷ []))

abbrev pub IsSome : {A : Type 0} → Option A → Type 0
IsSome None = ⊥
IsSome (Some x) = Unit {0}

abbrev pub cell_count : List ObjectInfo → ℕ
cell_count [] = 0
cell_count (o ∷ rest) = length o.cells + cell_count rest

abbrev pub HaveCells : List ObjectInfo → Type 0
HaveCells [] = Unit {0}
HaveCells (o ∷ rest) = (0 < length o.cells) × HaveCells rest

pub record IsLawful (p : ProgramTree) : Type 0 where
  -- the function `main`, by its number
  pub main : ℕ
  pub main_function : FunctionTree
  pub has_main : at_number p.functions main ≡ Some main_function
  pub is_main : main_among p.names p.functions ≡ Some main_function
  pub main_form : IsMainForm p main_function
  -- whether checks of overflow are listed
  pub overflow : Bool
  -- without calls `main` reaches its own body alone
  pub functions : (k : ℕ) (f : FunctionTree) → at_number p.functions k ≡ Some f → IsLawfulFunction p (record { checks = p.checks; is_reached = k == main; overflow = overflow }) k f
  -- an object of file scope is static; every other one is a function's
  pub objects : (n : ℕ) (o : ObjectInfo) → at_number p.objects n ≡ Some o → ((o.function ≡ 0) × (o.is_static ≡ true)) ⊎ IsSome (at_number p.functions o.function)
  pub loops : (l : ℕ) (loop : LoopInfo) → at_number p.loops l ≡ Some loop → IsSome (at_number p.functions loop.function)
  -- each check is that of a place that `main` reaches
  pub checks : (c : ℕ) → IsSome (at_number p.checks c) → IsIn c (checks_in main_function.body)
  pub have_cells : HaveCells p.objects
  pub few_cells : cell_count p.objects ≤ 65536
  pub statics : HoldStatics (cells_of p) 1 p.objects p.static_values
  -- what pointers may point to
  pub sets : Sets
  pub are_sets : ArePointsTo p sets

-- one of the program's checks
abbrev pub IsCheckOf : ProgramTree → ℕ → Type 0
IsCheckOf p c = IsSome (at_number p.checks c)

-- a loop's sets rise; what it may change are objects with cells, and its variables are objects of one integer cell
pub record AreOfObjects (cells : Layout) (info : LoopInfo) : Type 0 where
  pub mods_rise : Rise info.mods
  pub vars_rise : Rise info.vars
  pub changed : All (λ n. 0 < length (cells n)) info.mods
  pub variables : All (λ n. is_integer (cells n) ≡ true) info.vars
