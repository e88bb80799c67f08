-- What pointers may point to: the least sets, one for each object, that take in whatever `main` puts into the object's cells.
use Rattle.std.specs.Prelude.{◌≡◌, ℕ, ◌==◌, Bool, true, false, not, ◌&&◌, if◌then◌else◌, List, [], ◌∷◌, Some}
use Rattle.l2_bits.specs.declared.types.Ty.{Ty}
use Rattle.l2_runs.specs.declared.cells.CellType.{CellType}
use Rattle.l2_runs.specs.declared.cells.CellType.TheVariants.{Integer, Pointer}
use Rattle.l2_runs.specs.declared.member.Member.{Member}
use Rattle.l2_runs.specs.declared.member.Member.TheVariants.{Null, Invalid}
use Rattle.l2_runs.specs.Numbers.{at_number}
use Rattle.l2_runs.specs.Members.{targets, Within}
use Rattle.l2_program.specs.declared.program.ObjectInfo.{ObjectInfo}
use Rattle.l2_program.specs.declared.program.StaticValue.{StaticValue}
use Rattle.l2_program.specs.Checked.{LvalueTree, Object, TypedTree, Constant, Choice, Read, Unary, Binary, Convert, Assign, Assert, CheckedTree, Block, Declare, Static, Initialise, Label, Evaluate, If, IfElse, While, Return, CheckedTrees, none, more}
use Rattle.l2_program.specs.Types.{type_of}
use Rattle.l2_program.specs.Programs.{ProgramTree, FunctionTree}
use Rattle.l2_meaning.specs.Execution.{main_among}

-- what the cells of each object may point to, by its number
abbrev pub Sets : Type 0
Sets = ℕ → Member → Bool

-- ---- values

-- a conversion to the very type that a value has changes nothing
abbrev pub is_same : Ty → List CellType → Bool
is_same ty [] = false
is_same ty (Pointer ∷ types) = false
is_same ty (Integer t ∷ types) = t.width == ty.width && (if t.signed then ty.signed else not ty.signed)

-- what the objects of an lvalue may hold
abbrev pub held : Sets → LvalueTree → Member → Bool
held sets (Object n) = sets n

-- what an expression's value may point to; what operators compute points to nothing
abbrev pub may_be : Sets → TypedTree → Member → Bool
may_be sets (Constant ty v) m = targets v m
may_be sets (Choice ty) m = false
may_be sets (Read ty l) m = held sets l m
may_be sets (Unary op ty c e) m = false
may_be sets (Binary op ty c x y) m = false
may_be sets (Convert ty e) m = is_same ty (type_of e) && may_be sets e m
may_be sets (Assign ty l e) m = may_be sets e m
may_be sets (Assert c e) m = false

-- ---- closed sets

-- an lvalue's objects take in what a value may point to
abbrev pub TakeIn : Sets → LvalueTree → (Member → Bool) → Type 0
TakeIn sets (Object n) value = Within value (sets n)

-- each assignment of an expression is taken in
abbrev pub IsTakenIn : Sets → TypedTree → Type 0
IsTakenIn sets (Constant ty v) = Unit {0}
IsTakenIn sets (Choice ty) = Unit {0}
IsTakenIn sets (Read ty l) = Unit {0}
IsTakenIn sets (Unary op ty c e) = IsTakenIn sets e
IsTakenIn sets (Binary op ty c x y) = IsTakenIn sets x × IsTakenIn sets y
IsTakenIn sets (Convert ty e) = IsTakenIn sets e
IsTakenIn sets (Assign ty l e) = IsTakenIn sets e × TakeIn sets l (may_be sets e)
IsTakenIn sets (Assert c e) = IsTakenIn sets e

abbrev mutual
  -- each assignment and initialiser of a statement is taken in
  pub StatementIsTakenIn : Sets → CheckedTree → Type 0
  StatementIsTakenIn sets (Block all) = AreTakenIn sets all
  StatementIsTakenIn sets (Declare n) = Unit {0}
  StatementIsTakenIn sets (Static n) = Unit {0}
  StatementIsTakenIn sets (Initialise n e) = IsTakenIn sets e × TakeIn sets (Object n) (may_be sets e)
  StatementIsTakenIn sets (Label n) = Unit {0}
  StatementIsTakenIn sets (Evaluate e) = IsTakenIn sets e
  StatementIsTakenIn sets (If e s) = IsTakenIn sets e × StatementIsTakenIn sets s
  StatementIsTakenIn sets (IfElse e s t) = IsTakenIn sets e × StatementIsTakenIn sets s × StatementIsTakenIn sets t
  StatementIsTakenIn sets (While l named e s) = IsTakenIn sets e × StatementIsTakenIn sets s
  StatementIsTakenIn sets (Return e) = IsTakenIn sets e

  pub AreTakenIn : Sets → CheckedTrees → Type 0
  AreTakenIn sets none = Unit {0}
  AreTakenIn sets (more s rest) = StatementIsTakenIn sets s × AreTakenIn sets rest

abbrev pub has_pointer : List CellType → Bool
has_pointer [] = false
has_pointer (Integer ty ∷ types) = has_pointer types
has_pointer (Pointer ∷ types) = true

-- what pointer cells hold at first, or where nothing was put into them
abbrev pub first_member : Bool → Member
first_member true = Null
first_member false = Invalid

-- initial values of static objects are taken in
abbrev pub ValuesAreTakenIn : Sets → List StaticValue → Type 0
ValuesAreTakenIn sets [] = Unit {0}
ValuesAreTakenIn sets (s ∷ rest) = TakeIn sets (Object s.object) (targets s.value) × ValuesAreTakenIn sets rest

-- these sets take in whatever `main` puts into cells
pub record AreClosed (p : ProgramTree) (sets : Sets) : Type 0 where
  pub first : (n : ℕ) (o : ObjectInfo) → at_number p.objects n ≡ Some o → has_pointer o.cells ≡ true → sets n (first_member o.is_static) ≡ true
  pub statics : ValuesAreTakenIn sets p.static_values
  -- without calls `main` reaches its own body alone
  pub body : (f : FunctionTree) → main_among p.names p.functions ≡ Some f → StatementIsTakenIn sets f.body

-- the points-to sets of a program: the least closed ones
pub record ArePointsTo (p : ProgramTree) (sets : Sets) : Type 0 where
  pub closed : AreClosed p sets
  pub least : (other : Sets) → AreClosed p other → (n : ℕ) → Within (sets n) (other n)
