-- What the words of names are of.
use Rattle.std.specs.Prelude.{◌≡◌, ℕ, ◌≤◌, ◌<◌, Bool, true, false, if◌then◌else◌, List, [], ◌∷◌, length, map, slice_index_or}
use Rattle.l2_bits.specs.declared.types.Ty.{Ty}
use Rattle.l2_bits.specs.Types.{int_type, long_type}
use Rattle.l2_runs.specs.declared.cells.CellType.{CellType}
use Rattle.l2_runs.specs.declared.cells.CellType.TheVariants.{Integer, Pointer}
use Rattle.l2_runs.specs.declared.member.Member.{Member}
use Rattle.l2_runs.specs.declared.member.Member.TheVariants as member
use Rattle.l2_runs.specs.Fits.{Layout}
use Rattle.l2_code.specs.declared.action.Operator.{Operator}
use Rattle.l2_code.specs.declared.action.Operand.{Operand}
use Rattle.l2_code.specs.declared.action.Operand.TheVariants.{Constant, Temp}
use Rattle.l2_code.specs.declared.action.PointerOperator.{PointerOperator}
use Rattle.l2_code.specs.declared.action.PointerOperator.TheVariants as pointers
use Rattle.l2_code.specs.declared.action.Test.{Test}
use Rattle.l2_code.specs.declared.action.Test.TheVariants as test
use Rattle.l2_code.specs.declared.action.Computation.{Computation}
use Rattle.l2_code.specs.declared.action.Computation.TheVariants.{Numbers, Convert, Move, Pointers, Passes}
use Rattle.l2_code.specs.Values.{Types}
use Rattle.l2_code.specs.WellFormed.{is_comparison, is_shift, is_left_shift, IsConstant, IsWhole, IsFactor, IsLength}
use Rattle.l2_ssa.specs.Steps.{Step, Choose, Take, Half, Point, Among, Compute, Alive, Pick, Row, Lower, Apart, Both, But, Either, Merge, Flag}

-- 1 or 0, where only bit 0 of so many bits may be true; the selector or the offset of a pointer; or what cells of a type hold
pub data Sort : Type 0 where
  Truth : ℕ → Sort
  Part : Sort
  Cell : CellType → Sort

abbrev pub cell_width : CellType → ℕ
cell_width (Integer ty) = ty.width
cell_width Pointer = 34

abbrev pub width : Sort → ℕ
width (Truth n) = n
width Part = 17
width (Cell ty) = cell_width ty

abbrev pub sort_of_operator : Operator → Ty → Sort
sort_of_operator op ty = if is_comparison op then Truth 32 else Cell (Integer ty)

abbrev pub sort_of_pointers : PointerOperator → Sort
sort_of_pointers pointers.Diff = Cell (Integer long_type)
sort_of_pointers op = Truth 32

abbrev pub sort_of_computation : Computation → Sort
sort_of_computation (Numbers op ty a b) = sort_of_operator op ty
sort_of_computation (Convert ty a) = Cell (Integer ty)
sort_of_computation (Move by a b) = Cell Pointer
sort_of_computation (Pointers op a b) = sort_of_pointers op
sort_of_computation (Passes t) = Truth 32

-- what the name of a step is; paths and what is said of them have one bit
abbrev pub sort_of : Step → Sort
sort_of (Choose g) = Truth 1
sort_of (Take g ty) = Cell (Integer ty)
sort_of (Half g) = Part
sort_of (Point g sel off) = Cell Pointer
sort_of (Among g sel off set) = Truth 1
sort_of (Compute g c set) = sort_of_computation c
sort_of (Alive g a flags) = Truth 32
sort_of (Pick g a o f ty x y) = Cell ty
sort_of (Row g l i vars) = Truth 1
sort_of (Lower g l old new) = Truth 1
sort_of (Apart g a b) = Truth 1
sort_of (Both a b) = Truth 1
sort_of (But a b) = Truth 1
sort_of (Either a b) = Truth 1
sort_of (Merge g h ty x y) = Cell ty

-- ---- typed steps

-- the sorts of names
abbrev pub Sorts : Type 0
Sorts = ℕ → Sort

-- the sorts of the names that steps give
abbrev pub sorts_of : List Step → Sorts
sorts_of xs n = slice_index_or (map sort_of xs) n (Truth 1)

-- a truth value: where it is true, bit 0 is
abbrev pub HasTruth : Sort → Type 0
HasTruth (Truth n) = Unit {0}
HasTruth Part = ⊥
HasTruth (Cell (Integer ty)) = ty.width ≡ 1
HasTruth (Cell Pointer) = ⊥

abbrev pub IsTruth : Sorts → Operand → Type 0
IsTruth sorts (Constant v) = Unit {0}
IsTruth sorts (Temp n) = HasTruth (sorts n)

abbrev pub IsPart : Sorts → Operand → Type 0
IsPart sorts (Constant v) = ⊥
IsPart sorts (Temp n) = sorts n ≡ Part

-- a truth value of the code is one of type `int`
abbrev pub HasType : CellType → Sort → Type 0
HasType ty (Truth n) = (n ≡ 32) × (ty ≡ Integer int_type)
HasType ty Part = ⊥
HasType ty (Cell u) = u ≡ ty

abbrev pub IsOf : Layout → Sorts → CellType → Operand → Type 0
IsOf cells sorts ty (Constant v) = IsConstant cells ty v
IsOf cells sorts ty (Temp n) = HasType ty (sorts n)

-- a number of a type of at least so many bits
abbrev pub HasNumber : ℕ → Sort → Type 0
HasNumber least (Truth n) = (n ≡ 32) × (least ≤ 32)
HasNumber least Part = ⊥
HasNumber least (Cell (Integer ty)) = least ≤ ty.width
HasNumber least (Cell Pointer) = ⊥

abbrev pub IsNumber : Sorts → ℕ → Operand → Type 0
IsNumber sorts least (Constant v) = IsWhole v
IsNumber sorts least (Temp n) = HasNumber least (sorts n)

abbrev pub AreNumbers : Sorts → List Operand → Type 0
AreNumbers sorts [] = Unit {0}
AreNumbers sorts (a ∷ rest) = IsNumber sorts 1 a × AreNumbers sorts rest

-- the objects of a set have cells
abbrev pub IsSet : Layout → (Member → Bool) → Type 0
IsSet cells set = (o : ℕ) → set (member.Object o) ≡ true → 0 < length (cells o)

-- the right operand is of the operator's type, but for the amount of a shift
abbrev pub IsRight : Bool → Layout → Sorts → Ty → Operand → Type 0
IsRight true cells sorts ty b = IsNumber sorts 32 b
IsRight false cells sorts ty b = IsOf cells sorts (Integer ty) b

abbrev pub IsTypedTest : Types → Sorts → Test → Type 0
IsTypedTest types sorts (test.Division ty a b) = IsOf types.objects sorts (Integer ty) a × IsOf types.objects sorts (Integer ty) b
IsTypedTest types sorts (test.Shift ty a) = IsNumber sorts 32 a
-- of a left shift nothing is said yet: its test is about amounts that are in range
IsTypedTest types sorts (test.Overflow op ty a b) =
    (is_left_shift op ≡ false) × (ty.signed ≡ true) × IsOf types.objects sorts (Integer ty) a × IsOf types.objects sorts (Integer ty) b
IsTypedTest types sorts (test.Index n a) = IsLength n × IsNumber sorts 32 a
IsTypedTest types sorts (test.IndexEnd n a) = IsLength n × IsNumber sorts 32 a
IsTypedTest types sorts (test.Null a) = IsOf types.objects sorts Pointer a
IsTypedTest types sorts (test.Invalid a) = IsOf types.objects sorts Pointer a
-- a step of its own
IsTypedTest types sorts (test.Live a) = ⊥
IsTypedTest types sorts (test.Cells x a) = (0 < length (types.pointed x)) × IsOf types.objects sorts Pointer a
IsTypedTest types sorts (test.Move by a b) = IsFactor by × IsOf types.objects sorts Pointer a × IsNumber sorts 1 b
IsTypedTest types sorts (test.Same a b) = IsOf types.objects sorts Pointer a × IsOf types.objects sorts Pointer b

abbrev pub IsTypedComputation : Types → Sorts → Computation → Type 0
IsTypedComputation types sorts (Numbers op ty a b) = IsOf types.objects sorts (Integer ty) a × IsRight (is_shift op) types.objects sorts ty b
IsTypedComputation types sorts (Convert ty a) = IsNumber sorts 1 a
IsTypedComputation types sorts (Move by a b) = IsFactor by × IsOf types.objects sorts Pointer a × IsNumber sorts 1 b
IsTypedComputation types sorts (Pointers op a b) = IsOf types.objects sorts Pointer a × IsOf types.objects sorts Pointer b
IsTypedComputation types sorts (Passes t) = IsTypedTest types sorts t

abbrev pub AreFlags : Layout → Sorts → List Flag → Type 0
AreFlags cells sorts [] = Unit {0}
AreFlags cells sorts (x ∷ rest) = (0 < length (cells x.object)) × IsTruth sorts x.live × AreFlags cells sorts rest

-- the operands of a step have the sorts that it asks
abbrev pub IsTyped : Types → Sorts → Step → Type 0
IsTyped types sorts (Choose g) = IsTruth sorts g
IsTyped types sorts (Take g ty) = IsTruth sorts g
IsTyped types sorts (Half g) = IsTruth sorts g
IsTyped types sorts (Point g sel off) = IsTruth sorts g × IsPart sorts sel × IsPart sorts off
IsTyped types sorts (Among g sel off set) = IsTruth sorts g × IsPart sorts sel × IsPart sorts off × IsSet types.objects set
IsTyped types sorts (Compute g c set) = IsTruth sorts g × IsTypedComputation types sorts c × IsSet types.objects set
IsTyped types sorts (Alive g a flags) = IsTruth sorts g × IsOf types.objects sorts Pointer a × AreFlags types.objects sorts flags
IsTyped types sorts (Pick g a o f ty x y) =
    IsTruth sorts g × IsOf types.objects sorts Pointer a × (0 < length (types.objects o)) × (f < 131072) × IsOf types.objects sorts ty x × IsOf types.objects sorts ty y
IsTyped types sorts (Row g l i vars) = IsTruth sorts g × AreNumbers sorts vars
IsTyped types sorts (Lower g l old new) = IsTruth sorts g × AreNumbers sorts old × AreNumbers sorts new
IsTyped types sorts (Apart g a b) = IsTruth sorts g × IsTruth sorts a × IsTruth sorts b
IsTyped types sorts (Both a b) = IsTruth sorts a × IsTruth sorts b
IsTyped types sorts (But a b) = IsTruth sorts a × IsTruth sorts b
IsTyped types sorts (Either a b) = IsTruth sorts a × IsTruth sorts b
IsTyped types sorts (Merge g h ty x y) = IsTruth sorts g × IsTruth sorts h × IsOf types.objects sorts ty x × IsOf types.objects sorts ty y

abbrev pub AreTyped : Types → Sorts → List Step → Type 0
AreTyped types sorts [] = Unit {0}
AreTyped types sorts (x ∷ xs) = IsTyped types sorts x × AreTyped types sorts xs
