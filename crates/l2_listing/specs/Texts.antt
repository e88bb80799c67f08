-- How code is printed.
use Rattle.std.specs.Prelude.{ℕ, suc, ◌==◌, if◌then◌else◌, List, [], ◌∷◌, ◌++◌, length, codes, decimal}
use Rattle.std.specs.Fmt.{signed_decimal}
use Rattle.l2_bits.specs.declared.types.Ty.{Ty}
use Rattle.l2_bits.specs.declared.operators.Op.{Op}
use Rattle.l2_bits.specs.declared.operators.Op.TheVariants as op
use Rattle.l2_runs.specs.declared.cells.CellType.{CellType}
use Rattle.l2_runs.specs.declared.cells.CellType.TheVariants.{Integer, Pointer}
use Rattle.l2_runs.specs.declared.cells.CellValue.{CellValue}
use Rattle.l2_runs.specs.declared.cells.CellValue.TheVariants as value
use Rattle.l2_runs.specs.Kinds.{kind_text}
use Rattle.l2_code.specs.declared.action.Operator.{Operator}
use Rattle.l2_code.specs.declared.action.Operator.TheVariants.{Add, Sub, Mul, Div, Rem, Shl, Shr, And, Or, Xor, Eq, Ne, Lt, Le}
use Rattle.l2_code.specs.declared.action.PointerOperator.{PointerOperator}
use Rattle.l2_code.specs.declared.action.PointerOperator.TheVariants as pointer
use Rattle.l2_code.specs.declared.action.Operand.{Operand}
use Rattle.l2_code.specs.declared.action.Operand.TheVariants.{Constant, Temp}
use Rattle.l2_code.specs.declared.action.Test.{Test}
use Rattle.l2_code.specs.declared.action.Test.TheVariants as test
use Rattle.l2_code.specs.declared.action.Computation.{Computation}
use Rattle.l2_code.specs.declared.action.Computation.TheVariants.{Numbers, Convert, Move, Pointers, Passes}
use Rattle.l2_code.specs.declared.action.Action.{Action}
use Rattle.l2_code.specs.declared.action.Action.TheVariants.{Compute, Read, Write, Choice, Assume, Check, Unless, Goto, Live, Dead, End}
use Rattle.l2_code.specs.declared.code.CodeObject.{CodeObject}
use Rattle.l2_code.specs.declared.code.CodeCheck.{CodeCheck}
use Rattle.l2_code.specs.Trees.{CodeTree}
use Rattle.l2_listing.specs.Flat.{Instruction, Step, Head, Close, flat}

-- ---- the words of an instruction

abbrev pub integer_text : Ty → List ℕ
integer_text ty = if ty.width == 1 then codes "bool" else if ty.signed then codes "i" ++ decimal ty.width else codes "u" ++ decimal ty.width

abbrev pub type_text : CellType → List ℕ
type_text (Integer ty) = integer_text ty
type_text Pointer = codes "ptr"

abbrev pub operator_text : Operator → List ℕ
operator_text Add = codes "add"
operator_text Sub = codes "sub"
operator_text Mul = codes "mul"
operator_text Div = codes "div"
operator_text Rem = codes "rem"
operator_text Shl = codes "shl"
operator_text Shr = codes "shr"
operator_text And = codes "and"
operator_text Or = codes "or"
operator_text Xor = codes "xor"
operator_text Eq = codes "eq"
operator_text Ne = codes "ne"
operator_text Lt = codes "lt"
operator_text Le = codes "le"

abbrev pub pointer_operator_text : PointerOperator → List ℕ
pointer_operator_text pointer.Diff = codes "pdiff"
pointer_operator_text pointer.Eq = codes "peq"
pointer_operator_text pointer.Ne = codes "pne"
pointer_operator_text pointer.Lt = codes "plt"
pointer_operator_text pointer.Le = codes "ple"

abbrev pub overflow_text : Op → List ℕ
overflow_text op.Add = codes "add"
overflow_text op.Sub = codes "sub"
overflow_text op.Mul = codes "mul"
overflow_text op.Shl = codes "shl"

abbrev pub constant_text : CellValue → List ℕ
constant_text (value.Number z) = signed_decimal z
constant_text value.Null = codes "null"
constant_text value.Invalid = codes "invalid"
constant_text (value.At o f) = codes "&" ++ (decimal o ++ (codes "+" ++ decimal f))

abbrev pub temp_text : ℕ → List ℕ
temp_text n = codes "t" ++ decimal n

abbrev pub operand_text : Operand → List ℕ
operand_text (Constant v) = constant_text v
operand_text (Temp n) = temp_text n

-- ---- instructions

-- words parted by one space
abbrev pub spaced : List ℕ → List (List ℕ) → List ℕ
spaced w [] = w
spaced w (x ∷ xs) = w ++ (codes " " ++ spaced x xs)

abbrev pub test_text : Test → List ℕ
test_text (test.Division ty a b) = spaced (codes "okdiv") (integer_text ty ∷ operand_text a ∷ operand_text b ∷ [])
test_text (test.Shift ty b) = spaced (codes "okshift") (integer_text ty ∷ operand_text b ∷ [])
test_text (test.Overflow o ty a b) = spaced (codes "okover") (overflow_text o ∷ integer_text ty ∷ operand_text a ∷ operand_text b ∷ [])
test_text (test.Index l b) = spaced (codes "okindex") (decimal l ∷ operand_text b ∷ [])
test_text (test.IndexEnd l b) = spaced (codes "okindexend") (decimal l ∷ operand_text b ∷ [])
test_text (test.Null a) = spaced (codes "oknull") (operand_text a ∷ [])
test_text (test.Invalid a) = spaced (codes "okinvalid") (operand_text a ∷ [])
test_text (test.Live a) = spaced (codes "oklive") (operand_text a ∷ [])
test_text (test.Cells x a) = spaced (codes "okcells") (decimal x ∷ operand_text a ∷ [])
test_text (test.Move s a b) = spaced (codes "okpadd") (signed_decimal s ∷ operand_text a ∷ operand_text b ∷ [])
test_text (test.Same a b) = spaced (codes "oksame") (operand_text a ∷ operand_text b ∷ [])

abbrev pub computation_text : Computation → List ℕ
computation_text (Numbers o ty a b) = spaced (operator_text o) (integer_text ty ∷ operand_text a ∷ operand_text b ∷ [])
computation_text (Convert ty a) = spaced (codes "conv") (integer_text ty ∷ operand_text a ∷ [])
computation_text (Move s a b) = spaced (codes "padd") (signed_decimal s ∷ operand_text a ∷ operand_text b ∷ [])
computation_text (Pointers o a b) = spaced (pointer_operator_text o) (operand_text a ∷ operand_text b ∷ [])
computation_text (Passes t) = test_text t

-- what a temporary is given
abbrev pub gives : ℕ → List ℕ → List ℕ
gives t text = spaced (temp_text t) (codes "=" ∷ text ∷ [])

-- an instruction that jumps to this number, where it is a jump
abbrev pub action_text : Action → ℕ → List ℕ
action_text (Compute t c) to = gives t (computation_text c)
action_text (Read t ty a) to = gives t (spaced (codes "read") (type_text ty ∷ operand_text a ∷ []))
action_text (Write ty a b) to = spaced (codes "write") (type_text ty ∷ operand_text a ∷ operand_text b ∷ [])
action_text (Choice t ty) to = gives t (spaced (codes "choice") (integer_text ty ∷ []))
action_text (Assume a) to = spaced (codes "assume") (operand_text a ∷ [])
action_text (Check c a) to = spaced (codes "check") (decimal c ∷ operand_text a ∷ [])
action_text (Unless a n) to = spaced (codes "unless") (operand_text a ∷ decimal to ∷ [])
action_text (Goto n) to = spaced (codes "goto") (decimal to ∷ [])
action_text (Live o) to = spaced (codes "live") (decimal o ∷ [])
action_text (Dead o) to = spaced (codes "dead") (decimal o ∷ [])
action_text End to = codes "end"

abbrev pub instruction_text : Instruction → List ℕ
instruction_text (Step a to) = action_text a to
instruction_text (Head l) = spaced (codes "loop") (decimal l ∷ [])
instruction_text (Close l) = spaced (codes "close") (decimal l ∷ [])

-- ---- lines

-- a line of words parted by one space
abbrev pub line : List ℕ → List (List ℕ) → List ℕ
line w [] = w ++ codes "\n"
line w (x ∷ xs) = w ++ (codes " " ++ line x xs)

abbrev pub place_text : ℕ → ℕ → List ℕ
place_text l c = decimal l ++ (codes ":" ++ decimal c)

abbrev pub object_line : ℕ → CodeObject → List ℕ
object_line n o = line (codes "object") (decimal n ∷ o.name ∷ decimal (length o.cells) ∷ [])

abbrev pub check_line : ℕ → CodeCheck → List ℕ
check_line n c = line (codes "check") (decimal n ∷ kind_text c.kind ∷ place_text c.line c.col ∷ [])

abbrev pub instruction_line : ℕ → Instruction → List ℕ
instruction_line n i = line (decimal n) (instruction_text i ∷ [])

-- a line for each item, where the first has this number
abbrev pub lines_from : {A : Type 0} → (ℕ → A → List ℕ) → ℕ → List A → List ℕ
lines_from text n [] = []
lines_from text n (x ∷ xs) = text n x ++ lines_from text (suc n) xs

-- objects and checks, numbered from 1, and then the instructions, numbered from 0
abbrev pub listing : CodeTree → List ℕ
listing c = lines_from object_line 1 c.objects ++ (lines_from check_line 1 c.checks ++ lines_from instruction_line 0 (flat 0 [] c.body))
