-- What an expression becomes: instructions in the order of evaluation, with temporaries numbered as they are emitted.
use Rattle.std.specs.Prelude.{ℕ, zero, suc, pos, Bool, true, false, ◌&&◌, if◌then◌else◌, List, [], ◌∷◌, Option, Some, None}
use Rattle.l2_bits.specs.declared.types.Ty.{Ty}
use Rattle.l2_bits.specs.declared.operators.Op.{Op}
use Rattle.l2_bits.specs.declared.operators.Op.TheVariants as arithmetic
use Rattle.l2_runs.specs.declared.cells.CellType.{CellType}
use Rattle.l2_runs.specs.declared.cells.CellType.TheVariants.{Integer, Pointer}
use Rattle.l2_runs.specs.declared.cells.CellValue.{CellValue}
use Rattle.l2_runs.specs.declared.cells.CellValue.TheVariants.{Number, Null, At}
use Rattle.l2_runs.specs.declared.operators.UnaryOperator.{UnaryOperator}
use Rattle.l2_runs.specs.declared.operators.UnaryOperator.TheVariants.{Negate, Not}
use Rattle.l2_runs.specs.declared.operators.BinaryOperator.{BinaryOperator}
use Rattle.l2_runs.specs.declared.operators.BinaryOperator.TheVariants as binary
use Rattle.l2_program.specs.Checked as tree
use Rattle.l2_program.specs.Checked.{LvalueTree, TypedTree}
use Rattle.l2_program.specs.Types.{type_of}
use Rattle.l2_code.specs.declared.action.Operator.TheVariants as operator
use Rattle.l2_code.specs.declared.action.PointerOperator.TheVariants as pointers
use Rattle.l2_code.specs.declared.action.Operand.{Operand}
use Rattle.l2_code.specs.declared.action.Operand.TheVariants.{Constant, Temp}
use Rattle.l2_code.specs.declared.action.Test.{Test}
use Rattle.l2_code.specs.declared.action.Test.TheVariants as test
use Rattle.l2_code.specs.declared.action.Computation.{Computation}
use Rattle.l2_code.specs.declared.action.Computation.TheVariants.{Numbers, Convert, Move, Pointers, Passes}
use Rattle.l2_code.specs.declared.action.Action.{Action}
use Rattle.l2_code.specs.declared.action.Action.TheVariants.{Compute, Read, Write, Choice, Check}
use Rattle.l2_code.specs.Trees.{Do, Nodes, none, more, join}
use Rattle.l2_code.specs.Values.{Types, no_temps, begins_with, compute}

-- one instruction
abbrev pub only : Action → Nodes
only a = more (Do a) none

-- items, the operand that holds the value behind them, and the number of the temporary that comes next
pub record Emitted : Type 0 where
  pub nodes : Nodes
  pub operand : Operand
  pub next : ℕ

-- what follows may use the operand, and the next temporary
abbrev pub behind : Emitted → (ℕ → Operand → Emitted) → Emitted
behind x f = record {
  nodes = join x.nodes (f x.next x.operand).nodes;
  operand = (f x.next x.operand).operand;
  next = (f x.next x.operand).next;
}

-- items, and the number of the temporary that comes next
pub record Part : Type 0 where
  pub nodes : Nodes
  pub next : ℕ

abbrev pub part : ℕ → Nodes → Part
part n xs = record { nodes = xs; next = n }

-- items, and then what is emitted behind them
abbrev pub after : Part → (ℕ → Emitted) → Emitted
after p f = record { nodes = join p.nodes (f p.next).nodes; operand = (f p.next).operand; next = (f p.next).next }

abbrev pub nothing : ℕ → Operand → Emitted
nothing n a = record { nodes = none; operand = a; next = n }

-- an instruction whose result is the next temporary
abbrev pub result : ℕ → Action → Emitted
result n action = record { nodes = only action; operand = Temp n; next = suc n }

-- a check, where there is one
abbrev pub checked : ℕ → Operand → Nodes
checked zero a = none
checked (suc c) a = only (Check (suc c) a)

-- ---- computations

abbrev pub test_operands : Test → List Operand
test_operands (test.Division ty a b) = a ∷ b ∷ []
test_operands (test.Shift ty a) = a ∷ []
test_operands (test.Overflow op ty a b) = a ∷ b ∷ []
test_operands (test.Index n a) = a ∷ []
test_operands (test.IndexEnd n a) = a ∷ []
test_operands (test.Null a) = a ∷ []
test_operands (test.Invalid a) = a ∷ []
test_operands (test.Live a) = a ∷ []
test_operands (test.Cells x a) = a ∷ []
test_operands (test.Move by a b) = a ∷ b ∷ []
test_operands (test.Same a b) = a ∷ b ∷ []

abbrev pub operands_of : Computation → List Operand
operands_of (Numbers op ty a b) = a ∷ b ∷ []
operands_of (Convert ty a) = a ∷ []
operands_of (Move by a b) = a ∷ b ∷ []
operands_of (Pointers op a b) = a ∷ b ∷ []
operands_of (Passes t) = test_operands t

abbrev pub is_constant : Operand → Bool
is_constant (Constant v) = true
is_constant (Temp n) = false

abbrev pub are_constant : List Operand → Bool
are_constant [] = true
are_constant (a ∷ rest) = is_constant a && are_constant rest

-- a value that is taken as 0 where its check breaks
abbrev pub or_zero : Option CellValue → CellValue
or_zero None = Number (pos 0)
or_zero (Some v) = v

abbrev pub no_types : Types
no_types = record { objects = λ n. []; pointed = λ n. [] }

-- an instruction that computes; where its operands are constants none is emitted, and its value stands for its result
abbrev pub computed : ℕ → Computation → Emitted
computed n c = if are_constant (operands_of c) then nothing n (Constant (or_zero (compute no_types [] no_temps c))) else result n (Compute n c)

-- ---- operators

abbrev pub zero_number : Operand
zero_number = Constant (Number (pos 0))

-- the check that the exact result is a value of the type, where there is one
abbrev pub overflow_check : ℕ → ℕ → Op → Ty → Operand → Operand → Part
overflow_check n zero op ty a b = part n none
overflow_check n (suc c) op ty a b =
    part (computed n (Passes (test.Overflow op ty a b))).next (join (computed n (Passes (test.Overflow op ty a b))).nodes (checked (suc c) (computed n (Passes (test.Overflow op ty a b))).operand))

abbrev pub unary_code : ℕ → UnaryOperator → Ty → ℕ → Operand → Emitted
unary_code n Negate ty c a = after (overflow_check n c arithmetic.Sub ty zero_number a) (λ m. computed m (Numbers operator.Sub ty zero_number a))
unary_code n Not ty c a = computed n (Numbers operator.Eq ty a zero_number)

-- `>` and `>=` are `lt` and `le` with operands exchanged
abbrev pub binary_code : ℕ → BinaryOperator → Ty → ℕ → Operand → Operand → Emitted
binary_code n binary.Multiply ty c a b = after (overflow_check n c arithmetic.Mul ty a b) (λ m. computed m (Numbers operator.Mul ty a b))
binary_code n binary.Add ty c a b = after (overflow_check n c arithmetic.Add ty a b) (λ m. computed m (Numbers operator.Add ty a b))
binary_code n binary.Subtract ty c a b = after (overflow_check n c arithmetic.Sub ty a b) (λ m. computed m (Numbers operator.Sub ty a b))
binary_code n binary.Less ty c a b = computed n (Numbers operator.Lt ty a b)
binary_code n binary.LessEqual ty c a b = computed n (Numbers operator.Le ty a b)
binary_code n binary.Greater ty c a b = computed n (Numbers operator.Lt ty b a)
binary_code n binary.GreaterEqual ty c a b = computed n (Numbers operator.Le ty b a)
binary_code n binary.Equal ty c a b = computed n (Numbers operator.Eq ty a b)
binary_code n binary.NotEqual ty c a b = computed n (Numbers operator.Ne ty a b)

-- a number of a type as one of another; where it is one already nothing is emitted
abbrev pub conversion : ℕ → List CellType → Ty → Operand → Emitted
conversion n from to a = if begins_with (Integer to ∷ []) from then nothing n a else computed n (Convert to a)

-- whether a scalar differs from 0
abbrev pub truth_code : ℕ → List CellType → Operand → Emitted
truth_code n [] a = nothing n a
truth_code n (Integer ty ∷ rest) a = computed n (Numbers operator.Ne ty a zero_number)
truth_code n (Pointer ∷ rest) a = computed n (Pointers pointers.Ne a (Constant Null))

-- ---- expressions

-- the address of an object's cell
abbrev pub cell : ℕ → ℕ → Operand
cell o f = Constant (At o f)

abbrev pub address : LvalueTree → Operand
address (tree.Object o) = cell o 0

abbrev pub expression : ℕ → TypedTree → Emitted
expression n (tree.Constant ty v) = nothing n (Constant v)
expression n (tree.Choice ty) = result n (Choice n ty)
expression n (tree.Read ty l) = result n (Read n ty (address l))
expression n (tree.Unary op ty c e) = behind (expression n e) (λ m a. unary_code m op ty c a)
expression n (tree.Binary op ty c x y) = behind (expression n x) (λ m a. behind (expression m y) (λ k b. binary_code k op ty c a b))
expression n (tree.Convert ty e) = behind (expression n e) (λ m a. conversion m (type_of e) ty a)
expression n (tree.Assign ty l e) = behind (expression n e) (λ m a. record { nodes = only (Write ty (address l) a); operand = a; next = m })
expression n (tree.Assert c e) = behind (behind (expression n e) (λ m a. truth_code m (type_of e) a)) (λ m a. record { nodes = checked c a; operand = a; next = m })

-- a tested expression
abbrev pub condition : ℕ → TypedTree → Emitted
condition n e = behind (expression n e) (λ m a. truth_code m (type_of e) a)
