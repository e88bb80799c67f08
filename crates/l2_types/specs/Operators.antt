-- Operators by what they ask of their operands, and the checks that they make.
use Rattle.std.specs.Prelude.{Bool, true, false, Option, Some, None}
use Rattle.l2_runs.specs.declared.kind.Kind.{Kind}
use Rattle.l2_runs.specs.declared.kind.Kind.TheVariants.{Division, Shift}
use Rattle.l2_tree.specs.declared.operators.UpdateOperator.{UpdateOperator}
use Rattle.l2_tree.specs.declared.operators.UpdateOperator.TheVariants as update
use Rattle.l2_tree.specs.declared.operators.BinaryOperator.{BinaryOperator}
use Rattle.l2_tree.specs.declared.operators.BinaryOperator.TheVariants as binary
use Rattle.l2_tree.specs.declared.operators.AssignmentOperator.{AssignmentOperator}
use Rattle.l2_tree.specs.declared.operators.AssignmentOperator.TheVariants as assignment
use Rattle.l2_types.specs.declared.typed.Arithmetic.{Arithmetic}
use Rattle.l2_types.specs.declared.typed.Arithmetic.TheVariants.{Multiply, Divide, Remainder, Add, Subtract, ShiftLeft, ShiftRight, BitAnd, BitXor, BitOr}
use Rattle.l2_types.specs.declared.typed.Comparison.TheVariants.{Less, LessEqual, Greater, GreaterEqual, Equal, NotEqual}
use Rattle.l2_types.specs.declared.typed.Junction.TheVariants.{And, Or}
use Rattle.l2_types.specs.declared.operators.Class.{Class}
use Rattle.l2_types.specs.declared.operators.Class.TheVariants.{Computes, Shifts, Compares, Joins}
use Rattle.l2_types.specs.declared.operators.Assigning.{Assigning}
use Rattle.l2_types.specs.declared.operators.Assigning.TheVariants.{Plainly, Computing, Shifting}

abbrev pub class_of : BinaryOperator → Class
class_of binary.Multiply = Computes Multiply
class_of binary.Divide = Computes Divide
class_of binary.Remainder = Computes Remainder
class_of binary.Add = Computes Add
class_of binary.Subtract = Computes Subtract
class_of binary.ShiftLeft = Shifts ShiftLeft
class_of binary.ShiftRight = Shifts ShiftRight
class_of binary.Less = Compares Less
class_of binary.Greater = Compares Greater
class_of binary.LessEqual = Compares LessEqual
class_of binary.GreaterEqual = Compares GreaterEqual
class_of binary.Equal = Compares Equal
class_of binary.NotEqual = Compares NotEqual
class_of binary.BitAnd = Computes BitAnd
class_of binary.BitXor = Computes BitXor
class_of binary.BitOr = Computes BitOr
class_of binary.And = Joins And
class_of binary.Or = Joins Or

abbrev pub assignment_of : AssignmentOperator → Assigning
assignment_of assignment.Assign = Plainly
assignment_of assignment.Multiply = Computing Multiply
assignment_of assignment.Divide = Computing Divide
assignment_of assignment.Remainder = Computing Remainder
assignment_of assignment.Add = Computing Add
assignment_of assignment.Subtract = Computing Subtract
assignment_of assignment.ShiftLeft = Shifting ShiftLeft
assignment_of assignment.ShiftRight = Shifting ShiftRight
assignment_of assignment.BitAnd = Computing BitAnd
assignment_of assignment.BitXor = Computing BitXor
assignment_of assignment.BitOr = Computing BitOr

abbrev pub step_of : UpdateOperator → Arithmetic
step_of update.Increment = Add
step_of update.Decrement = Subtract

-- the check that an operator makes whatever the type
abbrev pub defined_kind : Arithmetic → Option Kind
defined_kind Multiply = None
defined_kind Divide = Some Division
defined_kind Remainder = Some Division
defined_kind Add = None
defined_kind Subtract = None
defined_kind ShiftLeft = Some Shift
defined_kind ShiftRight = Some Shift
defined_kind BitAnd = None
defined_kind BitXor = None
defined_kind BitOr = None

-- the exact result may be none of the type's values
abbrev pub can_overflow : Arithmetic → Bool
can_overflow Multiply = true
can_overflow Divide = false
can_overflow Remainder = false
can_overflow Add = true
can_overflow Subtract = true
can_overflow ShiftLeft = true
can_overflow ShiftRight = false
can_overflow BitAnd = false
can_overflow BitXor = false
can_overflow BitOr = false
