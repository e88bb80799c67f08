-- The types of expressions: the types of the cells of what they give, none for `void`.
use Rattle.std.specs.Prelude.{List, [], ◌∷◌, Bool, true, false}
use Rattle.l2_bits.specs.declared.types.Ty.{Ty}
use Rattle.l2_bits.specs.Types.{int_type}
use Rattle.l2_runs.specs.declared.cells.CellType.{CellType}
use Rattle.l2_runs.specs.declared.cells.CellType.TheVariants.{Integer}
use Rattle.l2_runs.specs.declared.operators.UnaryOperator.{UnaryOperator}
use Rattle.l2_runs.specs.declared.operators.UnaryOperator.TheVariants.{Negate, Not}
use Rattle.l2_runs.specs.declared.operators.BinaryOperator.{BinaryOperator}
use Rattle.l2_runs.specs.declared.operators.BinaryOperator.TheVariants.{Multiply, Add, Subtract}
use Rattle.l2_program.specs.Checked.{TypedTree, Constant, Choice, Read, Unary, Binary, Convert, Assign, Assert}

-- whether the operator computes a number of its operand's type, and isn't a test
abbrev pub is_computing : UnaryOperator → Bool
is_computing Negate = true
is_computing Not = false

abbrev pub is_arithmetic : BinaryOperator → Bool
is_arithmetic Multiply = true
is_arithmetic Add = true
is_arithmetic Subtract = true
is_arithmetic _ = false

-- what an operator on this type gives, where it computes and where it is a test
abbrev pub given : Bool → Ty → Ty
given true ty = ty
given false ty = int_type

abbrev pub type_of : TypedTree → List CellType
type_of (Constant ty v) = ty ∷ []
type_of (Choice ty) = Integer ty ∷ []
type_of (Read ty l) = ty ∷ []
type_of (Unary op ty c e) = Integer (given (is_computing op) ty) ∷ []
type_of (Binary op ty c x y) = Integer (given (is_arithmetic op) ty) ∷ []
type_of (Convert ty e) = Integer ty ∷ []
type_of (Assign ty l e) = ty ∷ []
type_of (Assert c e) = []
