-- What operators give on numbers of a type, and when they overflow.
use Rattle.std.specs.Prelude.{ℤ, pos, Bool, false, int_lt, int_le, if◌then◌else◌}
use Rattle.std.specs.Ordering.{int_eq}
use Rattle.l2_bits.specs.declared.types.Ty.{Ty}
use Rattle.l2_bits.specs.declared.operators.Op.TheVariants.{Add, Sub, Mul}
use Rattle.l2_bits.specs.Operators.{add, sub, mul, overflows}
use Rattle.l2_runs.specs.declared.operators.UnaryOperator.{UnaryOperator}
use Rattle.l2_runs.specs.declared.operators.UnaryOperator.TheVariants.{Negate, Not}
use Rattle.l2_runs.specs.declared.operators.BinaryOperator.{BinaryOperator}
use Rattle.l2_runs.specs.declared.operators.BinaryOperator.TheVariants as binary_operator

-- 1 where it holds, else 0
abbrev pub truth : Bool → ℤ
truth b = if b then pos 1 else pos 0

abbrev pub is_zero : ℤ → Bool
is_zero a = int_eq a (pos 0)

abbrev pub unary : UnaryOperator → Ty → ℤ → ℤ
unary Negate ty a = sub ty (pos 0) a
unary Not ty a = truth (is_zero a)

abbrev pub binary : BinaryOperator → Ty → ℤ → ℤ → ℤ
binary binary_operator.Multiply ty a b = mul ty a b
binary binary_operator.Add ty a b = add ty a b
binary binary_operator.Subtract ty a b = sub ty a b
binary binary_operator.Less ty a b = truth (int_lt a b)
binary binary_operator.LessEqual ty a b = truth (int_le a b)
binary binary_operator.Greater ty a b = truth (int_lt b a)
binary binary_operator.GreaterEqual ty a b = truth (int_le b a)
binary binary_operator.Equal ty a b = truth (int_eq a b)
binary binary_operator.NotEqual ty a b = if int_eq a b then pos 0 else pos 1

-- the type has a sign, and the exact result isn't a value of it
abbrev pub unary_overflows : UnaryOperator → Ty → ℤ → Bool
unary_overflows Negate ty a = overflows Sub ty (pos 0) a
unary_overflows Not ty a = false

abbrev pub binary_overflows : BinaryOperator → Ty → ℤ → ℤ → Bool
binary_overflows binary_operator.Multiply ty a b = overflows Mul ty a b
binary_overflows binary_operator.Add ty a b = overflows Add ty a b
binary_overflows binary_operator.Subtract ty a b = overflows Sub ty a b
binary_overflows _ ty a b = false
