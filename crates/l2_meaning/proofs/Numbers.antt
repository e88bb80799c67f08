-- What operators give is a value of its type.
use Rattle.std.proofs.Common.{◌-◌, ◌^◌, ℤ, pos, neg_ℤ, ◌≤ℤ◌, Bool, true, false, cond, if◌then◌else◌, arith}
use Rattle.std.proofs.lemmas.Int.{ints}
use Rattle.std.specs.Prelude.{int_lt, int_le}
use Rattle.std.specs.Ordering.{int_eq}
use Rattle.l2_bits.specs.declared.types.Ty.{Ty}
use Rattle.l2_bits.specs.Types.{int_type}
use Rattle.l2_bits.specs.Values.{IsValue}
use Rattle.l2_bits.proofs.Wraps.{wrap_value}
use Rattle.l2_runs.specs.declared.operators.UnaryOperator.{UnaryOperator}
use Rattle.l2_runs.specs.declared.operators.UnaryOperator.TheVariants.{Negate, Not}
use Rattle.l2_runs.specs.declared.operators.BinaryOperator.{BinaryOperator}
use Rattle.l2_runs.specs.declared.operators.BinaryOperator.TheVariants.{Multiply, Add, Subtract, Less, LessEqual, Greater, GreaterEqual, Equal, NotEqual}
use Rattle.l2_runs.specs.Operators.{truth, is_zero, unary, binary}
use Rattle.l2_program.specs.Types.{is_computing, is_arithmetic, given}

truth_value : (b : Bool) → IsValue int_type (truth b)
truth_value true = record { from = omega (arith, ints); to = omega (arith, ints) }
truth_value false = record { from = omega (arith, ints); to = omega (arith, ints) }

untruth_value : (b : Bool) → IsValue int_type (if b then pos 0 else pos 1)
untruth_value true = record { from = omega (arith, ints); to = omega (arith, ints) }
untruth_value false = record { from = omega (arith, ints); to = omega (arith, ints) }

pub unary_value : (op : UnaryOperator) (ty : Ty) (a : ℤ) → IsValue (given (is_computing op) ty) (unary op ty a)
unary_value Negate ty a = wrap_value ty _
unary_value Not ty a = truth_value (is_zero a)

pub binary_value : (op : BinaryOperator) (ty : Ty) (a b : ℤ) → IsValue (given (is_arithmetic op) ty) (binary op ty a b)
binary_value Multiply ty a b = wrap_value ty _
binary_value Add ty a b = wrap_value ty _
binary_value Subtract ty a b = wrap_value ty _
binary_value Less ty a b = truth_value (int_lt a b)
binary_value LessEqual ty a b = truth_value (int_le a b)
binary_value Greater ty a b = truth_value (int_lt b a)
binary_value GreaterEqual ty a b = truth_value (int_le b a)
binary_value Equal ty a b = truth_value (int_eq a b)
binary_value NotEqual ty a b = untruth_value (int_eq a b)

pub zero_value : (ty : Ty) → IsValue ty (pos 0)
zero_value ty = record { from = low ty.signed; to = high ty.signed } where
  low : (s : Bool) → cond s (neg_ℤ (pos (2 ^ (ty.width - 1)))) (pos 0) ≤ℤ pos 0
  low true = omega (arith, ints)
  low false = omega (arith, ints)

  high : (s : Bool) → pos 0 ≤ℤ cond s (pos (2 ^ (ty.width - 1) - 1)) (pos (2 ^ ty.width - 1))
  high true = omega (arith, ints)
  high false = omega (arith, ints)
