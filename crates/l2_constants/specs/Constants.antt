-- The value of a constant expression.
use Rattle.std.specs.Prelude.{ℤ, pos, neg_ℤ, Bool, ◌&&◌, not, if◌then◌else◌, int_lt, int_le, Option, Some, None}
use Rattle.std.specs.Ordering.{int_eq}
use Rattle.l2_bits.specs.declared.types.Ty.{Ty}
use Rattle.l2_bits.specs.declared.operators.Op.TheVariants as exact
use Rattle.l2_bits.specs.Values.{wrap}
use Rattle.l2_bits.specs.Operators.{add, sub, mul, div, rem, shl, shr, overflows, convert}
use Rattle.l2_bits.specs.Bits.{and, or, xor}
use Rattle.l2_types.specs.declared.typed.Arithmetic.{Arithmetic as ArithmeticOperator}
use Rattle.l2_types.specs.declared.typed.Arithmetic.TheVariants as op
use Rattle.l2_types.specs.declared.typed.Comparison.{Comparison}
use Rattle.l2_types.specs.declared.typed.Comparison.TheVariants.{Less, LessEqual, Greater, GreaterEqual, Equal, NotEqual}
use Rattle.l2_types.specs.declared.typed.Junction.{Junction}
use Rattle.l2_types.specs.declared.typed.Junction.TheVariants as junction
use Rattle.l2_types.specs.declared.typed.Negation.{Negation}
use Rattle.l2_types.specs.declared.typed.Negation.TheVariants.{Negate, Complement, Not}
use Rattle.l2_constants.specs.declared.constants.Folded.{Folded}
use Rattle.l2_constants.specs.declared.constants.Folded.TheVariants.{Varies, Breaks, Number}
use Rattle.l2_types.specs.Trees as tree
use Rattle.l2_types.specs.Trees.{TypedTree}

abbrev pub truth : Bool → ℤ
truth b = if b then pos 1 else pos 0

abbrev pub is_zero : ℤ → Bool
is_zero v = int_eq v (pos 0)

abbrev pub compared : Comparison → ℤ → ℤ → Bool
compared Less a b = int_lt a b
compared LessEqual a b = int_le a b
compared Greater a b = int_lt b a
compared GreaterEqual a b = int_le b a
compared Equal a b = int_eq a b
compared NotEqual a b = not (int_eq a b)

-- a number, unless overflow is checked and it overflows
abbrev pub unless_over : Bool → ℤ → Folded
unless_over over v = if over then Breaks else Number v

abbrev pub or_breaks : Option ℤ → Folded
or_breaks None = Breaks
or_breaks (Some v) = Number v

abbrev pub or_overflows : Option ℤ → Bool → Folded
or_overflows None over = Breaks
or_overflows (Some v) over = unless_over over v

abbrev pub arithmetic : Bool → ArithmeticOperator → Ty → ℤ → ℤ → Folded
arithmetic may op.Multiply ty a b = unless_over (may && overflows exact.Mul ty a b) (mul ty a b)
arithmetic may op.Divide ty a b = or_breaks (div ty a b)
arithmetic may op.Remainder ty a b = or_breaks (rem ty a b)
arithmetic may op.Add ty a b = unless_over (may && overflows exact.Add ty a b) (add ty a b)
arithmetic may op.Subtract ty a b = unless_over (may && overflows exact.Sub ty a b) (sub ty a b)
arithmetic may op.ShiftLeft ty a b = or_overflows (shl ty a b) (may && overflows exact.Shl ty a b)
arithmetic may op.ShiftRight ty a b = or_breaks (shr ty a b)
arithmetic may op.BitAnd ty a b = Number (and ty a b)
arithmetic may op.BitXor ty a b = Number (xor ty a b)
arithmetic may op.BitOr ty a b = Number (or ty a b)

-- the right operand of a shift has a type of its own
abbrev pub right_operand : ArithmeticOperator → Ty → ℤ → ℤ
right_operand op.ShiftLeft ty b = b
right_operand op.ShiftRight ty b = b
right_operand _ ty b = wrap ty b

abbrev pub negation : Bool → Negation → Ty → ℤ → Folded
negation may Negate ty a = unless_over (may && overflows exact.Sub ty (wrap ty (pos 0)) a) (sub ty (wrap ty (pos 0)) a)
negation may Complement ty a = Number (xor ty a (wrap ty (neg_ℤ (pos 1))))
negation may Not ty a = Number (truth (is_zero a))

-- ---- what is constant where its parts are

abbrev pub fold_convert : Ty → Folded → Folded
fold_convert ty Varies = Varies
fold_convert ty Breaks = Breaks
fold_convert ty (Number a) = Number (convert ty a)

abbrev pub fold_unary : Bool → Negation → Ty → Folded → Folded
fold_unary may op ty Varies = Varies
fold_unary may op ty Breaks = Breaks
fold_unary may op ty (Number a) = negation may op ty (wrap ty a)

abbrev pub fold_arithmetic : Bool → ArithmeticOperator → Ty → Folded → Folded → Folded
fold_arithmetic may op ty Varies y = Varies
fold_arithmetic may op ty Breaks Varies = Varies
fold_arithmetic may op ty (Number a) Varies = Varies
fold_arithmetic may op ty Breaks Breaks = Breaks
fold_arithmetic may op ty Breaks (Number b) = Breaks
fold_arithmetic may op ty (Number a) Breaks = Breaks
fold_arithmetic may op ty (Number a) (Number b) = arithmetic may op ty (wrap ty a) (right_operand op ty b)

abbrev pub fold_compare : Comparison → Folded → Folded → Folded
fold_compare op Varies y = Varies
fold_compare op Breaks Varies = Varies
fold_compare op (Number a) Varies = Varies
fold_compare op Breaks Breaks = Breaks
fold_compare op Breaks (Number b) = Breaks
fold_compare op (Number a) Breaks = Breaks
fold_compare op (Number a) (Number b) = Number (truth (compared op a b))

-- the right operand of `&&` and `||` breaks nothing where it isn't evaluated
abbrev pub stops : Junction → ℤ → Bool
stops junction.And a = is_zero a
stops junction.Or a = not (is_zero a)

abbrev pub fold_join : Junction → Folded → Folded → Folded
fold_join op Varies y = Varies
fold_join op Breaks Varies = Varies
fold_join op (Number a) Varies = Varies
fold_join op Breaks Breaks = Breaks
fold_join op Breaks (Number b) = Breaks
fold_join op (Number a) Breaks = if stops op a then Number (truth (not (is_zero a))) else Breaks
fold_join op (Number a) (Number b) = if stops op a then Number (truth (not (is_zero a))) else Number (truth (not (is_zero b)))

-- constant where all three are; the one that isn't chosen breaks nothing
abbrev pub both : Folded → Folded → Folded → Folded
both Varies y z = Varies
both Breaks Varies z = Varies
both (Number a) Varies z = Varies
both Breaks Breaks z = z
both Breaks (Number b) z = z
both (Number a) Breaks z = z
both (Number a) (Number b) z = z

abbrev pub fold_conditional : Folded → Folded → Folded → Folded
fold_conditional Varies x y = Varies
fold_conditional Breaks x y = both x y Breaks
fold_conditional (Number a) x y = both x y (if is_zero a then y else x)

abbrev pub fold : Bool → TypedTree → Folded
fold may (tree.Constant ty v) = Number v
fold may (tree.Choice ty) = Varies
fold may (tree.Read t l) = Varies
fold may (tree.Convert ty e) = fold_convert ty (fold may e)
fold may (tree.Unary op ty c e) = fold_unary may op ty (fold may e)
fold may (tree.Arithmetic op ty cs x y) = fold_arithmetic may op ty (fold may x) (fold may y)
fold may (tree.Compare op ty x y) = fold_compare op (fold may x) (fold may y)
fold may (tree.Join op x y) = fold_join op (fold may x) (fold may y)
fold may (tree.Conditional c x y) = fold_conditional (fold may c) (fold may x) (fold may y)
fold may (tree.Comma x y) = Varies
fold may (tree.Assign l e) = Varies
fold may (tree.Update g op ty t cs l e) = Varies
fold may (tree.Call n es) = Varies
fold may (tree.Assert c e) = Varies
fold may (tree.Fail c) = Varies
fold may (tree.Assume e) = Varies
fold may (tree.Exit e) = Varies
fold may tree.Abort = Varies
fold may (tree.Discard e) = Varies
