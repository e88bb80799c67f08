-- The operators of a type on its values, and the checks at which C leaves them undefined.
use Rattle.std.specs.Prelude.{ℕ, ◌/◌, ◌^◌, Bool, false, not, ◌&&◌, ◌||◌, ◌==◌, if◌then◌else◌, ℤ, pos, negsuc, ◌+ℤ◌, ◌-ℤ◌, ◌*ℤ◌, ◌≤ℤ◌, ◌<ℤ◌, int_lt, int_div, unsigned_abs, Option, Some, None}
use Rattle.std.specs.Ordering.{int_eq}
use Rattle.l2_bits.specs.declared.types.Ty.{Ty}
use Rattle.l2_bits.specs.declared.operators.Op.{Op}
use Rattle.l2_bits.specs.declared.operators.Op.TheVariants.{Add, Sub, Mul, Shl}
use Rattle.l2_bits.specs.Values.{IsValue, is_value, wrap}

abbrev pub add : Ty → ℤ → ℤ → ℤ
add ty a b = wrap ty (a +ℤ b)

abbrev pub sub : Ty → ℤ → ℤ → ℤ
sub ty a b = wrap ty (a -ℤ b)

abbrev pub mul : Ty → ℤ → ℤ → ℤ
mul ty a b = wrap ty (a *ℤ b)

-- ---- division

-- a / b, truncated towards zero
abbrev pub quotient : ℤ → ℤ → ℤ
quotient a b = int_div a b

abbrev pub remainder : ℤ → ℤ → ℤ
remainder a b = a -ℤ b *ℤ quotient a b

-- the divisor is 0, or the quotient isn't a value of the type
unfoldable pub breaks_division : Ty → ℤ → ℤ → Bool
breaks_division ty a b = int_eq b (pos 0) || not (is_value ty (quotient a b))

unfoldable pub div : Ty → ℤ → ℤ → Option ℤ
div ty a b = if breaks_division ty a b then None else Some (quotient a b)

unfoldable pub rem : Ty → ℤ → ℤ → Option ℤ
rem ty a b = if breaks_division ty a b then None else Some (remainder a b)

-- ---- shifts

-- a times 2 ^ n
abbrev pub shifted_left : ℤ → ℤ → ℤ
shifted_left a n = a *ℤ pos (2 ^ unsigned_abs n)

-- a divided by n, rounded down
abbrev pub floor_div : ℤ → ℕ → ℤ
floor_div (pos a) n = pos (a / n)
floor_div (negsuc a) n = negsuc (a / n)

-- a divided by 2 ^ n, rounded down
abbrev pub shifted_right : ℤ → ℤ → ℤ
shifted_right a n = floor_div a (2 ^ unsigned_abs n)

-- the amount is negative or at least the width
unfoldable pub breaks_shift : Ty → ℤ → Bool
breaks_shift ty n = int_lt n (pos 0) || not (int_lt n (pos ty.width))

unfoldable pub shl : Ty → ℤ → ℤ → Option ℤ
shl ty a n = if breaks_shift ty n then None else Some (wrap ty (shifted_left a n))

unfoldable pub shr : Ty → ℤ → ℤ → Option ℤ
shr ty a n = if breaks_shift ty n then None else Some (shifted_right a n)

-- ---- overflow

-- the exact result
abbrev pub exact : Op → ℤ → ℤ → ℤ
exact Add a b = a +ℤ b
exact Sub a b = a -ℤ b
exact Mul a b = a *ℤ b
exact Shl a b = shifted_left a b

abbrev pub shifts_negative : Op → ℤ → Bool
shifts_negative Shl a = int_lt a (pos 0)
shifts_negative _ a = false

-- the type has a sign, and the exact result isn't a value of it or the left operand of a shift is negative
unfoldable pub overflows : Op → Ty → ℤ → ℤ → Bool
overflows op ty a b = ty.signed && (not (is_value ty (exact op a b)) || shifts_negative op a)

-- b may be the right operand: the amount of a shift that breaks no check, or a value of the type
abbrev pub IsRightOperand : Op → Ty → ℤ → Type 0
IsRightOperand Shl ty b = (pos 0 ≤ℤ b) × (b <ℤ pos ty.width)
IsRightOperand _ ty b = IsValue ty b

-- ---- conversion

-- to `_Bool` 1 for each number but 0, else what v wraps to
unfoldable pub convert : Ty → ℤ → ℤ
convert to v = if to.width == 1 then (if int_eq v (pos 0) then pos 0 else pos 1) else wrap to v
