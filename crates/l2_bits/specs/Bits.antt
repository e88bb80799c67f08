-- The bits of whole numbers in two's complement.
use Rattle.std.specs.Prelude.{ℕ, Bool, not, ◌==◌, if◌then◌else◌, ℤ, pos, negsuc, bit_and, bit_or, bit_xor}
use Rattle.std.specs.Int.{bit_at}
use Rattle.l2_bits.specs.declared.types.Ty.{Ty}
use Rattle.l2_bits.specs.Values.{modulus, residue, wrap}

-- bit i of v, in two's complement of any width above i: the bits of -(a + 1) are those of a, turned
abbrev pub bit : ℤ → ℕ → Bool
bit (pos a) i = bit_at a i == 1
bit (negsuc a) i = not (bit_at a i == 1)

-- the value of the type that an operation on bits makes of those of a and b below the width
abbrev pub bitwise : (ℕ → ℕ → ℕ) → Ty → ℤ → ℤ → ℤ
bitwise operation ty a b = wrap ty (pos (operation (residue (modulus ty) a) (residue (modulus ty) b)))

unfoldable pub and : Ty → ℤ → ℤ → ℤ
and = bitwise bit_and

unfoldable pub or : Ty → ℤ → ℤ → ℤ
or = bitwise bit_or

unfoldable pub xor : Ty → ℤ → ℤ → ℤ
xor = bitwise bit_xor

-- one of the two holds, and not both
abbrev pub differ : Bool → Bool → Bool
differ x y = if x then not y else y
