-- The values of a type, and the value that a whole number wraps to.
use Rattle.std.specs.Prelude.{◌≡◌, ℕ, ◌+◌, ◌-◌, ◌%◌, ◌^◌, Bool, true, false, ◌&&◌, if◌then◌else◌, nat_lt, ℤ, pos, negsuc, neg_ℤ, ◌-ℤ◌, ◌*ℤ◌, ◌≤ℤ◌, int_le}
use Rattle.l2_bits.specs.declared.types.Ty.{Ty}

-- how many values a type has
abbrev pub modulus : Ty → ℕ
modulus ty = 2 ^ ty.width

-- the least value of a type
abbrev pub least : Ty → ℤ
least ty = if ty.signed then neg_ℤ (pos (2 ^ (ty.width - 1))) else pos 0

-- the greatest value of a type
abbrev pub greatest : Ty → ℤ
greatest ty = if ty.signed then pos (2 ^ (ty.width - 1) - 1) else pos (2 ^ ty.width - 1)

-- v is a value of the type
pub record IsValue (ty : Ty) (v : ℤ) : Type 0 where
  pub from : least ty ≤ℤ v
  pub to : v ≤ℤ greatest ty

-- the same as a test
abbrev pub is_value : Ty → ℤ → Bool
is_value ty v = int_le (least ty) v && int_le v (greatest ty)

-- u and v differ by a multiple of n
pub record IsCongruent (n : ℕ) (u v : ℤ) : Type 0 where
  pub times : ℤ
  pub differ : u -ℤ v ≡ times *ℤ pos n

-- u is what v wraps to: the value of the type that is congruent to v modulo 2 ^ width
pub record IsWrapOf (ty : Ty) (v u : ℤ) : Type 0 where
  pub value : IsValue ty u
  pub congruent : IsCongruent (modulus ty) u v

-- what is left of v past the multiples of n
abbrev pub residue : ℕ → ℤ → ℕ
residue n (pos a) = a % n
residue n (negsuc a) = n - 1 - a % n

-- the number from -n/2 on that a residue stands for
abbrev pub signed_of : ℕ → ℕ → ℤ
signed_of n r = if nat_lt (r + r) n then pos r else negsuc (n - 1 - r)

abbrev pub wrap_at : Bool → ℕ → ℤ → ℤ
wrap_at true n v = signed_of n (residue n v)
wrap_at false n v = pos (residue n v)

-- the one number with `IsWrapOf ty v`, computed
unfoldable pub wrap : Ty → ℤ → ℤ
wrap ty v = wrap_at ty.signed (modulus ty) v
