-- The types by name.
use Rattle.std.specs.Prelude.{ℕ, Bool, true, false}
use Rattle.l2_bits.specs.Widths.{IsType}
use Rattle.l2_bits.specs.declared.types.Ty.{Ty}

abbrev pub type_of : (width : ℕ) (signed : Bool) → IsType width signed → Ty
type_of width signed lawful = record { width = width; signed = signed; lawful = lawful }

-- `_Bool`
abbrev pub bool_type : Ty
bool_type = type_of 1 false tt

-- `char` and `signed char`
abbrev pub char_type : Ty
char_type = type_of 8 true tt

-- `unsigned char`
abbrev pub uchar_type : Ty
uchar_type = type_of 8 false tt

abbrev pub short_type : Ty
short_type = type_of 16 true tt

abbrev pub ushort_type : Ty
ushort_type = type_of 16 false tt

abbrev pub int_type : Ty
int_type = type_of 32 true tt

-- `unsigned`
abbrev pub uint_type : Ty
uint_type = type_of 32 false tt

-- `long` and `long long`
abbrev pub long_type : Ty
long_type = type_of 64 true tt

-- `unsigned long` and `unsigned long long`
abbrev pub ulong_type : Ty
ulong_type = type_of 64 false tt
