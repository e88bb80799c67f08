-- The headers, and what each makes known.
use Rattle.std.specs.Prelude.{ℕ, ℤ, pos, negsuc, cond, Option, None, Some, List, [], ◌∷◌, codes}
use Rattle.std.specs.Str.{bytes_eq}
use Rattle.l2_syntax.specs.declared.token.Scalar.{Scalar}
use Rattle.l2_syntax.specs.declared.token.Scalar.TheVariants as scalar
use Rattle.l2_directives.specs.declared.role.Role.{Role}
use Rattle.l2_directives.specs.declared.role.Role.TheVariants as role
use Rattle.l2_directives.specs.declared.headers.Header.{Header}
use Rattle.l2_directives.specs.declared.headers.Header.TheVariants as header

-- a name that a header makes known, and what it is from there on
pub record Entry : Type 0 where
  pub bytes : List ℕ
  pub role : Role

abbrev pub entry : List ℕ → Role → Entry
entry w r = record { bytes = w; role = r }

abbrev pub fixed : ℤ → Scalar → Role
fixed v t = role.Constant (record { value = v; scalar = t })

abbrev pub header_of : List ℕ → Option Header
header_of w =
    cond (bytes_eq w (codes "<assert.h>")) (Some header.Assert)
    (cond (bytes_eq w (codes "<stdbool.h>")) (Some header.StandardBool)
    (cond (bytes_eq w (codes "<stdlib.h>")) (Some header.StandardLibrary)
    (cond (bytes_eq w (codes "<stdint.h>")) (Some header.StandardIntegers)
    (cond (bytes_eq w (codes "<limits.h>")) (Some header.Limits) None))))

abbrev pub standard_bool : List Entry
standard_bool =
    entry (codes "bool") role.TypeName ∷ entry (codes "true") (fixed (pos 1) scalar.Int) ∷ entry (codes "false") (fixed (pos 0) scalar.Int) ∷ []

abbrev pub standard_library : List Entry
standard_library =
    entry (codes "NULL") (fixed (pos 0) scalar.Int) ∷ entry (codes "size_t") role.TypeName ∷ entry (codes "EXIT_SUCCESS") (fixed (pos 0) scalar.Int)
    ∷ entry (codes "EXIT_FAILURE") (fixed (pos 1) scalar.Int) ∷ []

abbrev pub standard_integers : List Entry
standard_integers =
    entry (codes "int8_t") role.TypeName ∷ entry (codes "int16_t") role.TypeName ∷ entry (codes "int32_t") role.TypeName ∷ entry (codes "int64_t") role.TypeName
    ∷ entry (codes "uint8_t") role.TypeName ∷ entry (codes "uint16_t") role.TypeName ∷ entry (codes "uint32_t") role.TypeName ∷ entry (codes "uint64_t") role.TypeName ∷ []

abbrev pub limits : List Entry
limits =
    entry (codes "SCHAR_MIN") (fixed (negsuc 127) scalar.Int) ∷ entry (codes "SCHAR_MAX") (fixed (pos 127) scalar.Int)
    ∷ entry (codes "UCHAR_MAX") (fixed (pos 255) scalar.Int) ∷ entry (codes "CHAR_MIN") (fixed (negsuc 127) scalar.Int)
    ∷ entry (codes "CHAR_MAX") (fixed (pos 127) scalar.Int) ∷ entry (codes "SHRT_MIN") (fixed (negsuc 32767) scalar.Int)
    ∷ entry (codes "SHRT_MAX") (fixed (pos 32767) scalar.Int) ∷ entry (codes "USHRT_MAX") (fixed (pos 65535) scalar.Int)
    ∷ entry (codes "INT_MAX") (fixed (pos 2147483647) scalar.Int) ∷ entry (codes "INT_MIN") (fixed (negsuc 2147483647) scalar.Int)
    ∷ entry (codes "UINT_MAX") (fixed (pos 4294967295) scalar.UInt) ∷ entry (codes "LONG_MIN") (fixed (negsuc 9223372036854775807) scalar.Long)
    ∷ entry (codes "LONG_MAX") (fixed (pos 9223372036854775807) scalar.Long) ∷ entry (codes "ULONG_MAX") (fixed (pos 18446744073709551615) scalar.ULong) ∷ []

abbrev pub entries : Header → List Entry
entries header.Assert = []
entries header.StandardBool = standard_bool
entries header.StandardLibrary = standard_library
entries header.StandardIntegers = standard_integers
entries header.Limits = limits
