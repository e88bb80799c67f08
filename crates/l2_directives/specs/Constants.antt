-- The constants that numbers and characters spell, with their types (C11 6.4.4.1).
use Rattle.std.specs.Prelude.{ℕ, ◌+◌, ◌-◌, ◌*◌, pos, Bool, true, false, cond, ◌==◌, ◌||◌, ◌&&◌, Option, None, Some, List, [], ◌∷◌, codes, fold, take, drop}
use Rattle.std.specs.List.{list_any, prefix_len}
use Rattle.std.specs.Str.{bytes_eq}
use Rattle.std.proofs.Math.Dec.{leb}
use Rattle.l2_syntax.specs.declared.token.Scalar.{Scalar}
use Rattle.l2_syntax.specs.declared.token.Scalar.TheVariants as scalar
use Rattle.l2_pieces.specs.declared.piece.PieceKind.{PieceKind}
use Rattle.l2_pieces.specs.declared.piece.PieceKind.TheVariants as kind
use Rattle.l2_pieces.specs.declared.piece.Piece.{Piece}
use Rattle.l2_pieces.specs.Bytes.{is_digit, begins_with, is_byte}
use Rattle.l2_pieces.specs.Pieces.{bytes_of}
use Rattle.l2_directives.specs.declared.constant.Constant.{Constant}
use Rattle.l2_directives.specs.declared.constant.Suffix.{Suffix}
use Rattle.l2_directives.specs.declared.constant.Suffix.TheVariants as suffix

-- the value of a hexadecimal digit, and 16 for any other byte
abbrev pub digit_value : ℕ → ℕ
digit_value b = cond (is_digit b) (b - 48) (cond (leb 97 b && leb b 102) (b - 87) (cond (leb 65 b && leb b 70) (b - 55) 16))

abbrev pub is_digit_of : ℕ → ℕ → Bool
is_digit_of base b = leb (digit_value b + 1) base

abbrev pub value_of : ℕ → List ℕ → ℕ
value_of base digits = fold (λ v d. v * base + digit_value d) 0 digits

abbrev pub is_among : List (List ℕ) → List ℕ → Bool
is_among words w = list_any (λ x. bytes_eq x w) words

-- `u`, `l` and `ll` in either case and order
abbrev pub suffix_of : List ℕ → Option Suffix
suffix_of w =
    cond (is_among (codes "" ∷ []) w) (Some suffix.Plain)
    (cond (is_among (codes "u" ∷ codes "U" ∷ []) w) (Some suffix.Unsigned)
    (cond (is_among (codes "l" ∷ codes "L" ∷ []) w) (Some suffix.Long)
    (cond (is_among (codes "ll" ∷ codes "LL" ∷ []) w) (Some suffix.LongLong)
    (cond (is_among (codes "ul" ∷ codes "uL" ∷ codes "Ul" ∷ codes "UL" ∷ codes "lu" ∷ codes "lU" ∷ codes "Lu" ∷ codes "LU" ∷ []) w) (Some suffix.UnsignedLong)
    (cond (is_among (codes "ull" ∷ codes "uLL" ∷ codes "Ull" ∷ codes "ULL" ∷ codes "llu" ∷ codes "llU" ∷ codes "LLu" ∷ codes "LLU" ∷ []) w) (Some suffix.UnsignedLongLong) None)))))

-- the types that a constant may have, in order
abbrev pub candidates : (is_decimal : Bool) → Suffix → List Scalar
candidates true suffix.Plain = scalar.Int ∷ scalar.Long ∷ []
candidates false suffix.Plain = scalar.Int ∷ scalar.UInt ∷ scalar.Long ∷ scalar.ULong ∷ []
candidates d suffix.Unsigned = scalar.UInt ∷ scalar.ULong ∷ []
candidates true suffix.Long = scalar.Long ∷ []
candidates false suffix.Long = scalar.Long ∷ scalar.ULong ∷ []
candidates d suffix.UnsignedLong = scalar.ULong ∷ []
candidates true suffix.LongLong = scalar.LongLong ∷ []
candidates false suffix.LongLong = scalar.LongLong ∷ scalar.ULongLong ∷ []
candidates d suffix.UnsignedLongLong = scalar.ULongLong ∷ []

-- the greatest value of a type
abbrev pub greatest : Scalar → ℕ
greatest scalar.Bool = 1
greatest scalar.Char = 127
greatest scalar.UChar = 255
greatest scalar.Short = 32767
greatest scalar.UShort = 65535
greatest scalar.Int = 2147483647
greatest scalar.UInt = 4294967295
greatest scalar.Long = 9223372036854775807
greatest scalar.ULong = 18446744073709551615
greatest scalar.LongLong = 9223372036854775807
greatest scalar.ULongLong = 18446744073709551615

-- the first type that holds the value
abbrev pub first_that_holds : ℕ → List Scalar → Option Scalar
first_that_holds v [] = None
first_that_holds v (t ∷ types) = cond (leb v (greatest t)) (Some t) (first_that_holds v types)

abbrev pub constant_of_type : ℕ → Option Scalar → Option Constant
constant_of_type v None = None
constant_of_type v (Some t) = Some (record { value = pos v; scalar = t })

-- the constant of a value that is spelt in a base and has a suffix, if it has one of C's
abbrev pub typed : ℕ → ℕ → Option Suffix → Option Constant
typed base v None = None
typed base v (Some s) = constant_of_type v (first_that_holds v (candidates (base == 10) s))

-- digits of a base, at least one, and a suffix
abbrev pub in_base : ℕ → List ℕ → Option Constant
in_base base w = cond (prefix_len (is_digit_of base) w == 0) None (typed base (value_of base (take (prefix_len (is_digit_of base) w) w)) (suffix_of (drop (prefix_len (is_digit_of base) w) w)))

-- `0x` or `0X`
abbrev pub is_hexadecimal : List ℕ → Bool
is_hexadecimal (z ∷ x ∷ w) = z == 48 && (x == 120 || x == 88)
is_hexadecimal w = false

-- the constant that a number spells, if it is one of the profile
abbrev pub number : List ℕ → Option Constant
number w = cond (is_hexadecimal w) (in_base 16 (drop 2 w)) (cond (begins_with (is_byte 48) w) (in_base 8 w) (in_base 10 w))

-- what stands behind a backslash, as a value
abbrev pub escape_value : ℕ → ℕ
escape_value b = cond (b == 110) 10 (cond (b == 116) 9 (cond (b == 114) 13 (cond (b == 48) 0 b)))

abbrev pub character_value : List ℕ → ℕ
character_value (q ∷ c ∷ e ∷ w) = cond (c == 92) (escape_value e) c
character_value w = 0

-- a constant of type int
abbrev pub int_constant : ℕ → Constant
int_constant v = record { value = pos v; scalar = scalar.Int }

-- the constant that a piece spells, if it spells one
abbrev pub constant_spelt : PieceKind → List ℕ → Option Constant
constant_spelt kind.Number w = number w
constant_spelt kind.Character w = Some (int_constant (character_value w))
constant_spelt k w = None

abbrev pub constant_of : List ℕ → Piece → Option Constant
constant_of text x = constant_spelt x.kind (bytes_of text x)
