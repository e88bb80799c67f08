-- The names that mean something without a declaration.
use Rattle.std.specs.Prelude.{ℕ, ◌+◌, false, if◌then◌else◌, List, [], ◌∷◌, codes, Option, Some, None}
use Rattle.std.specs.Str.{bytes_eq}
use Rattle.l2_syntax.specs.declared.token.Scalar.{Scalar}
use Rattle.l2_syntax.specs.declared.token.Scalar.TheVariants as scalar
use Rattle.l2_syntax.specs.declared.token.Name.{Name}
use Rattle.l2_types.specs.declared.types.CType.TheVariants.{Integer}
use Rattle.l2_types.specs.declared.state.Builtin.TheVariants as name
use Rattle.l2_types.specs.declared.state.Meaning.{Meaning}
use Rattle.l2_types.specs.declared.state.Meaning.TheVariants as meaning
use Rattle.l2_types.specs.States.{State}
use Rattle.l2_types.specs.Scopes.{with_outer_entry}

-- a name and what it stands for
pub record Known : Type 0 where
  pub bytes : List ℕ
  pub meaning : Meaning

abbrev pub known : List ℕ → Meaning → Known
known w m = record { bytes = w; meaning = m }

abbrev pub choice : List ℕ → Scalar → Known
choice w a = known w (meaning.Builtin (name.Choice a))

abbrev pub type_name : List ℕ → Scalar → Known
type_name w a = known w (meaning.TypeName (Integer a) false)

-- the built-in names, and the types that headers name
abbrev pub known_names : List Known
known_names =
    known (codes "assert") (meaning.Builtin name.Assert) ∷ known (codes "reach_error") (meaning.Builtin name.ReachError)
    ∷ known (codes "abort") (meaning.Builtin name.Abort) ∷ known (codes "exit") (meaning.Builtin name.Exit)
    ∷ known (codes "__assert_fail") (meaning.Builtin name.AssertFail) ∷ known (codes "__VERIFIER_error") (meaning.Builtin name.Fail)
    ∷ known (codes "__VERIFIER_assume") (meaning.Builtin name.Assume)
    ∷ choice (codes "__VERIFIER_nondet_bool") scalar.Bool ∷ choice (codes "__VERIFIER_nondet_char") scalar.Char
    ∷ choice (codes "__VERIFIER_nondet_uchar") scalar.UChar ∷ choice (codes "__VERIFIER_nondet_short") scalar.Short
    ∷ choice (codes "__VERIFIER_nondet_ushort") scalar.UShort ∷ choice (codes "__VERIFIER_nondet_int") scalar.Int
    ∷ choice (codes "__VERIFIER_nondet_uint") scalar.UInt ∷ choice (codes "__VERIFIER_nondet_unsigned") scalar.UInt
    ∷ choice (codes "__VERIFIER_nondet_long") scalar.Long ∷ choice (codes "__VERIFIER_nondet_ulong") scalar.ULong
    ∷ choice (codes "__VERIFIER_nondet_longlong") scalar.LongLong ∷ choice (codes "__VERIFIER_nondet_ulonglong") scalar.ULongLong
    ∷ type_name (codes "bool") scalar.Bool ∷ type_name (codes "size_t") scalar.ULong
    ∷ type_name (codes "int8_t") scalar.Char ∷ type_name (codes "int16_t") scalar.Short ∷ type_name (codes "int32_t") scalar.Int
    ∷ type_name (codes "int64_t") scalar.Long ∷ type_name (codes "uint8_t") scalar.UChar ∷ type_name (codes "uint16_t") scalar.UShort
    ∷ type_name (codes "uint32_t") scalar.UInt ∷ type_name (codes "uint64_t") scalar.ULong ∷ []

abbrev pub meaning_in : List Known → List ℕ → Option Meaning
meaning_in [] w = None
meaning_in (k ∷ rest) w = if bytes_eq k.bytes w then Some k.meaning else meaning_in rest w

abbrev pub with_meaning : ℕ → Option Meaning → State → State
with_meaning n None s = s
with_meaning n (Some m) s = with_outer_entry n m s

-- the names of a text from the n-th on that mean something
abbrev pub with_known : ℕ → List Name → State → State
with_known n [] s = s
with_known n (w ∷ rest) s = with_known (n + 1) rest (with_meaning n (meaning_in known_names w.bytes) s)

-- the number from n on of the first name that is spelt so
abbrev pub number_of : ℕ → List Name → List ℕ → Option ℕ
number_of n [] w = None
number_of n (m ∷ rest) w = if bytes_eq m.bytes w then Some n else number_of (n + 1) rest w

abbrev pub main_number : List Name → Option ℕ
main_number names = number_of 0 names (codes "main")
