-- What an expression stands for, and the checks that an operator may have.
use Rattle.std.specs.Prelude.{ℕ, ◌/◌, ◌==◌, Bool, true, false, ◌&&◌, not, if◌then◌else◌, nat_lt, Option, Some, None}
use Rattle.l2_bits.specs.declared.types.Ty.{Ty}
use Rattle.l2_syntax.specs.declared.place.Place.{Place}
use Rattle.l2_syntax.specs.declared.token.Scalar.{Scalar}
use Rattle.l2_syntax.specs.declared.refusal.Rule.TheVariants.{BadType}
use Rattle.l2_runs.specs.declared.kind.Kind.{Kind}
use Rattle.l2_runs.specs.declared.kind.Kind.TheVariants.{Overflow}
use Rattle.l2_types.specs.declared.types.CType.{CType}
use Rattle.l2_types.specs.declared.types.CType.TheVariants.{Integer}
use Rattle.l2_types.specs.declared.typed.Lvalue.{Lvalue}
use Rattle.l2_types.specs.declared.typed.Arithmetic.{Arithmetic as ArithmeticOperator}
use Rattle.l2_types.specs.declared.typed.Checks.{Checks}
use Rattle.l2_types.specs.declared.meant.Meant.{Meant}
use Rattle.l2_types.specs.declared.meant.Meant.TheVariants as meant
use Rattle.l2_types.specs.declared.meant.Operand.{Operand}
use Rattle.l2_types.specs.declared.meant.Operand.TheVariants as operand
use Rattle.l2_types.specs.Types.{type_of_scalar}
use Rattle.l2_types.specs.Operators.{defined_kind, can_overflow}
use Rattle.l2_types.specs.Trees.{TypedTree, Read, Convert, typed_tree}
use Rattle.l2_types.specs.States.{State, Seen, saw, next, with_fault, with_check, check_number}

-- what an expression stands for
pub data MeantTree : Type 0 where
  Unknown : MeantTree
  Value : CType → TypedTree → MeantTree
  Located : CType → Bool → Lvalue → MeantTree

-- the value of an expression
pub data OperandTree : Type 0 where
  NoValue : OperandTree
  Of : CType → TypedTree → OperandTree

abbrev pub meant_tree : Meant → MeantTree
meant_tree meant.Unknown = Unknown
meant_tree (meant.Value t e) = Value t (typed_tree e.value)
meant_tree (meant.Located t c l) = Located t c l

abbrev pub operand_tree : Operand → OperandTree
operand_tree operand.Unknown = NoValue
operand_tree (operand.Of t e) = Of t (typed_tree e.value)

abbrev pub value_of : MeantTree → OperandTree
value_of Unknown = NoValue
value_of (Value t e) = Of t e
value_of (Located t c l) = Of t (Read t l)

abbrev pub valued : Seen MeantTree → Seen OperandTree
valued r = next r (λ m s. saw (value_of m) s)

-- ---- parts

-- `type` at the operator, and nothing is known of the expression
abbrev pub wrong : Place → State → Seen MeantTree
wrong p s = saw Unknown (with_fault p BadType s)

abbrev pub integer : Scalar → TypedTree → State → Seen MeantTree
integer a e s = saw (Value (Integer a) e) s

abbrev pub same_sign : Bool → Bool → Bool
same_sign true b = b
same_sign false b = not b

abbrev pub same_type : Ty → Ty → Bool
same_type t u = t.width == u.width && same_sign t.signed u.signed

-- a conversion stands where the type changes
abbrev pub converted : Scalar → Scalar → TypedTree → TypedTree
converted from to e = if same_type (type_of_scalar from) (type_of_scalar to) then e else Convert (type_of_scalar to) e

-- a check that an operator may have: its number, or 0
abbrev pub checked : Option Kind → Place → State → Seen ℕ
checked None p s = saw 0 s
checked (Some k) p s = saw (check_number s p k) (with_check p k s)

abbrev pub overflow_kind : Bool → Ty → Option Kind
overflow_kind may ty = if may && ty.signed then Some Overflow else None

abbrev pub checks_of : ArithmeticOperator → Ty → Place → State → Seen Checks
checks_of op ty p s =
    next (checked (defined_kind op) p s) (λ c t.
    next (checked (overflow_kind (s.overflow && can_overflow op) ty) p t) (λ d u.
    saw (record { defined = c; overflow = d }) u))

-- in bytes
abbrev pub size_of : Scalar → ℕ
size_of a = if nat_lt (type_of_scalar a).width 8 then 1 else (type_of_scalar a).width / 8

abbrev pub type_of : MeantTree → Option CType
type_of Unknown = None
type_of (Value t e) = Some t
type_of (Located t c l) = Some t
