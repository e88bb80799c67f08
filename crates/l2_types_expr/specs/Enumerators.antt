-- Expressions that must be constant, and what enumerators become known as (C11 6.6, 6.7.2.2).
use Rattle.std.specs.Prelude.{ℕ, ℤ, pos, Option, Some, None}
use Rattle.l2_bits.specs.Types.{int_type}
use Rattle.l2_bits.specs.Values.{wrap}
use Rattle.l2_bits.specs.Operators.{add}
use Rattle.l2_syntax.specs.declared.place.Place.{Place}
use Rattle.l2_syntax.specs.declared.refusal.Rule.TheVariants.{Constant}
use Rattle.l2_tree.specs.declared.expression.Tag.{Tag}
use Rattle.l2_types.specs.declared.types.CType.TheVariants.{Void, Integer}
use Rattle.l2_types.specs.declared.state.Meaning.{Meaning}
use Rattle.l2_types.specs.declared.state.Meaning.TheVariants as meaning
use Rattle.l2_types.specs.States.{State, Seen, saw, next, with_fault, unevaluated}
use Rattle.l2_types.specs.Scopes.{declare, define_tag}
use Rattle.l2_types.specs.Meant.{MeantTree, OperandTree, NoValue, Of, valued}
use Rattle.l2_constants.specs.declared.constants.Folded.{Folded}
use Rattle.l2_constants.specs.declared.constants.Folded.TheVariants.{Varies, Breaks, Number}
use Rattle.l2_constants.specs.Constants.{fold}

-- ---- constants

-- `constant` at the first token of what isn't constant or breaks a check
abbrev pub number_of : Place → Folded → State → Seen (Option ℤ)
number_of p Varies s = saw None (with_fault p Constant s)
number_of p Breaks s = saw None (with_fault p Constant s)
number_of p (Number v) s = saw (Some v) s

abbrev pub constant_of : Place → OperandTree → State → Seen (Option ℤ)
constant_of p NoValue s = saw None s
constant_of p (Of Void e) s = saw None (with_fault p Constant s)
constant_of p (Of (Integer a) e) s = number_of p (fold s.overflow e) s

-- what must be constant isn't evaluated when the program runs
abbrev pub constant : Place → Seen MeantTree → State → Seen (Option ℤ)
constant p r s = next (valued r) (λ x t. constant_of p x (unevaluated s t))

-- ---- enumerators

-- a value out of the range of `int` is wrapped
abbrev pub in_int : Option ℤ → Option ℤ
in_int None = None
in_int (Some v) = Some (wrap int_type v)

-- the value of an enumerator without one of its own that stands behind this one
abbrev pub successor : Option ℤ → Option ℤ
successor None = None
successor (Some v) = Some (add int_type (wrap int_type v) (wrap int_type (pos 1)))

abbrev pub enumerator_meaning : Option ℤ → Meaning
enumerator_meaning None = meaning.Unknown
enumerator_meaning (Some v) = meaning.Enumerator v

-- an enumerator's name becomes known, and with it the value of the next one
abbrev pub with_enumerator : ℕ → Place → Option ℤ → State → Seen (Option ℤ)
with_enumerator n p v s = saw (successor v) (declare n p (enumerator_meaning v) s)

abbrev pub with_enum_tag : Option Tag → State → State
with_enum_tag None s = s
with_enum_tag (Some t) s = define_tag t.name t.place s
