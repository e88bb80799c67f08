-- Types by their names, and what they are to operators (C11 6.7.7, for integers).
use Rattle.std.specs.Prelude.{false, Option, Some}
use Rattle.l2_syntax.specs.declared.place.Place.{Place}
use Rattle.l2_syntax.specs.declared.token.Scalar.TheVariants.{Int}
use Rattle.l2_syntax.specs.declared.refusal.Rule.TheVariants.{BadType}
use Rattle.l2_tree.specs.Trees.{SpecifierTree, Enum, EnumBody}
use Rattle.l2_tree_laws.specs.Specifiers.{Base, void, number, type_name as named_type, tagged}
use Rattle.l2_types.specs.declared.types.CType.TheVariants.{Void, Integer}
use Rattle.l2_types.specs.declared.state.Meaning.{Meaning}
use Rattle.l2_types.specs.declared.state.Meaning.TheVariants as meaning
use Rattle.l2_types.specs.States.{State, Seen, saw, lookup, with_fault}
use Rattle.l2_types.specs.Meant.{MeantTree, Unknown, OperandTree, NoValue, Of, wrong}
use Rattle.l2_values.specs.Values.{cast, sized}
use Rattle.l2_types_expr.specs.declared.type_names.BaseName.{BaseName}
use Rattle.l2_types_expr.specs.declared.type_names.BaseName.TheVariants as base
use Rattle.l2_types_expr.specs.declared.type_names.NamedType.{NamedType}
use Rattle.l2_types_expr.specs.declared.type_names.NamedType.TheVariants as named

-- a name that stands where one of a type does: `type` at the name where it is none
abbrev pub type_named : Place → Option Meaning → State → Seen BaseName
type_named p (Some (meaning.TypeName t c)) s = saw (base.Known t c) s
type_named p (Some (meaning.FunctionType g)) s = saw (base.FunctionType g) s
type_named p (Some meaning.Unknown) s = saw base.Unknown s
type_named p m s = saw base.Unknown (with_fault p BadType s)

-- an enum is `int`; structs aren't built yet
abbrev pub tag_type : SpecifierTree → BaseName
tag_type (Enum p t) = base.Known (Integer Int) false
tag_type (EnumBody p t q es b) = base.Known (Integer Int) false
tag_type x = base.Unknown

abbrev pub based : Base → State → Seen BaseName
based void s = saw (base.Known Void false) s
based (number a) s = saw (base.Known (Integer a) false) s
based (named_type n p) s = type_named p (lookup s n) s
based (tagged x) s = saw (tag_type x) s

-- ---- the name of a type, to an operator

abbrev pub plain_type : BaseName → NamedType
plain_type base.Unknown = named.Unknown
plain_type (base.FunctionType g) = named.Function
plain_type (base.Known t c) = named.Known t

-- behind the type a declarator makes a function; pointers and arrays aren't built yet
abbrev pub function_of : BaseName → NamedType
function_of base.Unknown = named.Unknown
function_of t = named.Function

abbrev pub size_of_name : Place → NamedType → State → Seen MeantTree
size_of_name p named.Unknown s = saw Unknown s
size_of_name p named.Function s = wrong p s
size_of_name p (named.Known t) s = sized p (Some t) s

abbrev pub cast_to : Place → NamedType → OperandTree → State → Seen MeantTree
cast_to p named.Unknown x s = saw Unknown s
cast_to p named.Function NoValue s = saw Unknown s
cast_to p named.Function (Of u x) s = wrong p s
cast_to p (named.Known t) x s = cast p (Some t) x s
