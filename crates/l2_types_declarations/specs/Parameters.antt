-- Parameters, and the types of declarators (C11 6.7.6.3, for integers).
use Rattle.std.specs.Prelude.{ℕ, ◌+◌, ◌==◌, Bool, true, false, ◌||◌, if◌then◌else◌, List, [], ◌∷◌, ◌++◌, slice_get, Option, Some, None}
use Rattle.l2_syntax.specs.declared.place.Place.{Place}
use Rattle.l2_syntax.specs.declared.refusal.Rule.TheVariants.{Redeclared, BadType}
use Rattle.l2_tree.specs.Trees.{ParameterTree, Bare, Declared, ParameterTrees, no_parameters, and_parameter, DeclaratorTree}
use Rattle.l2_tree_names.specs.declared.declarators.DeclaredName.{DeclaredName}
use Rattle.l2_tree_names.specs.Declarators.{name_of}
use Rattle.l2_types.specs.declared.types.CType.{CType}
use Rattle.l2_types.specs.declared.types.CType.TheVariants.{Void, Integer}
use Rattle.l2_types.specs.declared.state.Meaning.TheVariants as meaning
use Rattle.l2_types.specs.declared.state.Signature.{Signature}
use Rattle.l2_types.specs.States.{State, Seen, saw, next, state_of, with_fault}
use Rattle.l2_types.specs.Scopes.{entered, left, is_taken, with_entry}
use Rattle.l2_types.specs.Founds.{new_object}
use Rattle.l2_types_expr.specs.declared.type_names.BaseName.{BaseName}
use Rattle.l2_types_expr.specs.declared.type_names.BaseName.TheVariants as base
use Rattle.l2_types_expr.specs.Expressions.{specified}
use Rattle.l2_types_declarations.specs.declared.types.DeclaredType.{DeclaredType}
use Rattle.l2_types_declarations.specs.declared.types.DeclaredType.TheVariants as declared
use Rattle.l2_types_declarations.specs.Forms.{has_const, type_start, is_bare, Form, Plainly, Making, Beyond, form}
use Rattle.l2_types_declarations.specs.Names.{with_unknown}

-- ---- one parameter: its type, none where it is the word `void` that says that there are none; one at fault counts as `void`

abbrev pub at_fault : Place → State → Seen (Option CType)
at_fault p s = saw (Some Void) (with_fault p BadType s)

abbrev pub unnamed : Bool → BaseName → Place → State → Seen (Option CType)
unnamed alone base.Unknown p s = saw (Some Void) s
unnamed alone (base.FunctionType g) p s = at_fault p s
unnamed alone (base.Known Void c) p s = if alone then saw None s else at_fault p s
unnamed alone (base.Known (Integer a) c) p s = saw (Some (Integer a)) s

-- the parameter of a definition is an object; that of a prototype is none
abbrev pub with_parameter : Bool → DeclaredName → CType → Bool → State → State
with_parameter false nm t c s = with_entry nm.name (meaning.Object 0 t c) s
with_parameter true nm t c s =
    state_of (next (new_object nm.name nm.place t false s) (λ k u. saw k (with_entry nm.name (meaning.Object k t c) u)))

abbrev pub declare_parameter : Bool → Option DeclaredName → CType → Bool → State → State
declare_parameter makes None t c s = s
declare_parameter makes (Some nm) t c s = if is_taken s nm.name then with_fault nm.place Redeclared s else with_parameter makes nm t c s

abbrev pub unknown_parameter : Option DeclaredName → State → State
unknown_parameter None s = s
unknown_parameter (Some nm) s = with_unknown nm s

abbrev pub declarator_at_fault : Option DeclaredName → Place → State → Seen (Option CType)
declarator_at_fault nm p s = saw (Some Void) (unknown_parameter nm (with_fault p BadType s))

abbrev pub named : Bool → Option DeclaredName → BaseName → Bool → Bool → Place → State → Seen (Option CType)
named makes nm base.Unknown c bare p s = saw (Some Void) (unknown_parameter nm s)
named makes nm (base.FunctionType g) c bare p s = declarator_at_fault nm p s
named makes nm (base.Known Void k) c bare p s = declarator_at_fault nm p s
named makes nm (base.Known (Integer a) k) c bare p s =
    if bare then saw (Some (Integer a)) (declare_parameter makes nm (Integer a) (c || k) s) else declarator_at_fault nm p s

abbrev pub parameter : Bool → Bool → ParameterTree → State → Seen (Option CType)
parameter makes alone (Bare xs) s = next (specified xs s) (λ b t. unnamed alone b (type_start xs) t)
parameter makes alone (Declared xs d) s = next (specified xs s) (λ b t. named makes (name_of d) b (has_const xs) (is_bare d) (type_start xs) t)

-- ---- all parameters

abbrev pub count : ParameterTrees → ℕ
count no_parameters = 0
count (and_parameter ps x) = count ps + 1

abbrev pub also : List CType → Option CType → List CType
also ts None = ts
also ts (Some t) = ts ++ t ∷ []

abbrev pub parameters : Bool → Bool → ParameterTrees → State → Seen (List CType)
parameters makes alone no_parameters s = saw [] s
parameters makes alone (and_parameter ps x) s =
    next (parameters makes alone ps s) (λ ts t. next (parameter makes alone x t) (λ o u. saw (also ts o) u))

abbrev pub all_parameters : Bool → ParameterTrees → State → Seen (List CType)
all_parameters makes ps s = parameters makes (count ps == 1) ps s

-- the parameters of a prototype have a scope of their own
abbrev pub prototype_parameters : ParameterTrees → State → Seen (List CType)
prototype_parameters ps s = next (all_parameters false ps (entered s)) (λ ts t. saw ts (left s t))

-- ---- the type of a declarator, behind a type that begins at a place

abbrev pub function_type : Option Signature → DeclaredType
function_type None = declared.Unknown
function_type (Some g) = declared.Function g.result g.is_const g.parameters

abbrev pub type_fault : Place → State → Seen DeclaredType
type_fault p s = saw declared.Unknown (with_fault p BadType s)

abbrev pub made : CType → Bool → Place → Form → State → Seen DeclaredType
made t c p Plainly s = saw (declared.Object t c) s
made t c p (Making ps) s = next (prototype_parameters ps s) (λ ts u. saw (declared.Function t c ts) u)
made t c p Beyond s = type_fault p s

-- no function gives a function
abbrev pub function_again : ℕ → Place → Bool → State → Seen DeclaredType
function_again g p bare s = if bare then saw (function_type (slice_get s.functions g)) s else type_fault p s

abbrev pub typed : BaseName → Bool → Place → DeclaratorTree → State → Seen DeclaredType
typed base.Unknown c p d s = saw declared.Unknown s
typed (base.Known t k) c p d s = made t (c || k) p (form d) s
typed (base.FunctionType g) c p d s = function_again g p (is_bare d) s
