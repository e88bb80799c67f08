-- What a declared name stands for, and when it may be declared (C11 6.2.1, 6.2.2, 6.7, 6.9.2).
use Rattle.std.specs.Prelude.{ℕ, ◌==◌, Bool, true, false, ◌&&◌, ◌||◌, not, if◌then◌else◌, List, [], ◌∷◌, length, slice_get, Option, Some, None}
use Rattle.l2_syntax.specs.declared.place.Place.{Place}
use Rattle.l2_syntax.specs.declared.token.Scalar.{Scalar}
use Rattle.l2_syntax.specs.declared.token.Scalar.TheVariants.{Bool as BoolScalar, Char, UChar, Short, UShort, Int, UInt, Long, ULong, LongLong, ULongLong}
use Rattle.l2_syntax.specs.declared.refusal.Rule.TheVariants.{Redeclared, BadType, MainForm}
use Rattle.l2_tree.specs.declared.operators.SpecifierWord.{SpecifierWord}
use Rattle.l2_tree.specs.declared.operators.SpecifierWord.TheVariants.{Static, Extern}
use Rattle.l2_tree_names.specs.declared.declarators.DeclaredName.{DeclaredName}
use Rattle.l2_types.specs.declared.types.CType.{CType}
use Rattle.l2_types.specs.declared.types.CType.TheVariants.{Void, Integer}
use Rattle.l2_types.specs.declared.state.Meaning.{Meaning}
use Rattle.l2_types.specs.declared.state.Meaning.TheVariants as meaning
use Rattle.l2_types.specs.declared.state.Signature.{Signature}
use Rattle.l2_types.specs.declared.state.Linked.{Linked}
use Rattle.l2_types.specs.States.{State, Seen, saw, next, with_fault, with_use}
use Rattle.l2_types.specs.Scopes.{is_taken, with_entry, declare}
use Rattle.l2_types.specs.Founds.{variable, function_number, meaning_here, with_signature, with_linked, new_object, has_variable}
use Rattle.l2_types_declarations.specs.declared.types.DeclaredType.{DeclaredType}
use Rattle.l2_types_declarations.specs.declared.types.DeclaredType.TheVariants as declared
use Rattle.l2_types_declarations.specs.declared.types.Target.{Target}
use Rattle.l2_types_declarations.specs.declared.types.Target.TheVariants as target

-- ---- equal types

abbrev pub scalar_index : Scalar → ℕ
scalar_index BoolScalar = 0
scalar_index Char = 1
scalar_index UChar = 2
scalar_index Short = 3
scalar_index UShort = 4
scalar_index Int = 5
scalar_index UInt = 6
scalar_index Long = 7
scalar_index ULong = 8
scalar_index LongLong = 9
scalar_index ULongLong = 10

abbrev pub same_type : CType → CType → Bool
same_type Void Void = true
same_type Void (Integer b) = false
same_type (Integer a) Void = false
same_type (Integer a) (Integer b) = scalar_index a == scalar_index b

abbrev pub same_bool : Bool → Bool → Bool
same_bool true b = b
same_bool false b = not b

abbrev pub all_same : List CType → List CType → Bool
all_same [] us = true
all_same (t ∷ ts) [] = true
all_same (t ∷ ts) (u ∷ us) = same_type t u && all_same ts us

abbrev pub same_types : List CType → List CType → Bool
same_types ts us = length ts == length us && all_same ts us

-- prototypes agree where their types are equal
abbrev pub same_signature : Option Signature → CType → Bool → List CType → Bool
same_signature None t c ts = false
same_signature (Some g) t c ts = same_type g.result t && same_bool g.is_const c && same_types g.parameters ts

-- the declarations of a variable of file scope agree where their types are equal
abbrev pub agrees : List Linked → ℕ → CType → Bool → Bool
agrees [] n t c = true
agrees (l ∷ rest) n t c = (not (l.name == n) || same_type l.of t && same_bool l.is_const c) && agrees rest n t c

-- ---- names at fault

abbrev pub with_unknown : DeclaredName → State → State
with_unknown nm s = if is_taken s nm.name then s else with_entry nm.name meaning.Unknown s

abbrev pub redeclared : DeclaredName → State → Seen Target
redeclared nm s = saw target.Nothing (with_fault nm.place Redeclared s)

-- ---- `main`

abbrev pub is_main : Option ℕ → ℕ → Bool
is_main None n = false
is_main (Some m) n = m == n

-- `int main(void)`; its result may be const
abbrev pub is_main_type : CType → List CType → Bool
is_main_type (Integer Int) [] = true
is_main_type t ts = false

abbrev pub unless_main_form : Bool → DeclaredName → State → State
unless_main_form fits nm s = if is_main s.main nm.name && s.level == 0 && not fits then with_fault nm.place MainForm s else s

-- ---- functions

abbrev pub with_function : DeclaredName → CType → Bool → List CType → State → State
with_function nm t c ts s =
    with_signature (record { number = function_number s nm.name; result = t; is_const = c; parameters = ts; is_defined = not (function_number s nm.name == 0) })
    (with_entry nm.name (meaning.Function (length s.functions)) s)

-- a prototype of a name that stands for something in its scope already, or for nothing
abbrev pub agreed : Option Meaning → DeclaredName → CType → Bool → List CType → State → State
agreed None nm t c ts s = with_function nm t c ts s
agreed (Some (meaning.Function g)) nm t c ts s =
    if same_signature (slice_get s.functions g) t c ts then s else with_fault nm.place Redeclared s
agreed (Some m) nm t c ts s = with_fault nm.place Redeclared s

abbrev pub prototype : DeclaredName → CType → Bool → List CType → State → State
prototype nm t c ts s = agreed (meaning_here s nm.name) nm t c ts (unless_main_form (is_main_type t ts) nm s)

-- in a block a prototype of a name that isn't built in is refused
abbrev pub declare_function : DeclaredName → CType → Bool → List CType → State → State
declare_function nm t c ts s = if s.level == 0 then prototype nm t c ts s else with_unknown nm (with_fault nm.place BadType s)

-- ---- variables

-- whether a variable may be declared where its name has this meaning already: at file scope, as a variable again
abbrev pub may_stand : ℕ → Option Meaning → Bool
may_stand level None = true
may_stand level (Some (meaning.Object o t c)) = level == 0
may_stand level (Some m) = false

-- at file scope one definition, whose type agrees with all declarations
abbrev pub may_define : ℕ → CType → Bool → State → Bool
may_define n t c s =
    may_stand s.level (meaning_here s n) && (not (s.level == 0) || not (has_variable s.objects n) && agrees s.linked n t c)

abbrev pub linked_at_file : ℕ → CType → Bool → State → State
linked_at_file n t c s = if s.level == 0 then with_linked n t c s else s

abbrev pub target_of : Bool → ℕ → Scalar → Target
target_of true k a = target.Permanent k a
target_of false k a = target.Automatic k a

abbrev pub defined : Bool → DeclaredName → Scalar → Bool → State → Seen Target
defined st nm a c s = next (new_object nm.name nm.place (Integer a) st s) (λ k t.
    saw (target_of st k a) (linked_at_file nm.name (Integer a) c (with_entry nm.name (meaning.Object k (Integer a) c) t)))

abbrev pub define : Bool → DeclaredName → Scalar → Bool → State → Seen Target
define st nm a c s = if may_define nm.name (Integer a) c s then defined st nm a c s else redeclared nm s

-- `extern`: the variable that the text defines at file scope
abbrev pub linked_to : Option ℕ → DeclaredName → CType → Bool → State → Seen Target
linked_to None nm t c s = redeclared nm (with_unknown nm s)
linked_to (Some k) nm t c s = saw target.Nothing (with_use k (with_linked nm.name t c (with_entry nm.name (meaning.Object k t c) s)))

abbrev pub declare_extern : DeclaredName → CType → Bool → State → Seen Target
declare_extern nm t c s =
    if may_stand s.level (meaning_here s nm.name) && agrees s.linked nm.name t c then linked_to (variable s nm.name) nm t c s
    else redeclared nm s

-- with its word of storage, and whether it has an initialiser
abbrev pub stored : Option SpecifierWord → Bool → DeclaredName → Scalar → Bool → State → Seen Target
stored (Some Extern) false nm a c s = declare_extern nm (Integer a) c s
stored (Some Extern) true nm a c s = if s.level == 0 then define true nm a c s else redeclared nm s
stored (Some Static) i nm a c s = define true nm a c s
stored w i nm a c s = define (s.level == 0) nm a c s

-- ---- a declared name by its type

abbrev pub declare_as : Option SpecifierWord → Bool → DeclaredName → DeclaredType → Place → State → Seen Target
declare_as w i nm declared.Unknown p s = saw target.Nothing (with_unknown nm s)
declare_as w i nm (declared.Object Void c) p s = saw target.Nothing (with_unknown nm (with_fault p BadType s))
declare_as w i nm (declared.Object (Integer a) c) p s = stored w i nm a c (unless_main_form false nm s)
declare_as w i nm (declared.Function t c ts) p s = saw target.Function (declare_function nm t c ts s)

-- the name of a type
abbrev pub type_meaning : DeclaredType → State → Meaning
type_meaning declared.Unknown s = meaning.Unknown
type_meaning (declared.Object t c) s = meaning.TypeName t c
type_meaning (declared.Function t c ts) s = meaning.FunctionType (length s.functions)

abbrev pub with_function_type : DeclaredType → State → State
with_function_type (declared.Function t c ts) s = with_signature (record { number = 0; result = t; is_const = c; parameters = ts; is_defined = false }) s
with_function_type t s = s

abbrev pub declare_type : DeclaredName → DeclaredType → State → State
declare_type nm t s = with_function_type t (declare nm.name nm.place (type_meaning t s) s)
