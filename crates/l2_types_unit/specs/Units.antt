-- The typed form of a text, with its faults (C11 6.9).
use Rattle.std.specs.Prelude.{ℕ, zero, suc, ◌+◌, ◌-◌, ◌==◌, Bool, true, false, ◌&&◌, ◌||◌, not, nat_lt, if◌then◌else◌, List, [], ◌∷◌, ◌++◌, length, Option, Some, None}
use Rattle.l2_syntax.specs.declared.place.Place.{Place}
use Rattle.l2_syntax.specs.declared.refusal.Refusal.{Refusal}
use Rattle.l2_syntax.specs.declared.refusal.Rule.TheVariants.{Redeclared}
use Rattle.l2_program.specs.declared.program.CheckInfo.{CheckInfo}
use Rattle.l2_tree.specs.Trees.{DeclaratorTree, ParameterTrees, StmtTrees, ExternalTree, Nothing, Global, Typedef, Function, UnitTree}
use Rattle.l2_tree_names.specs.declared.declarators.DeclaredName.{DeclaredName}
use Rattle.l2_tree_names.specs.Declarators.{name_of, parameters_of}
use Rattle.l2_types.specs.declared.types.CType.{CType}
use Rattle.l2_types.specs.declared.state.Builtin.TheVariants as name
use Rattle.l2_types.specs.declared.state.CheckSite.{CheckSite}
use Rattle.l2_types.specs.declared.state.Meaning.{Meaning}
use Rattle.l2_types.specs.declared.state.Meaning.TheVariants as meaning
use Rattle.l2_program.specs.declared.program.StaticValue.{StaticValue}
use Rattle.l2_types.specs.declared.state.ObjectEntry.{ObjectEntry}
use Rattle.l2_types.specs.declared.state.LoopEntry.{LoopEntry}
use Rattle.l2_types.specs.States.{State, Seen, saw, next, state_of, lookup, with_fault, kind_number}
use Rattle.l2_types.specs.Scopes.{entered, left}
use Rattle.l2_types.specs.Founds.{start, has, function_number, with_met, inside_function, outside_functions}
use Rattle.l2_types_expr.specs.declared.type_names.BaseName.{BaseName}
use Rattle.l2_types_expr.specs.Expressions.{specified}
use Rattle.l2_types_declarations.specs.declared.types.DeclaredType.{DeclaredType}
use Rattle.l2_types_declarations.specs.declared.types.DeclaredType.TheVariants as declared
use Rattle.l2_types_declarations.specs.Forms.{has_const, type_start}
use Rattle.l2_types_declarations.specs.Names.{prototype}
use Rattle.l2_types_declarations.specs.Parameters.{all_parameters, typed}
use Rattle.l2_types_declarations.specs.Declarations.{declaration, type_definition}
use Rattle.l2_types_statements.specs.declared.checked.Cases.TheVariants.{Absent}
use Rattle.l2_types_statements.specs.declared.checked.Setting.{Setting}
use Rattle.l2_types_statements.specs.Trees.{CheckedTrees}
use Rattle.l2_types_statements.specs.Statements.{items}
use Rattle.l2_types_unit.specs.Words.{with_known, main_number}
use Rattle.l2_types_unit.specs.Defined.{functions_from, variables_from}
use Rattle.l2_types_unit.specs.Calls.{reached}
use Rattle.l2_types_unit.specs.Faults.{faults}

-- a function: its name, the objects of its parameters, the type of its result, and the items of its body
pub record FunctionTree : Type 0 where
  pub name : ℕ
  pub place : Place
  pub parameters : List ℕ
  pub result : CType
  pub body : CheckedTrees

-- a text with its types; objects, loops and checks are numbered from 1 in the order of these lists
pub record TypedUnitTree : Type 0 where
  pub functions : List FunctionTree
  pub objects : List ObjectEntry
  pub loops : List LoopEntry
  pub checks : List CheckInfo
  pub statics : List StaticValue

-- ---- functions

-- the body of a function that gives this type
abbrev pub setting : CType → Setting
setting t = record { breaks = false; continues = false; cases = Absent; opens = Absent; result = t }

-- these numbers, and so many from n on
abbrev pub numbers : List ℕ → ℕ → ℕ → List ℕ
numbers ns n zero = ns
numbers ns n (suc k) = numbers (ns ++ n ∷ []) (n + 1) k

-- the objects that were declared between two states
abbrev pub objects_between : State → State → List ℕ
objects_between before after = numbers [] (length before.objects + 1) (length after.objects - length before.objects)

-- the parameters and the items of the body stand in one scope
abbrev pub function_body : DeclaredName → CType → ParameterTrees → StmtTrees → State → Seen (Option FunctionTree)
function_body nm t ps ss s =
    next (all_parameters true ps (entered (inside_function (function_number s nm.name) s))) (λ ts u.
    next (items (setting t) ss u) (λ xs v.
    saw (Some (record { name = nm.name; place = nm.place; parameters = objects_between s u; result = t; body = xs })) (outside_functions (left s v))))

-- a second definition of a function is at fault
abbrev pub unless_met : DeclaredName → CType → ParameterTrees → StmtTrees → State → Seen (Option FunctionTree)
unless_met nm t ps ss s =
    if has s.met nm.name then saw None (with_fault nm.place Redeclared s) else function_body nm t ps ss (with_met nm.name s)

-- a definition of a built-in name is at fault, except that of `reach_error`; another definition declares its function
abbrev pub defined_as : Option Meaning → DeclaredName → CType → Bool → List CType → ParameterTrees → StmtTrees → State → Seen (Option FunctionTree)
defined_as (Some (meaning.Builtin name.ReachError)) nm t c ts ps ss s = unless_met nm t ps ss s
defined_as (Some (meaning.Builtin b)) nm t c ts ps ss s = saw None (with_fault nm.place Redeclared s)
defined_as m nm t c ts ps ss s = unless_met nm t ps ss (prototype nm t c ts s)

abbrev pub with_type : DeclaredType → DeclaredName → Option ParameterTrees → StmtTrees → State → Seen (Option FunctionTree)
with_type (declared.Function t c ts) nm (Some ps) ss s = defined_as (lookup s nm.name) nm t c ts ps ss s
with_type t nm ps ss s = saw None s

abbrev pub definition : BaseName → Bool → Place → DeclaratorTree → Option DeclaredName → StmtTrees → State → Seen (Option FunctionTree)
definition b c p d None ss s = saw None s
definition b c p d (Some nm) ss s = next (typed b c p d s) (λ t u. with_type t nm (parameters_of d) ss u)

-- ---- texts

abbrev pub external : ExternalTree → State → Seen (Option FunctionTree)
external Nothing s = saw None s
external (Global d) s = next (declaration d s) (λ xs t. saw None t)
external (Typedef p d) s = saw None (type_definition d s)
external (Function xs d p ss) s = next (specified xs s) (λ b t. definition b (has_const xs) (type_start xs) d (name_of d) ss t)

abbrev pub also : List FunctionTree → Option FunctionTree → List FunctionTree
also fs None = fs
also fs (Some f) = fs ++ f ∷ []

abbrev pub externals_from : List ExternalTree → Seen (List FunctionTree) → Seen (List FunctionTree)
externals_from [] r = r
externals_from (x ∷ rest) r = externals_from rest (next r (λ fs t. next (external x t) (λ o u. saw (also fs o) u)))

-- before the text: its known names, what it defines, and what is known of its checks and objects
abbrev pub begin : UnitTree → Bool → List CheckInfo → List Place → State
begin unit overflow checks places =
    with_known 0 unit.names (start overflow checks places (functions_from [] unit.externals) (variables_from [] unit.externals) (main_number unit.names))

abbrev pub looked : UnitTree → Bool → List CheckInfo → List Place → Seen (List FunctionTree)
looked unit overflow checks places = externals_from unit.externals (saw [] (begin unit overflow checks places))

-- ---- the numbers of checks and objects

abbrev pub places_from : List Place → List ObjectEntry → List Place
places_from ps [] = ps
places_from ps (o ∷ rest) = places_from (ps ++ o.place ∷ []) rest

-- the places of the names of the objects
abbrev pub places_of : State → List Place
places_of s = places_from [] s.objects

abbrev pub check_before : CheckInfo → CheckInfo → Bool
check_before a b =
    nat_lt a.place.offset b.place.offset || a.place.offset == b.place.offset && nat_lt (kind_number a.kind) (kind_number b.kind)

-- into a list in order, unless it is there
abbrev pub insert : CheckInfo → List CheckInfo → List CheckInfo
insert c [] = c ∷ []
insert c (d ∷ rest) = if check_before c d then c ∷ d ∷ rest else if check_before d c then d ∷ insert c rest else d ∷ rest

-- what goes before the rest where a list begins with d, and whether c is in then
abbrev pub pushed : Bool → CheckInfo → CheckInfo → List CheckInfo
pushed true c d = d ∷ []
pushed false c d = if check_before c d then c ∷ d ∷ [] else d ∷ []

abbrev pub is_in_behind : Bool → CheckInfo → CheckInfo → Bool
is_in_behind true c d = true
is_in_behind false c d = check_before c d || not (check_before d c)

abbrev pub check_of : CheckSite → CheckInfo
check_of c = record { place = c.place; kind = c.kind }

-- the checks of these functions, by place and then kind
abbrev pub checks_from : List ℕ → List CheckSite → List CheckInfo → List CheckInfo
checks_from fs [] cs = cs
checks_from fs (c ∷ rest) cs = checks_from fs rest (if has fs c.function then insert (check_of c) cs else cs)

abbrev pub main_function : State → Option ℕ → ℕ
main_function s None = 0
main_function s (Some n) = function_number s n

-- `main` reaches its own body and those that calls in reached code name
abbrev pub reached_by_main : State → List ℕ
reached_by_main s = reached (length s.defined) s.calls (main_function s s.main ∷ [])

abbrev pub checks_of : State → List CheckInfo
checks_of s = checks_from (reached_by_main s) s.checks []

-- ---- the faults of a text, and its typed form

abbrev pub found : UnitTree → Bool → State
found unit overflow = state_of (looked unit overflow [] [])

abbrev pub faults_of : UnitTree → Bool → List Refusal
faults_of unit overflow = faults (found unit overflow)

abbrev pub typed_form : List CheckInfo → Seen (List FunctionTree) → TypedUnitTree
typed_form checks (saw fs s) = record { functions = fs; objects = s.objects; loops = s.loops; checks = checks; statics = s.statics }

-- the text is looked at once more, with the numbers of its checks and objects
abbrev pub typed_unit : UnitTree → Bool → TypedUnitTree
typed_unit unit overflow =
    typed_form (checks_of (found unit overflow)) (looked unit overflow (checks_of (found unit overflow)) (places_of (found unit overflow)))
