-- Declarations (C11 6.7, for integers).
use Rattle.std.specs.Prelude.{Bool, true, false, ◌&&◌, ◌||◌, if◌then◌else◌, List, [], ◌∷◌, ◌++◌, Option, Some, None, is_some}
use Rattle.l2_syntax.specs.declared.place.Place.{Place}
use Rattle.l2_tree.specs.declared.operators.SpecifierWord.{SpecifierWord}
use Rattle.l2_tree.specs.Trees.{DeclaratorTree, DeclaredTree, Uninitialised, Initialised, DeclaredTrees, no_declarators, and_declarator, DeclarationTree, Declaration}
use Rattle.l2_tree_laws.specs.Specifiers.{storage_of}
use Rattle.l2_tree_names.specs.declared.declarators.DeclaredName.{DeclaredName}
use Rattle.l2_tree_names.specs.Declarators.{name_of, parameters_of}
use Rattle.l2_types.specs.States.{State, Seen, saw, next, state_of, lookup}
use Rattle.l2_types.specs.Scopes.{is_builtin}
use Rattle.l2_types_expr.specs.declared.type_names.BaseName.{BaseName}
use Rattle.l2_types_expr.specs.declared.type_names.BaseName.TheVariants as base
use Rattle.l2_types_expr.specs.Expressions.{specified}
use Rattle.l2_types_declarations.specs.declared.types.Target.{Target}
use Rattle.l2_types_declarations.specs.declared.types.Target.TheVariants as target
use Rattle.l2_types_declarations.specs.Forms.{has_const, type_start, is_bare}
use Rattle.l2_types_declarations.specs.Names.{declare_as, declare_type, redeclared}
use Rattle.l2_types_declarations.specs.Parameters.{typed}
use Rattle.l2_types_declarations.specs.Initialisers.{ItemTree, begins, without}

-- ---- names

abbrev pub is_function_name : BaseName → Bool
is_function_name (base.FunctionType g) = true
is_function_name b = false

abbrev pub declares_function : BaseName → DeclaratorTree → Bool
declares_function b d = is_some (parameters_of d) || is_function_name b && is_bare d

-- a prototype of a built-in name is skipped
abbrev pub builtin_again : Bool → DeclaredName → State → Seen Target
builtin_again true nm s = saw target.Nothing s
builtin_again false nm s = redeclared nm s

abbrev pub declare_name : Option SpecifierWord → Bool → BaseName → Bool → Place → DeclaratorTree → DeclaredName → State → Seen Target
declare_name w i b c p d nm s =
    if is_builtin (lookup s nm.name) then builtin_again (declares_function b d) nm s
    else next (typed b c p d s) (λ t u. declare_as w i nm t p u)

abbrev pub target_for : Option SpecifierWord → Bool → BaseName → Bool → Place → DeclaratorTree → Option DeclaredName → State → Seen Target
target_for w i b c p d None s = saw target.Nothing s
target_for w i b c p d (Some nm) s = declare_name w i b c p d nm s

-- ---- declarators with their initialisers

abbrev pub declarator : Option SpecifierWord → BaseName → Bool → Place → DeclaredTree → State → Seen (Option ItemTree)
declarator w b c p (Uninitialised d) s = next (target_for w false b c p d (name_of d) s) (λ t u. saw (without t) u)
-- the name is in scope in its own initialiser
declarator w b c p (Initialised d q i) s = next (target_for w true b c p d (name_of d) s) (λ t u. begins t i u)

abbrev pub also : List ItemTree → Option ItemTree → List ItemTree
also xs None = xs
also xs (Some x) = xs ++ x ∷ []

abbrev pub declarators : Option SpecifierWord → BaseName → Bool → Place → DeclaredTrees → State → Seen (List ItemTree)
declarators w b c p no_declarators s = saw [] s
declarators w b c p (and_declarator ds d) s =
    next (declarators w b c p ds s) (λ xs t. next (declarator w b c p d t) (λ o u. saw (also xs o) u))

abbrev pub declaration : DeclarationTree → State → Seen (List ItemTree)
declaration (Declaration xs ds) s = next (specified xs s) (λ b t. declarators (storage_of xs) b (has_const xs) (type_start xs) ds t)

-- ---- `typedef`

abbrev pub type_declared : BaseName → Bool → Place → DeclaratorTree → Option DeclaredName → State → State
type_declared b c p d None s = s
type_declared b c p d (Some nm) s = state_of (next (typed b c p d s) (λ t u. saw t (declare_type nm t u)))

abbrev pub type_declarator : BaseName → Bool → Place → DeclaredTree → State → State
type_declarator b c p (Uninitialised d) s = type_declared b c p d (name_of d) s
type_declarator b c p (Initialised d q i) s = type_declared b c p d (name_of d) s

abbrev pub type_declarators : BaseName → Bool → Place → DeclaredTrees → State → State
type_declarators b c p no_declarators s = s
type_declarators b c p (and_declarator ds d) s = type_declarator b c p d (type_declarators b c p ds s)

abbrev pub type_definition : DeclarationTree → State → State
type_definition (Declaration xs ds) s = state_of (next (specified xs s) (λ b t. saw b (type_declarators b (has_const xs) (type_start xs) ds t)))
