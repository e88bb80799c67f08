-- What a text defines at file scope, by its names.
use Rattle.std.specs.Prelude.{ℕ, List, [], ◌∷◌, ◌++◌, Option, Some, None}
use Rattle.l2_tree.specs.declared.operators.SpecifierWord.{SpecifierWord}
use Rattle.l2_tree.specs.declared.operators.SpecifierWord.TheVariants.{Extern}
use Rattle.l2_tree.specs.Trees.{DeclaratorTree, DeclaredTree, Uninitialised, Initialised, DeclaredTrees, no_declarators, and_declarator, DeclarationTree, Declaration, ExternalTree, Global, Function, ParameterTrees}
use Rattle.l2_tree_laws.specs.Specifiers.{storage_of}
use Rattle.l2_tree_names.specs.declared.declarators.DeclaredName.{DeclaredName}
use Rattle.l2_tree_names.specs.Declarators.{name_of, parameters_of}
use Rattle.l2_types.specs.declared.state.Named.{Named}

-- ---- functions

abbrev pub with_name : List ℕ → Option DeclaredName → List ℕ
with_name ns None = ns
with_name ns (Some nm) = ns ++ nm.name ∷ []

abbrev pub with_function : List ℕ → ExternalTree → List ℕ
with_function ns (Function xs d p ss) = with_name ns (name_of d)
with_function ns x = ns

-- the names of the functions that are defined, in their order
abbrev pub functions_from : List ℕ → List ExternalTree → List ℕ
functions_from ns [] = ns
functions_from ns (x ∷ rest) = functions_from (with_function ns x) rest

-- ---- variables

abbrev pub with_variable : List Named → Option DeclaredName → Option ParameterTrees → List Named
with_variable vs None ps = vs
with_variable vs (Some nm) None = vs ++ record { name = nm.name; place = nm.place } ∷ []
with_variable vs (Some nm) (Some ps) = vs

-- without an initialiser `extern` defines nothing
abbrev pub uninitialised : Option SpecifierWord → List Named → DeclaratorTree → List Named
uninitialised (Some Extern) vs d = vs
uninitialised w vs d = with_variable vs (name_of d) (parameters_of d)

abbrev pub with_declarator : Option SpecifierWord → List Named → DeclaredTree → List Named
with_declarator w vs (Uninitialised d) = uninitialised w vs d
with_declarator w vs (Initialised d p i) = with_variable vs (name_of d) (parameters_of d)

abbrev pub with_declarators : Option SpecifierWord → List Named → DeclaredTrees → List Named
with_declarators w vs no_declarators = vs
with_declarators w vs (and_declarator ds d) = with_declarator w (with_declarators w vs ds) d

abbrev pub with_declaration : List Named → DeclarationTree → List Named
with_declaration vs (Declaration xs ds) = with_declarators (storage_of xs) vs ds

abbrev pub with_variables : List Named → ExternalTree → List Named
with_variables vs (Global d) = with_declaration vs d
with_variables vs x = vs

-- the variables of file scope that are defined, in their order
abbrev pub variables_from : List Named → List ExternalTree → List Named
variables_from vs [] = vs
variables_from vs (x ∷ rest) = variables_from (with_variables vs x) rest
