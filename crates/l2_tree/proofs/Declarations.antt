-- Rows of the parts of declarations and declarators, as the lists that code goes over.
use Rattle.std.proofs.Common.{◌≡◌, List, [], ◌∷◌, ◌++◌, Bool, Option, refl, ap, sym, ◌∙◌}
use Rattle.std.specs.declared.vec.Vec.{Vec}
use Rattle.std.specs.declared.boxed.Box.{Box}
use Rattle.std.specs.declared.alloc.Global.{Global}
use Rattle.l2_syntax.specs.declared.place.Place.{Place}
use Rattle.l2_tree.specs.declared.expression.Core.TheBlock as block
use Rattle.l2_tree.specs.declared.expression.Pointer.{Pointer}
use Rattle.l2_tree.specs.declared.expression.Tag.{Tag}
use Rattle.l2_tree.specs.declared.expression.Core as core
use Rattle.l2_tree.specs.declared.expression.Suffix as suffix
use Rattle.l2_tree.specs.declared.expression.Suffix.{Suffix, Row_of-Parameter, end_of-Parameter, more_of-Parameter, items-the_row-Parameter, items_hidden-the_row-Parameter-7}
use Rattle.l2_tree.specs.declared.expression.Parameter as parameter
use Rattle.l2_tree.specs.declared.expression.Parameter.{Parameter, Row_of-Specifier, end_of-Specifier, more_of-Specifier, items-the_row-Specifier, items_hidden-the_row-Specifier-3, items_shown-the_row-Specifier-3, Row_of-Suffix, end_of-Suffix, more_of-Suffix, items-the_row-Suffix, items_hidden-the_row-Suffix-0}
use Rattle.l2_tree.specs.declared.expression.Specifier as specifier
use Rattle.l2_tree.specs.declared.expression.Specifier.{Specifier, Row_of-Declaration, end_of-Declaration, more_of-Declaration, items-the_row-Declaration, items_hidden-the_row-Declaration-5, Row_of-Enumerator, end_of-Enumerator, more_of-Enumerator, items-the_row-Enumerator, items_hidden-the_row-Enumerator-6}
use Rattle.l2_tree.specs.declared.expression.Specifiers.{Specifiers}
use Rattle.l2_tree.specs.declared.expression.Enumerators.{Enumerators}
use Rattle.l2_tree.specs.declared.expression.Initialisers.{Initialisers}
use Rattle.l2_tree.specs.declared.expression.Enumerator.{Enumerator}
use Rattle.l2_tree.specs.declared.expression.Initialiser as initialiser
use Rattle.l2_tree.specs.declared.expression.Initialiser.{Initialiser, Row_of-Initialiser, end_of-Initialiser, more_of-Initialiser, items-the_row-Initialiser, items_hidden-the_row-Initialiser-2}
use Rattle.l2_tree.specs.declared.expression.Declarator.{Declarator}
use Rattle.l2_tree.specs.declared.expression.Declared as declared
use Rattle.l2_tree.specs.declared.expression.Declared.{Declared}
use Rattle.l2_tree.specs.declared.expression.Declaration.{Declaration, Row_of-Declared, end_of-Declared, more_of-Declared, items-the_row-Declared, items_shown-the_row-Declared-4}
use Rattle.l2_tree.specs.declared.statement.Stmt.{Stmt}
use Rattle.l2_tree.specs.Trees as tree
use Rattle.l2_tree.specs.Trees.{SpecifierTrees, first_specifier, and_specifier, EnumeratorTrees, first_enumerator, and_enumerator, ParameterTrees, no_parameters, and_parameter, SuffixTrees, no_suffixes, and_suffix, InitialiserTrees, first_initialiser, and_initialiser, DeclaredTrees, no_declarators, and_declarator, DeclarationTrees, no_declarations, and_declaration, StmtTrees, and_stmt}
use Rattle.l2_tree.specs.Units.{specifier_tree, specifiers_row, specifiers_onto, specifiers_tree, enumerator_tree, enumerators_row, enumerators_onto, enumerators_tree, parameter_tree, parameters_row, parameters_onto, core_tree, suffix_tree, suffixes_row, suffixes_onto, initialiser_tree, initialisers_row, initialisers_onto, initialisers_tree, declared_tree, declared_row, declarators_onto, declarator_tree, declaration_tree, declarations_row, declarations_onto, stmt_tree, stmts_onto}
use Rattle.l2_grammar.specs.Trees.{Tree}
use Rattle.l2_tree.specs.Spelling.{pointer_onto, pointers_onto}

-- ---- lists grow at the end

pub pointers-end : (r : Tree) (ps : List Pointer) (p : Pointer) → pointers_onto r (ps ++ (p ∷ [])) ≡ pointer_onto (pointers_onto r ps) p
pointers-end r [] p = refl
pointers-end r (q ∷ ps) p = pointers-end (pointer_onto r q) ps p

pub specifiers-end : (front : SpecifierTrees) (xs : List Specifier) (x : Specifier) → specifiers_onto front (xs ++ (x ∷ [])) ≡ and_specifier (specifiers_onto front xs) (specifier_tree x)
specifiers-end front [] x = refl
specifiers-end front (y ∷ xs) x = specifiers-end (and_specifier front (specifier_tree y)) xs x

pub enumerators-end : (front : EnumeratorTrees) (xs : List Enumerator) (x : Enumerator) → enumerators_onto front (xs ++ (x ∷ [])) ≡ and_enumerator (enumerators_onto front xs) (enumerator_tree x)
enumerators-end front [] x = refl
enumerators-end front (y ∷ xs) x = enumerators-end (and_enumerator front (enumerator_tree y)) xs x

pub parameters-end : (front : ParameterTrees) (xs : List Parameter) (x : Parameter) → parameters_onto front (xs ++ (x ∷ [])) ≡ and_parameter (parameters_onto front xs) (parameter_tree x)
parameters-end front [] x = refl
parameters-end front (y ∷ xs) x = parameters-end (and_parameter front (parameter_tree y)) xs x

pub suffixes-end : (front : SuffixTrees) (xs : List Suffix) (x : Suffix) → suffixes_onto front (xs ++ (x ∷ [])) ≡ and_suffix (suffixes_onto front xs) (suffix_tree x)
suffixes-end front [] x = refl
suffixes-end front (y ∷ xs) x = suffixes-end (and_suffix front (suffix_tree y)) xs x

pub initialisers-end : (front : InitialiserTrees) (xs : List Initialiser) (x : Initialiser) → initialisers_onto front (xs ++ (x ∷ [])) ≡ and_initialiser (initialisers_onto front xs) (initialiser_tree x)
initialisers-end front [] x = refl
initialisers-end front (y ∷ xs) x = initialisers-end (and_initialiser front (initialiser_tree y)) xs x

pub declarators-end : (front : DeclaredTrees) (xs : List Declared) (x : Declared) → declarators_onto front (xs ++ (x ∷ [])) ≡ and_declarator (declarators_onto front xs) (declared_tree x)
declarators-end front [] x = refl
declarators-end front (y ∷ xs) x = declarators-end (and_declarator front (declared_tree y)) xs x

pub declarations-end : (front : DeclarationTrees) (xs : List Declaration) (x : Declaration) → declarations_onto front (xs ++ (x ∷ [])) ≡ and_declaration (declarations_onto front xs) (declaration_tree x)
declarations-end front [] x = refl
declarations-end front (y ∷ xs) x = declarations-end (and_declaration front (declaration_tree y)) xs x

pub stmts-end : (front : StmtTrees) (xs : List Stmt) (x : Stmt) → stmts_onto front (xs ++ (x ∷ [])) ≡ and_stmt (stmts_onto front xs) (stmt_tree x)
stmts-end front [] x = refl
stmts-end front (y ∷ xs) x = stmts-end (and_stmt front (stmt_tree y)) xs x

-- ---- rows are lists

specifiers_row_is : {m : _} (front : SpecifierTrees) (row : Row_of-Specifier m) → specifiers_row front row ≡ specifiers_onto front (items-the_row-Specifier m row)
specifiers_row_is front end_of-Specifier = refl
specifiers_row_is front (more_of-Specifier x rest) = specifiers_row_is (and_specifier front (specifier_tree x)) rest

enumerators_row_is : {m : _} (front : EnumeratorTrees) (row : Row_of-Enumerator m) → enumerators_row front row ≡ enumerators_onto front (items-the_row-Enumerator m row)
enumerators_row_is front end_of-Enumerator = refl
enumerators_row_is front (more_of-Enumerator x rest) = enumerators_row_is (and_enumerator front (enumerator_tree x)) rest

parameters_row_is : {m : _} (front : ParameterTrees) (row : Row_of-Parameter m) → parameters_row front row ≡ parameters_onto front (items-the_row-Parameter m row)
parameters_row_is front end_of-Parameter = refl
parameters_row_is front (more_of-Parameter x rest) = parameters_row_is (and_parameter front (parameter_tree x)) rest

suffixes_row_is : {m : _} (front : SuffixTrees) (row : Row_of-Suffix m) → suffixes_row front row ≡ suffixes_onto front (items-the_row-Suffix m row)
suffixes_row_is front end_of-Suffix = refl
suffixes_row_is front (more_of-Suffix x rest) = suffixes_row_is (and_suffix front (suffix_tree x)) rest

initialisers_row_is : {m : _} (front : InitialiserTrees) (row : Row_of-Initialiser m) → initialisers_row front row ≡ initialisers_onto front (items-the_row-Initialiser m row)
initialisers_row_is front end_of-Initialiser = refl
initialisers_row_is front (more_of-Initialiser x rest) = initialisers_row_is (and_initialiser front (initialiser_tree x)) rest

declarators_row_is : {m : _} (front : DeclaredTrees) (row : Row_of-Declared m) → declared_row front row ≡ declarators_onto front (items-the_row-Declared m row)
declarators_row_is front end_of-Declared = refl
declarators_row_is front (more_of-Declared x rest) = declarators_row_is (and_declarator front (declared_tree x)) rest

declarations_row_is : {m : _} (front : DeclarationTrees) (row : Row_of-Declaration m) → declarations_row front row ≡ declarations_onto front (items-the_row-Declaration m row)
declarations_row_is front end_of-Declaration = refl
declarations_row_is front (more_of-Declaration {n = n} a x shape xs shape2 all rest) =
    declarations_row_is (and_declaration front (tree.Declaration (specifiers_row (first_specifier (specifier_tree x)) xs) (declared_row no_declarators all))) rest
    ∙ ap (λ z. declarations_onto (and_declaration front z) (items-the_row-Declaration n rest))
    (ap (λ z. tree.Declaration z (declared_row no_declarators all)) (specifiers_row_is (first_specifier (specifier_tree x)) xs ∙ ap (specifiers_onto (first_specifier (specifier_tree x))) (sym (items_shown-the_row-Specifier-3 shape xs)))
    ∙ ap (tree.Declaration (specifiers_onto (first_specifier (specifier_tree x)) (block.shown-the_row-Specifier-3 shape xs).items)) (declarators_row_is no_declarators all ∙ ap (declarators_onto no_declarators) (sym (items_shown-the_row-Declared-4 shape2 all))))

-- ---- vectors in them

suffixes_are : (xs : Vec Suffix Global) → suffixes_row no_suffixes (block.hidden-the_row-Suffix-0 xs) ≡ suffixes_onto no_suffixes xs.items
suffixes_are xs = suffixes_row_is no_suffixes (block.hidden-the_row-Suffix-0 xs) ∙ ap (suffixes_onto no_suffixes) (items_hidden-the_row-Suffix-0 xs)

specifiers_are : (xs : Specifiers) → specifiers_row (first_specifier (specifier_tree xs.first.value)) (block.hidden-the_row-Specifier-3 xs.rest) ≡ specifiers_tree xs
specifiers_are xs = specifiers_row_is (first_specifier (specifier_tree xs.first.value)) (block.hidden-the_row-Specifier-3 xs.rest) ∙ ap (specifiers_onto (first_specifier (specifier_tree xs.first.value))) (items_hidden-the_row-Specifier-3 xs.rest)

inside_is : (d : Declarator) → tree.Declarator d.pointers.items (core_tree d.core) (suffixes_row no_suffixes (block.hidden-the_row-Suffix-0 d.suffixes)) ≡ declarator_tree d
inside_is d = ap (tree.Declarator d.pointers.items (core_tree d.core)) (suffixes_are d.suffixes)

pub suffix_tree-Parameters : (p : Place) (ps : Vec Parameter Global) → suffix_tree (suffix.Parameters p ps) ≡ tree.Parameters p (parameters_onto no_parameters ps.items)
suffix_tree-Parameters p ps = ap (tree.Parameters p) (parameters_row_is no_parameters (block.hidden-the_row-Parameter-7 ps) ∙ ap (parameters_onto no_parameters) (items_hidden-the_row-Parameter-7 ps))

pub core_tree-Group : (p : Place) (b : Box Declarator Global) → core_tree (core.Group p b) ≡ tree.Group p (declarator_tree b.value)
core_tree-Group p b = ap (tree.Group p) (inside_is b.value)

pub parameter_tree-Plain : (xs : Specifiers) → parameter_tree (parameter.Plain xs) ≡ tree.Bare (specifiers_tree xs)
parameter_tree-Plain xs = ap tree.Bare (specifiers_are xs)

pub parameter_tree-Declared : (xs : Specifiers) (d : Declarator) → parameter_tree (parameter.Declared xs d) ≡ tree.Declared (specifiers_tree xs) (declarator_tree d)
parameter_tree-Declared xs d =
    ap (λ z. tree.Declared z (tree.Declarator d.pointers.items (core_tree d.core) (suffixes_row no_suffixes (block.hidden-the_row-Suffix-0 d.suffixes)))) (specifiers_are xs)
    ∙ ap (tree.Declared (specifiers_tree xs)) (inside_is d)

pub initialiser_tree-Braced : (p : Place) (ns : Initialisers) (b : Bool) → initialiser_tree (initialiser.Braced p ns b) ≡ tree.Braced p (initialisers_tree ns) b
initialiser_tree-Braced p ns b = ap (λ z. tree.Braced p z b) (initialisers_row_is (first_initialiser (initialiser_tree ns.first.value)) (block.hidden-the_row-Initialiser-2 ns.rest)
    ∙ ap (initialisers_onto (first_initialiser (initialiser_tree ns.first.value))) (items_hidden-the_row-Initialiser-2 ns.rest))

pub declared_tree-Plain : (d : Declarator) → declared_tree (declared.Plain d) ≡ tree.Uninitialised (declarator_tree d)
declared_tree-Plain d = ap tree.Uninitialised (inside_is d)

pub declared_tree-Initialised : (d : Declarator) (p : Place) (i : Initialiser) → declared_tree (declared.Initialised d p i) ≡ tree.Initialised (declarator_tree d) p (initialiser_tree i)
declared_tree-Initialised d p i = ap (λ z. tree.Initialised z p (initialiser_tree i)) (inside_is d)

pub specifier_tree-StructBody : (p : Place) (t : Option Tag) (q : Place) (ds : Vec Declaration Global) → specifier_tree (specifier.StructBody p t q ds) ≡ tree.StructBody p t q (declarations_onto no_declarations ds.items)
specifier_tree-StructBody p t q ds = ap (tree.StructBody p t q) (declarations_row_is no_declarations (block.hidden-the_row-Declaration-5 ds) ∙ ap (declarations_onto no_declarations) (items_hidden-the_row-Declaration-5 ds))

pub specifier_tree-EnumBody : (p : Place) (t : Option Tag) (q : Place) (es : Enumerators) (b : Bool) → specifier_tree (specifier.EnumBody p t q es b) ≡ tree.EnumBody p t q (enumerators_tree es) b
specifier_tree-EnumBody p t q es b = ap (λ z. tree.EnumBody p t q z b) (enumerators_row_is (first_enumerator (enumerator_tree es.first.value)) (block.hidden-the_row-Enumerator-6 es.rest)
    ∙ ap (enumerators_onto (first_enumerator (enumerator_tree es.first.value))) (items_hidden-the_row-Enumerator-6 es.rest))

pub ruleset declarators = (pointers-end, parameters-end, suffixes-end, suffix_tree-Parameters, core_tree-Group)

pub ruleset declarations = (specifiers-end, enumerators-end, initialisers-end, declarators-end, declarations-end, stmts-end, parameter_tree-Plain, parameter_tree-Declared, initialiser_tree-Braced, declared_tree-Plain, declared_tree-Initialised, specifier_tree-StructBody, specifier_tree-EnumBody)
