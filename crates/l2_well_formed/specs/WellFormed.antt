-- What the tree of a text has (C11 6.5 to 6.9), said of the tree alone.
use Rattle.std.specs.Prelude.{◌≡◌, ◌≤◌, ◌<◌, ◌⊎◌, ℕ, Bool, true, false, List, [], ◌∷◌, Option, None, Some}
use Rattle.l2_grammar.specs.Law.{IsUnit}
use Rattle.l2_tree.specs.Trees.{ExprTree, Name, Number, Text, Parenthesised, Index, Call, Member, PostUpdate, Update, Unary, Sizeof, SizeofType, Cast, Binary, Conditional, Assign, Comma, ExprTrees, no_exprs, and_expr, SpecifierTree, StructBody, EnumBody, SpecifierTrees, first_specifier, and_specifier, EnumeratorTree, Plain, Valued, EnumeratorTrees, first_enumerator, and_enumerator, ParameterTree, Bare, Declared, ParameterTrees, no_parameters, and_parameter, DeclaratorTree, Declarator, CoreTree, Group, SuffixTree, Array, ArrayOf, Parameters, SuffixTrees, no_suffixes, and_suffix, InitialiserTree, Expression, Braced, InitialiserTrees, first_initialiser, and_initialiser, DeclaredTree, Uninitialised, Initialised, DeclaredTrees, no_declarators, and_declarator, DeclarationTree, Declaration, DeclarationTrees, no_declarations, and_declaration, FirstTree, NoFirst, FirstExpression, FirstDeclaration, StmtTree, Declare, Block, Evaluate, If, IfElse, While, Switch, Do, For, Case, Default, Label, ReturnValue, StmtTrees, no_stmts, and_stmt, Branch, BranchTree, BranchTrees, first_branch, and_branch, ExternalTree, Nothing, Global, Typedef, Function}
use Rattle.l2_tree.specs.Spelling.{has_declarators, run_unit}
use Rattle.l2_tree_laws.specs.Specifiers.{tally, names_type, tagged, other_of}
use Rattle.l2_tree_names.specs.Declarators.{parameters_of}
use Rattle.l2_well_formed.specs.Expressions.{rank, level, has_name, is_empty, is_named, may_define, no_initialiser, is_declaration, is_if, last_shut}

-- these specifiers name one type, with so many words of storage at most
pub record NamesType (n : ℕ) (xs : SpecifierTrees) : Type 0 where
  pub one : names_type (tally xs) ≡ true
  pub stored : (tally xs).storage ≤ n

-- ---- expressions, types and declarations: each part is formed, and holds together as its place asks

abbrev mutual
  pub FormedExpr : ExprTree → Type 0
  FormedExpr (Name n p) = Unit {0}
  FormedExpr (Number v y p) = Unit {0}
  FormedExpr (Text p) = Unit {0}
  FormedExpr (Parenthesised p e) = FormedExpr e
  FormedExpr (Index a p i) = (16 ≤ level a) × FormedExpr a × FormedExpr i
  FormedExpr (Call f p es) = (16 ≤ level f) × FormedExpr f × FormedArguments es
  FormedExpr (Member a o p n q) = (16 ≤ level a) × FormedExpr a
  FormedExpr (PostUpdate a o p) = (16 ≤ level a) × FormedExpr a
  FormedExpr (Update o p a) = (15 ≤ level a) × FormedExpr a
  FormedExpr (Unary o p a) = (14 ≤ level a) × FormedExpr a
  FormedExpr (Sizeof p a) = (15 ≤ level a) × FormedExpr a
  FormedExpr (SizeofType p q t) = (is_named t ≡ false) × FormedParameter t
  FormedExpr (Cast p t a) = (is_named t ≡ false) × FormedParameter t × (14 ≤ level a) × FormedExpr a
  FormedExpr (Binary a o p b) = (rank o ≤ level a) × FormedExpr a × (rank o < level b) × FormedExpr b
  FormedExpr (Conditional a p b c) = (4 ≤ level a) × FormedExpr a × FormedExpr b × (3 ≤ level c) × FormedExpr c
  FormedExpr (Assign a o p b) = (15 ≤ level a) × FormedExpr a × (2 ≤ level b) × FormedExpr b
  FormedExpr (Comma a b) = FormedExpr a × (2 ≤ level b) × FormedExpr b

  pub FormedArguments : ExprTrees → Type 0
  FormedArguments no_exprs = Unit {0}
  FormedArguments (and_expr es e) = FormedArguments es × (2 ≤ level e) × FormedExpr e

  pub FormedSpecifier : SpecifierTree → Type 0
  FormedSpecifier (StructBody p t q ds) = FormedMembers ds
  FormedSpecifier (EnumBody p t q es b) = FormedEnumerators es
  FormedSpecifier x = Unit {0}

  pub FormedSpecifiers : SpecifierTrees → Type 0
  FormedSpecifiers (first_specifier x) = FormedSpecifier x
  FormedSpecifiers (and_specifier xs x) = FormedSpecifiers xs × FormedSpecifier x

  -- members have names and no initialisers, and no word of storage
  pub FormedMembers : DeclarationTrees → Type 0
  FormedMembers no_declarations = Unit {0}
  FormedMembers (and_declaration ds (Declaration xs es)) = FormedMembers ds × NamesType 0 xs × FormedSpecifiers xs × (has_declarators es ≡ true) × (no_initialiser es ≡ true) × FormedDeclarators es

  pub FormedEnumerator : EnumeratorTree → Type 0
  FormedEnumerator (Plain n p) = Unit {0}
  FormedEnumerator (Valued n p q e) = (3 ≤ level e) × FormedExpr e

  pub FormedEnumerators : EnumeratorTrees → Type 0
  FormedEnumerators (first_enumerator e) = FormedEnumerator e
  FormedEnumerators (and_enumerator es e) = FormedEnumerators es × FormedEnumerator e

  pub FormedParameter : ParameterTree → Type 0
  FormedParameter (Bare xs) = NamesType 0 xs × FormedSpecifiers xs
  FormedParameter (Declared xs d) = NamesType 0 xs × FormedSpecifiers xs × FormedDeclarator d

  pub FormedParameters : ParameterTrees → Type 0
  FormedParameters no_parameters = Unit {0}
  FormedParameters (and_parameter ps p) = FormedParameters ps × FormedParameter p

  pub FormedDeclarator : DeclaratorTree → Type 0
  FormedDeclarator (Declarator ps c xs) = (is_empty (Declarator ps c xs) ≡ false) × FormedCore c × FormedSuffixes xs

  pub FormedCore : CoreTree → Type 0
  FormedCore (Group p d) = FormedDeclarator d
  FormedCore c = Unit {0}

  pub FormedSuffix : SuffixTree → Type 0
  FormedSuffix (Array p) = Unit {0}
  FormedSuffix (ArrayOf p e) = FormedExpr e
  FormedSuffix (Parameters p ps) = FormedParameters ps

  pub FormedSuffixes : SuffixTrees → Type 0
  FormedSuffixes no_suffixes = Unit {0}
  FormedSuffixes (and_suffix xs x) = FormedSuffixes xs × FormedSuffix x

  pub FormedInitialiser : InitialiserTree → Type 0
  FormedInitialiser (Expression e) = (2 ≤ level e) × FormedExpr e
  FormedInitialiser (Braced p ns b) = FormedInitialisers ns

  pub FormedInitialisers : InitialiserTrees → Type 0
  FormedInitialisers (first_initialiser n) = FormedInitialiser n
  FormedInitialisers (and_initialiser ns n) = FormedInitialisers ns × FormedInitialiser n

  -- a declarator of a declaration has a name
  pub FormedDeclared : DeclaredTree → Type 0
  FormedDeclared (Uninitialised d) = (has_name d ≡ true) × FormedDeclarator d
  FormedDeclared (Initialised d p n) = (has_name d ≡ true) × FormedDeclarator d × FormedInitialiser n

  pub FormedDeclarators : DeclaredTrees → Type 0
  FormedDeclarators no_declarators = Unit {0}
  FormedDeclarators (and_declarator ds d) = FormedDeclarators ds × FormedDeclared d

-- a struct or an enum is named
abbrev pub Tags : SpecifierTrees → Type 0
Tags xs = (x : SpecifierTree) × (other_of xs ≡ Some (tagged x))

-- a declaration with so many words of storage at most; without a declarator it has a struct or an enum
abbrev pub FormedDeclaration : ℕ → DeclarationTree → Type 0
FormedDeclaration n (Declaration xs ds) = NamesType n xs × FormedSpecifiers xs × ((has_declarators ds ≡ true) ⊎ Tags xs) × FormedDeclarators ds

-- ---- statements

abbrev pub FormedPerhaps : Option ExprTree → Type 0
FormedPerhaps None = Unit {0}
FormedPerhaps (Some e) = FormedExpr e

abbrev pub FormedFirst : FirstTree → Type 0
FormedFirst NoFirst = Unit {0}
FormedFirst (FirstExpression e) = FormedExpr e
FormedFirst (FirstDeclaration d) = FormedDeclaration 1 d

abbrev mutual
  pub FormedStmt : StmtTree → Type 0
  FormedStmt (Declare d) = FormedDeclaration 1 d
  FormedStmt (Block p ss) = FormedItems ss
  FormedStmt (Evaluate e) = FormedExpr e
  FormedStmt (If bs) = FormedBranches bs
  FormedStmt (IfElse bs t) = FormedBranches bs × (last_shut bs ≡ true) × (is_if t ≡ false) × (is_declaration t ≡ false) × FormedStmt t
  FormedStmt (While p q e t) = FormedExpr e × (is_declaration t ≡ false) × FormedStmt t
  FormedStmt (Switch p q e t) = FormedExpr e × (is_declaration t ≡ false) × FormedStmt t
  FormedStmt (Do p t w q e) = (is_declaration t ≡ false) × FormedStmt t × FormedExpr e
  FormedStmt (For p q f c e t) = FormedFirst f × FormedPerhaps c × FormedPerhaps e × (is_declaration t ≡ false) × FormedStmt t
  FormedStmt (Case p e t) = (3 ≤ level e) × FormedExpr e × (is_declaration t ≡ false) × FormedStmt t
  FormedStmt (Default p t) = (is_declaration t ≡ false) × FormedStmt t
  FormedStmt (Label n p t) = (is_declaration t ≡ false) × FormedStmt t
  FormedStmt (ReturnValue p e) = FormedExpr e
  FormedStmt t = Unit {0}

  pub FormedItems : StmtTrees → Type 0
  FormedItems no_stmts = Unit {0}
  FormedItems (and_stmt ss t) = FormedItems ss × FormedStmt t

  pub FormedBranch : BranchTree → Type 0
  FormedBranch (Branch p q e t) = FormedExpr e × (is_declaration t ≡ false) × FormedStmt t

  pub FormedBranches : BranchTrees → Type 0
  FormedBranches (first_branch b) = FormedBranch b
  FormedBranches (and_branch bs b) = FormedBranches bs × (last_shut bs ≡ true) × FormedBranch b

-- ---- units

-- a declarator of a function that may be defined so
pub record Defines (d : DeclaratorTree) : Type 0 where
  pub name : has_name d ≡ true
  pub parameters : ParameterTrees
  pub are : parameters_of d ≡ Some parameters
  pub may : may_define parameters ≡ true

abbrev pub without_initialisers : DeclarationTree → Bool
without_initialisers (Declaration xs ds) = no_initialiser ds

abbrev pub FormedExternal : ExternalTree → Type 0
FormedExternal Nothing = Unit {0}
FormedExternal (Global d) = FormedDeclaration 1 d
FormedExternal (Typedef p d) = FormedDeclaration 0 d × (without_initialisers d ≡ true)
FormedExternal (Function xs d p ss) = NamesType 1 xs × FormedSpecifiers xs × FormedDeclarator d × Defines d × FormedItems ss

abbrev pub WellFormed : List ExternalTree → Type 0
WellFormed [] = Unit {0}
WellFormed (x ∷ xs) = FormedExternal x × WellFormed xs

-- the tree of a unit is well formed
abbrev pub WellFormedLaw : Type 0
WellFormedLaw = (xs : List ExternalTree) → IsUnit (run_unit xs) → WellFormed xs
