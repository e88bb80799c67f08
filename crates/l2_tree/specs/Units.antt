-- The tree of each value of the types in src/: the same without addresses.
use Rattle.std.specs.Prelude.{List, [], ◌∷◌, Option, None, Some, map}
use Rattle.std.specs.declared.boxed.Box.{Box}
use Rattle.std.specs.declared.alloc.Global.{Global as Allocator}
use Rattle.l2_tree.specs.declared.expression.Expr as expr
use Rattle.l2_tree.specs.declared.expression.Expr.{Expr, Row_of-Expr, end_of-Expr, more_of-Expr}
use Rattle.l2_tree.specs.declared.expression.Specifier as specifier
use Rattle.l2_tree.specs.declared.expression.Specifier.{Specifier, Row_of-Declaration, end_of-Declaration, more_of-Declaration, Row_of-Enumerator, end_of-Enumerator, more_of-Enumerator}
use Rattle.l2_tree.specs.declared.expression.Specifiers as specifiers
use Rattle.l2_tree.specs.declared.expression.Enumerators as enumerators
use Rattle.l2_tree.specs.declared.expression.Initialisers as initialisers
use Rattle.l2_tree.specs.declared.expression.Enumerator as enumerator
use Rattle.l2_tree.specs.declared.expression.Enumerator.{Enumerator}
use Rattle.l2_tree.specs.declared.expression.Parameter as parameter
use Rattle.l2_tree.specs.declared.expression.Parameter.{Parameter, Row_of-Specifier, end_of-Specifier, more_of-Specifier, Row_of-Suffix, end_of-Suffix, more_of-Suffix}
use Rattle.l2_tree.specs.declared.expression.Core as core
use Rattle.l2_tree.specs.declared.expression.Core.{Core}
use Rattle.l2_tree.specs.declared.expression.Suffix as suffix
use Rattle.l2_tree.specs.declared.expression.Suffix.{Suffix, Row_of-Parameter, end_of-Parameter, more_of-Parameter}
use Rattle.l2_tree.specs.declared.expression.Declarator as declarator
use Rattle.l2_tree.specs.declared.expression.Initialiser as initialiser
use Rattle.l2_tree.specs.declared.expression.Initialiser.{Initialiser, Row_of-Initialiser, end_of-Initialiser, more_of-Initialiser}
use Rattle.l2_tree.specs.declared.expression.Declared as declared
use Rattle.l2_tree.specs.declared.expression.Declared.{Declared}
use Rattle.l2_tree.specs.declared.expression.Declaration as declaration
use Rattle.l2_tree.specs.declared.expression.Declaration.{Row_of-Declared, end_of-Declared, more_of-Declared}
use Rattle.l2_tree.specs.declared.statement.Stmt as stmt
use Rattle.l2_tree.specs.declared.statement.Stmt.{Stmt, Row_of-Stmt, end_of-Stmt, more_of-Stmt, Row_of-Branch, end_of-Branch, more_of-Branch}
use Rattle.l2_tree.specs.declared.statement.Branch as branch
use Rattle.l2_tree.specs.declared.statement.First.TheVariants as first
use Rattle.l2_tree.specs.declared.statement.First.{First}
use Rattle.l2_tree.specs.declared.unit.External.TheVariants as external
use Rattle.l2_tree.specs.declared.unit.External.{External}
use Rattle.l2_tree.specs.declared.unit.Unit as unit
use Rattle.l2_tree.specs.Trees.{ExprTree, Name, Number, Text, Parenthesised, Index, Call, Member, PostUpdate, Update, Unary, Sizeof, SizeofType, Cast, Binary, Conditional, Assign, Comma, ExprTrees, no_exprs, and_expr, SpecifierTree, Word, TypeName, Struct, StructBody, Enum, EnumBody, SpecifierTrees, first_specifier, and_specifier, EnumeratorTree, Plain, Valued, EnumeratorTrees, first_enumerator, and_enumerator, ParameterTree, Bare, Declared as DeclaredParameter, ParameterTrees, no_parameters, and_parameter, DeclaratorTree, Declarator, CoreTree, Absent, Named, Group, SuffixTree, Array, ArrayOf, Parameters, SuffixTrees, no_suffixes, and_suffix, InitialiserTree, Expression, Braced, InitialiserTrees, first_initialiser, and_initialiser, DeclaredTree, Uninitialised, Initialised, DeclaredTrees, no_declarators, and_declarator, DeclarationTree, Declaration, DeclarationTrees, no_declarations, and_declaration, FirstTree, NoFirst, FirstExpression, FirstDeclaration, StmtTree, Declare, Block, Evaluate, Empty, If, IfElse, While, Switch, Do, For, Case, Default, Label, Break, Continue, Return, ReturnValue, StmtTrees, no_stmts, and_stmt, BranchTree, Branch, BranchTrees, first_branch, and_branch, ExternalTree, Nothing, Global, Typedef, Function, UnitTree}

abbrev mutual
  pub expr_tree : Expr → ExprTree
  expr_tree (expr.Name n p) = Name n p
  expr_tree (expr.Number v y p) = Number v y p
  expr_tree (expr.Text p) = Text p
  expr_tree (expr.Parenthesised' p a e) = Parenthesised p (expr_tree e)
  expr_tree (expr.Index' a e p b i) = Index (expr_tree e) p (expr_tree i)
  expr_tree (expr.Call' a f p shape all) = Call (expr_tree f) p (exprs_row no_exprs all)
  expr_tree (expr.Member' a e o p n q) = Member (expr_tree e) o p n q
  expr_tree (expr.PostUpdate' a e o p) = PostUpdate (expr_tree e) o p
  expr_tree (expr.Update' o p a e) = Update o p (expr_tree e)
  expr_tree (expr.Unary' o p a e) = Unary o p (expr_tree e)
  expr_tree (expr.Sizeof' p a e) = Sizeof p (expr_tree e)
  expr_tree (expr.SizeofType' p q a t) = SizeofType p q (parameter_tree t)
  expr_tree (expr.Cast' p a t b e) = Cast p (parameter_tree t) (expr_tree e)
  expr_tree (expr.Binary' a e o p b f) = Binary (expr_tree e) o p (expr_tree f)
  expr_tree (expr.Conditional' a e p b f c g) = Conditional (expr_tree e) p (expr_tree f) (expr_tree g)
  expr_tree (expr.Assign' a e o p b f) = Assign (expr_tree e) o p (expr_tree f)
  expr_tree (expr.Comma' a e b f) = Comma (expr_tree e) (expr_tree f)

  pub exprs_row : {m : _} → ExprTrees → Row_of-Expr m → ExprTrees
  exprs_row es end_of-Expr = es
  exprs_row es (more_of-Expr e rest) = exprs_row (and_expr es (expr_tree e)) rest

  pub specifier_tree : Specifier → SpecifierTree
  specifier_tree (specifier.Word w p) = Word w p
  specifier_tree (specifier.TypeName n p) = TypeName n p
  specifier_tree (specifier.Struct p t) = Struct p t
  specifier_tree (specifier.StructBody' p t q shape all) = StructBody p t q (declarations_row no_declarations all)
  specifier_tree (specifier.Enum p t) = Enum p t
  specifier_tree (specifier.EnumBody' p t q a e shape all b) = EnumBody p t q (enumerators_row (first_enumerator (enumerator_tree e)) all) b

  pub specifiers_row : {m : _} → SpecifierTrees → Row_of-Specifier m → SpecifierTrees
  specifiers_row xs end_of-Specifier = xs
  specifiers_row xs (more_of-Specifier x rest) = specifiers_row (and_specifier xs (specifier_tree x)) rest

  pub enumerator_tree : Enumerator → EnumeratorTree
  enumerator_tree (enumerator.Plain n p) = Plain n p
  enumerator_tree (enumerator.Valued' n p q a e) = Valued n p q (expr_tree e)

  pub enumerators_row : {m : _} → EnumeratorTrees → Row_of-Enumerator m → EnumeratorTrees
  enumerators_row es end_of-Enumerator = es
  enumerators_row es (more_of-Enumerator e rest) = enumerators_row (and_enumerator es (enumerator_tree e)) rest

  pub parameter_tree : Parameter → ParameterTree
  parameter_tree (parameter.Plain' a x shape all) = Bare (specifiers_row (first_specifier (specifier_tree x)) all)
  parameter_tree (parameter.Declared' a x shape all ps c shape2 all2) = DeclaredParameter (specifiers_row (first_specifier (specifier_tree x)) all) (Declarator ps.items (core_tree c) (suffixes_row no_suffixes all2))

  pub parameters_row : {m : _} → ParameterTrees → Row_of-Parameter m → ParameterTrees
  parameters_row ps end_of-Parameter = ps
  parameters_row ps (more_of-Parameter p rest) = parameters_row (and_parameter ps (parameter_tree p)) rest

  pub core_tree : Core → CoreTree
  core_tree core.Absent = Absent
  core_tree (core.Name n p) = Named n p
  core_tree (core.Group' p a ps c shape all) = Group p (Declarator ps.items (core_tree c) (suffixes_row no_suffixes all))

  pub suffix_tree : Suffix → SuffixTree
  suffix_tree (suffix.Array p) = Array p
  suffix_tree (suffix.ArrayOf' p a e) = ArrayOf p (expr_tree e)
  suffix_tree (suffix.Parameters' p shape all) = Parameters p (parameters_row no_parameters all)

  pub suffixes_row : {m : _} → SuffixTrees → Row_of-Suffix m → SuffixTrees
  suffixes_row xs end_of-Suffix = xs
  suffixes_row xs (more_of-Suffix x rest) = suffixes_row (and_suffix xs (suffix_tree x)) rest

  pub initialiser_tree : Initialiser → InitialiserTree
  initialiser_tree (initialiser.Expression' a e) = Expression (expr_tree e)
  initialiser_tree (initialiser.Braced' p a i shape all b) = Braced p (initialisers_row (first_initialiser (initialiser_tree i)) all) b

  pub initialisers_row : {m : _} → InitialiserTrees → Row_of-Initialiser m → InitialiserTrees
  initialisers_row is end_of-Initialiser = is
  initialisers_row is (more_of-Initialiser i rest) = initialisers_row (and_initialiser is (initialiser_tree i)) rest

  pub declared_tree : Declared → DeclaredTree
  declared_tree (declared.Plain' ps c shape all) = Uninitialised (Declarator ps.items (core_tree c) (suffixes_row no_suffixes all))
  declared_tree (declared.Initialised' ps c shape all p i) = Initialised (Declarator ps.items (core_tree c) (suffixes_row no_suffixes all)) p (initialiser_tree i)

  pub declared_row : {m : _} → DeclaredTrees → Row_of-Declared m → DeclaredTrees
  declared_row ds end_of-Declared = ds
  declared_row ds (more_of-Declared d rest) = declared_row (and_declarator ds (declared_tree d)) rest

  pub declarations_row : {m : _} → DeclarationTrees → Row_of-Declaration m → DeclarationTrees
  declarations_row ds end_of-Declaration = ds
  declarations_row ds (more_of-Declaration a x shape xs shape2 all rest) = declarations_row (and_declaration ds (Declaration (specifiers_row (first_specifier (specifier_tree x)) xs) (declared_row no_declarators all))) rest

abbrev pub exprs_onto : ExprTrees → List Expr → ExprTrees
exprs_onto es [] = es
exprs_onto es (e ∷ rest) = exprs_onto (and_expr es (expr_tree e)) rest

abbrev pub specifiers_onto : SpecifierTrees → List Specifier → SpecifierTrees
specifiers_onto xs [] = xs
specifiers_onto xs (x ∷ rest) = specifiers_onto (and_specifier xs (specifier_tree x)) rest

abbrev pub specifiers_tree : specifiers.Specifiers → SpecifierTrees
specifiers_tree xs = specifiers_onto (first_specifier (specifier_tree xs.first.value)) xs.rest.items

abbrev pub enumerators_onto : EnumeratorTrees → List Enumerator → EnumeratorTrees
enumerators_onto es [] = es
enumerators_onto es (e ∷ rest) = enumerators_onto (and_enumerator es (enumerator_tree e)) rest

abbrev pub enumerators_tree : enumerators.Enumerators → EnumeratorTrees
enumerators_tree es = enumerators_onto (first_enumerator (enumerator_tree es.first.value)) es.rest.items

abbrev pub parameters_onto : ParameterTrees → List Parameter → ParameterTrees
parameters_onto ps [] = ps
parameters_onto ps (p ∷ rest) = parameters_onto (and_parameter ps (parameter_tree p)) rest

abbrev pub suffixes_onto : SuffixTrees → List Suffix → SuffixTrees
suffixes_onto xs [] = xs
suffixes_onto xs (x ∷ rest) = suffixes_onto (and_suffix xs (suffix_tree x)) rest

abbrev pub initialisers_onto : InitialiserTrees → List Initialiser → InitialiserTrees
initialisers_onto is [] = is
initialisers_onto is (i ∷ rest) = initialisers_onto (and_initialiser is (initialiser_tree i)) rest

abbrev pub initialisers_tree : initialisers.Initialisers → InitialiserTrees
initialisers_tree is = initialisers_onto (first_initialiser (initialiser_tree is.first.value)) is.rest.items

abbrev pub declarators_onto : DeclaredTrees → List Declared → DeclaredTrees
declarators_onto ds [] = ds
declarators_onto ds (d ∷ rest) = declarators_onto (and_declarator ds (declared_tree d)) rest

abbrev pub declarator_tree : declarator.Declarator → DeclaratorTree
declarator_tree d = Declarator d.pointers.items (core_tree d.core) (suffixes_onto no_suffixes d.suffixes.items)

abbrev pub declaration_tree : declaration.Declaration → DeclarationTree
declaration_tree d = Declaration (specifiers_tree d.specifiers) (declarators_onto no_declarators d.declarators.items)

abbrev pub declarations_onto : DeclarationTrees → List declaration.Declaration → DeclarationTrees
declarations_onto ds [] = ds
declarations_onto ds (d ∷ rest) = declarations_onto (and_declaration ds (declaration_tree d)) rest

abbrev pub perhaps_tree : Option (Box Expr Allocator) → Option ExprTree
perhaps_tree None = None
perhaps_tree (Some e) = Some (expr_tree e.value)

abbrev pub first_tree : First → FirstTree
first_tree first.Absent = NoFirst
first_tree (first.Expression e) = FirstExpression (expr_tree e.value)
first_tree (first.Declaration d) = FirstDeclaration (declaration_tree d)

abbrev mutual
  pub stmt_tree : Stmt → StmtTree
  stmt_tree (stmt.Declaration d) = Declare (declaration_tree d)
  stmt_tree (stmt.Block' p shape all) = Block p (stmts_row no_stmts all)
  stmt_tree (stmt.Expression e) = Evaluate (expr_tree e.value)
  stmt_tree stmt.Empty = Empty
  stmt_tree (stmt.If' p q e a t shape all) = If (branches_row (first_branch (Branch p q (expr_tree e.value) (stmt_tree t))) all)
  stmt_tree (stmt.IfElse' p q e a t shape all b z) = IfElse (branches_row (first_branch (Branch p q (expr_tree e.value) (stmt_tree t))) all) (stmt_tree z)
  stmt_tree (stmt.While' p q e a t) = While p q (expr_tree e.value) (stmt_tree t)
  stmt_tree (stmt.Switch' p q e a t) = Switch p q (expr_tree e.value) (stmt_tree t)
  stmt_tree (stmt.Do' p a t w q e) = Do p (stmt_tree t) w q (expr_tree e.value)
  stmt_tree (stmt.For' p q f c e a t) = For p q (first_tree f) (perhaps_tree c) (perhaps_tree e) (stmt_tree t)
  stmt_tree (stmt.Case' p e a t) = Case p (expr_tree e.value) (stmt_tree t)
  stmt_tree (stmt.Default' p a t) = Default p (stmt_tree t)
  stmt_tree (stmt.Label' n p a t) = Label n p (stmt_tree t)
  stmt_tree (stmt.Break p) = Break p
  stmt_tree (stmt.Continue p) = Continue p
  stmt_tree (stmt.Return p) = Return p
  stmt_tree (stmt.ReturnValue p e) = ReturnValue p (expr_tree e.value)

  pub stmts_row : {m : _} → StmtTrees → Row_of-Stmt m → StmtTrees
  stmts_row ss end_of-Stmt = ss
  stmts_row ss (more_of-Stmt t rest) = stmts_row (and_stmt ss (stmt_tree t)) rest

  pub branches_row : {m : _} → BranchTrees → Row_of-Branch m → BranchTrees
  branches_row bs end_of-Branch = bs
  branches_row bs (more_of-Branch p q e a t rest) = branches_row (and_branch bs (Branch p q (expr_tree e.value) (stmt_tree t))) rest

abbrev pub stmts_onto : StmtTrees → List Stmt → StmtTrees
stmts_onto ss [] = ss
stmts_onto ss (t ∷ rest) = stmts_onto (and_stmt ss (stmt_tree t)) rest

abbrev pub branch_tree : branch.Branch → BranchTree
branch_tree b = Branch b.place b.open (expr_tree b.condition.value) (stmt_tree b.body.value)

abbrev pub branches_onto : BranchTrees → List branch.Branch → BranchTrees
branches_onto bs [] = bs
branches_onto bs (b ∷ rest) = branches_onto (and_branch bs (branch_tree b)) rest

abbrev pub branches_tree : branch.Branch → List branch.Branch → BranchTrees
branches_tree b bs = branches_onto (first_branch (branch_tree b)) bs

abbrev pub external_tree : External → ExternalTree
external_tree external.Empty = Nothing
external_tree (external.Declaration d) = Global (declaration_tree d)
external_tree (external.Typedef p d) = Typedef p (declaration_tree d)
external_tree (external.Function xs d p ss) = Function (specifiers_tree xs) (declarator_tree d) p (stmts_onto no_stmts ss.items)

abbrev pub unit_tree : unit.Unit → UnitTree
unit_tree u = record { externals = map external_tree u.externals; constants = u.constants; names = u.names }
