-- The small form of C: which trees of the whole grammar are of it, and what the tree of such a text is. Each line is a form; every
-- other tree has none.
use Rattle.std.specs.Prelude.{Bool, true, false, ◌&&◌, if◌then◌else◌, List, [], ◌∷◌, Option, Some, None, option_map}
use Rattle.l2_syntax.specs.declared.place.Place.{Place}
use Rattle.l2_syntax.specs.declared.token.Name.{Name as NameText}
use Rattle.l2_syntax.specs.declared.token.Token.{Token}
use Rattle.l2_syntax.specs.declared.token.Scalar.{Scalar}
use Rattle.l2_syntax.specs.declared.token.Scalar.TheVariants as scalar
use Rattle.l2_runs.specs.declared.operators.UnaryOperator as to_unary
use Rattle.l2_runs.specs.declared.operators.UnaryOperator.TheVariants.{Negate, Not}
use Rattle.l2_runs.specs.declared.operators.BinaryOperator as to_binary
use Rattle.l2_runs.specs.declared.operators.BinaryOperator.TheVariants.{Multiply, Add, Subtract, Less, LessEqual, Greater, GreaterEqual, Equal, NotEqual}
use Rattle.l2_tree.specs.declared.operators.UnaryOperator.{UnaryOperator}
use Rattle.l2_tree.specs.declared.operators.UnaryOperator.TheVariants as unary
use Rattle.l2_tree.specs.declared.operators.BinaryOperator.{BinaryOperator}
use Rattle.l2_tree.specs.declared.operators.BinaryOperator.TheVariants as binary
use Rattle.l2_tree.specs.declared.operators.AssignmentOperator.{AssignmentOperator}
use Rattle.l2_tree.specs.declared.operators.AssignmentOperator.TheVariants as assignment
use Rattle.l2_tree.specs.declared.operators.SpecifierWord.{SpecifierWord}
use Rattle.l2_tree.specs.declared.operators.SpecifierWord.TheVariants as word
use Rattle.l2_tree.specs.Trees as specifier
use Rattle.l2_tree.specs.Trees.{ExprTree, Name, Number, Parenthesised, Unary, Binary, Call, Assign, ExprTrees, no_exprs, and_expr, SpecifierTrees, first_specifier, ParameterTrees, Bare, no_parameters, and_parameter, DeclaratorTree, Declarator, Named, SuffixTrees, Parameters, no_suffixes, and_suffix, InitialiserTree, Expression, DeclaredTree, Uninitialised, Initialised, DeclaredTrees, no_declarators, and_declarator, DeclarationTree, Declaration, StmtTree, Declare, Block, Evaluate, If, IfElse, While, ReturnValue, StmtTrees, no_stmts, and_stmt, BranchTrees, Branch, first_branch, ExternalTree, Function, UnitTree}
use Rattle.l2_small.specs.SmallTrees as small
use Rattle.l2_small.specs.SmallTrees.{SmallExprTree, SmallStmtTree, SmallStmtTrees, SmallUnitTree}
use Rattle.l2_small.specs.declared.words.Word.{Word}
use Rattle.l2_small.specs.Words.{is_main, is_assert, is_nondet_int, is_variable}

-- goes on where there is something
abbrev pub and_then : {A B : Type 0} → Option A → (A → Option B) → Option B
and_then None f = None
and_then (Some a) f = f a

-- ---- expressions

abbrev pub small_unary : UnaryOperator → Option to_unary.UnaryOperator
small_unary unary.Negate = Some Negate
small_unary unary.Not = Some Not
small_unary o = None

abbrev pub small_binary : BinaryOperator → Option to_binary.BinaryOperator
small_binary binary.Multiply = Some Multiply
small_binary binary.Add = Some Add
small_binary binary.Subtract = Some Subtract
small_binary binary.Less = Some Less
small_binary binary.LessEqual = Some LessEqual
small_binary binary.Greater = Some Greater
small_binary binary.GreaterEqual = Some GreaterEqual
small_binary binary.Equal = Some Equal
small_binary binary.NotEqual = Some NotEqual
small_binary o = None

abbrev pub is_int_constant : Scalar → Bool
is_int_constant scalar.Int = true
is_int_constant y = false

-- the word that an expression is, if it is a name
abbrev pub word_of : ExprTree → Option Word
word_of (Name n p) = Some (record { name = n; place = p })
word_of e = None

-- `__VERIFIER_nondet_int ( )`
abbrev pub small_choice : List NameText → Option Word → ExprTrees → Option SmallExprTree
small_choice names (Some w) no_exprs = if is_nondet_int names w.name then Some (small.Choice w.place) else None
small_choice names w es = None

abbrev pub small_expr : List NameText → ExprTree → Option SmallExprTree
small_expr names (Name n p) = if is_variable names n then Some (small.Name n p) else None
small_expr names (Number v y p) = if is_int_constant y then Some (small.Number v) else None
small_expr names (Call f p es) = small_choice names (word_of f) es
small_expr names (Parenthesised p e) = option_map small.Parenthesised (small_expr names e)
small_expr names (Unary o p e) = and_then (small_unary o) (λ s. option_map (small.Unary s) (small_expr names e))
small_expr names (Binary a o p b) = and_then (small_binary o) (λ s. and_then (small_expr names a) (λ x. option_map (small.Binary s x) (small_expr names b)))
small_expr names e = None

-- ---- declarations

-- the word that specifiers are, if they are one word alone
abbrev pub word_alone : SpecifierTrees → Option SpecifierWord
word_alone (first_specifier (specifier.Word w p)) = Some w
word_alone xs = None

abbrev pub is_int : Option SpecifierWord → Bool
is_int (Some word.Int) = true
is_int w = false

abbrev pub is_void : Option SpecifierWord → Bool
is_void (Some word.Void) = true
is_void w = false

-- the name that a declarator is, if it is a name alone
abbrev pub name_alone : DeclaratorTree → Option Word
name_alone (Declarator [] (Named n p) no_suffixes) = Some (record { name = n; place = p })
name_alone d = None

-- `NAME`
abbrev pub small_declare : List NameText → Option Word → Option SmallStmtTree
small_declare names (Some w) = if is_variable names w.name then Some (small.Declare w.name w.place) else None
small_declare names None = None

-- `NAME = e`
abbrev pub small_initialise : List NameText → Option Word → InitialiserTree → Option SmallStmtTree
small_initialise names (Some w) (Expression e) = if is_variable names w.name then option_map (small.Initialise w.name w.place) (small_expr names e) else None
small_initialise names w i = None

abbrev pub small_declared : List NameText → DeclaredTree → Option SmallStmtTree
small_declared names (Uninitialised d) = small_declare names (name_alone d)
small_declared names (Initialised d p i) = small_initialise names (name_alone d) i

-- `int NAME ;` and `int NAME = e ;`
abbrev pub small_declaration : List NameText → DeclarationTree → Option SmallStmtTree
small_declaration names (Declaration xs (and_declarator no_declarators d)) = if is_int (word_alone xs) then small_declared names d else None
small_declaration names d = None

-- ---- statements

-- whether an assignment is by `=`
abbrev pub is_plain : AssignmentOperator → Bool
is_plain assignment.Assign = true
is_plain o = false

-- `NAME = e ;`
abbrev pub small_assign : List NameText → Option Word → AssignmentOperator → ExprTree → Option SmallStmtTree
small_assign names (Some w) o e = if is_plain o && is_variable names w.name then option_map (small.Assign w.name w.place) (small_expr names e) else None
small_assign names None o e = None

-- `assert ( e ) ;`
abbrev pub small_assert : List NameText → Option Word → ExprTrees → Option SmallStmtTree
small_assert names (Some w) (and_expr no_exprs e) = if is_assert names w.name then option_map (small.Assert w.place) (small_expr names e) else None
small_assert names w es = None

abbrev pub small_effect : List NameText → ExprTree → Option SmallStmtTree
small_effect names (Assign a o p e) = small_assign names (word_of a) o e
small_effect names (Call f p es) = small_assert names (word_of f) es
small_effect names e = None

-- what an `if` tests, and its block
pub record SmallBranchTree : Type 0 where
  pub test : SmallExprTree
  pub body : SmallStmtTree

abbrev pub branch_with : SmallExprTree → SmallStmtTree → SmallBranchTree
branch_with x b = record { test = x; body = b }

abbrev mutual
  pub small_stmt : List NameText → StmtTree → Option SmallStmtTree
  small_stmt names (Declare d) = small_declaration names d
  small_stmt names (Evaluate e) = small_effect names e
  small_stmt names (If bs) = option_map (λ b. small.If b.test b.body) (small_branch names bs)
  small_stmt names (IfElse bs t) = and_then (small_branch names bs) (λ b. option_map (small.IfElse b.test b.body) (small_block names t))
  small_stmt names (While p q e s) = and_then (small_expr names e) (λ x. option_map (small.While p x) (small_block names s))
  small_stmt names (ReturnValue p e) = option_map small.Return (small_expr names e)
  small_stmt names s = None

  -- `if ( e ) block`, and no `else if` behind it
  pub small_branch : List NameText → BranchTrees → Option SmallBranchTree
  small_branch names (first_branch (Branch p q e s)) = and_then (small_expr names e) (λ x. option_map (branch_with x) (small_block names s))
  small_branch names bs = None

  -- `{ items }`
  pub small_block : List NameText → StmtTree → Option SmallStmtTree
  small_block names (Block p items) = option_map small.Block (small_stmts names items)
  small_block names s = None

  pub small_stmts : List NameText → StmtTrees → Option SmallStmtTrees
  small_stmts names no_stmts = Some small.none
  small_stmts names (and_stmt items s) = and_then (small_stmts names items) (λ all. option_map (small.also all) (small_stmt names s))

-- ---- units

-- `void`
abbrev pub is_nothing : ParameterTrees → Bool
is_nothing (and_parameter no_parameters (Bare xs)) = is_void (word_alone xs)
is_nothing ps = false

-- `( void )`
abbrev pub takes_nothing : SuffixTrees → Bool
takes_nothing (and_suffix no_suffixes (Parameters p ps)) = is_nothing ps
takes_nothing xs = false

-- `main ( void )`: where the name stands
abbrev pub main_place : List NameText → DeclaratorTree → Option Place
main_place names (Declarator [] (Named n p) xs) = if is_main names n && takes_nothing xs then Some p else None
main_place names d = None

-- where the name `main` stands, and the items of its body
pub record MainTree : Type 0 where
  pub main : Place
  pub items : SmallStmtTrees

abbrev pub main_tree : Place → SmallStmtTrees → MainTree
main_tree p items = record { main = p; items = items }

-- `main ( void ) { items }`
abbrev pub main_with : List NameText → DeclaratorTree → StmtTrees → Option MainTree
main_with names d items = and_then (main_place names d) (λ p. option_map (main_tree p) (small_stmts names items))

-- `int main ( void ) { items }`
abbrev pub small_external : List NameText → ExternalTree → Option MainTree
small_external names (Function xs d p items) = if is_int (word_alone xs) then main_with names d items else None
small_external names x = None

abbrev pub small_externals : List NameText → List ExternalTree → Option MainTree
small_externals names (x ∷ []) = small_external names x
small_externals names xs = None

abbrev pub unit_with : List NameText → List Token → MainTree → SmallUnitTree
unit_with names constants m = record { main = m.main; items = m.items; names = names; constants = constants }

abbrev pub small_of : UnitTree → Option SmallUnitTree
small_of u = option_map (unit_with u.names u.constants) (small_externals u.names u.externals)
