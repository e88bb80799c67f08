-- Texts as they are spelt, as definitions speak of them: trees without addresses.
use Rattle.std.specs.Prelude.{ℕ, ℤ, Bool, List, Option}
use Rattle.l2_syntax.specs.declared.place.Place.{Place}
use Rattle.l2_syntax.specs.declared.token.Scalar.{Scalar}
use Rattle.l2_syntax.specs.declared.token.Token.{Token}
use Rattle.l2_syntax.specs.declared.token.Name.{Name as NameText}
use Rattle.l2_tree.specs.declared.operators.UnaryOperator.{UnaryOperator}
use Rattle.l2_tree.specs.declared.operators.UpdateOperator.{UpdateOperator}
use Rattle.l2_tree.specs.declared.operators.MemberOperator.{MemberOperator}
use Rattle.l2_tree.specs.declared.operators.BinaryOperator.{BinaryOperator}
use Rattle.l2_tree.specs.declared.operators.AssignmentOperator.{AssignmentOperator}
use Rattle.l2_tree.specs.declared.operators.SpecifierWord.{SpecifierWord}
use Rattle.l2_tree.specs.declared.expression.Tag.{Tag}
use Rattle.l2_tree.specs.declared.expression.Pointer.{Pointer}

-- expressions, types and declarations; lists grow at their end, as a reader makes them
mutual
  pub data ExprTree : Type 0 where
    Name : ℕ → Place → ExprTree
    Number : ℤ → Scalar → Place → ExprTree
    Text : Place → ExprTree
    Parenthesised : Place → ExprTree → ExprTree
    Index : ExprTree → Place → ExprTree → ExprTree
    Call : ExprTree → Place → ExprTrees → ExprTree
    Member : ExprTree → MemberOperator → Place → ℕ → Place → ExprTree
    PostUpdate : ExprTree → UpdateOperator → Place → ExprTree
    Update : UpdateOperator → Place → ExprTree → ExprTree
    Unary : UnaryOperator → Place → ExprTree → ExprTree
    Sizeof : Place → ExprTree → ExprTree
    SizeofType : Place → Place → ParameterTree → ExprTree
    Cast : Place → ParameterTree → ExprTree → ExprTree
    Binary : ExprTree → BinaryOperator → Place → ExprTree → ExprTree
    Conditional : ExprTree → Place → ExprTree → ExprTree → ExprTree
    Assign : ExprTree → AssignmentOperator → Place → ExprTree → ExprTree
    Comma : ExprTree → ExprTree → ExprTree

  pub data ExprTrees : Type 0 where
    no_exprs : ExprTrees
    and_expr : ExprTrees → ExprTree → ExprTrees

  pub data SpecifierTree : Type 0 where
    Word : SpecifierWord → Place → SpecifierTree
    TypeName : ℕ → Place → SpecifierTree
    Struct : Place → Tag → SpecifierTree
    StructBody : Place → Option Tag → Place → DeclarationTrees → SpecifierTree
    Enum : Place → Tag → SpecifierTree
    -- whether a comma stands behind the last enumerator
    EnumBody : Place → Option Tag → Place → EnumeratorTrees → Bool → SpecifierTree

  pub data SpecifierTrees : Type 0 where
    first_specifier : SpecifierTree → SpecifierTrees
    and_specifier : SpecifierTrees → SpecifierTree → SpecifierTrees

  pub data EnumeratorTree : Type 0 where
    Plain : ℕ → Place → EnumeratorTree
    Valued : ℕ → Place → Place → ExprTree → EnumeratorTree

  pub data EnumeratorTrees : Type 0 where
    first_enumerator : EnumeratorTree → EnumeratorTrees
    and_enumerator : EnumeratorTrees → EnumeratorTree → EnumeratorTrees

  pub data ParameterTree : Type 0 where
    Bare : SpecifierTrees → ParameterTree
    Declared : SpecifierTrees → DeclaratorTree → ParameterTree

  pub data ParameterTrees : Type 0 where
    no_parameters : ParameterTrees
    and_parameter : ParameterTrees → ParameterTree → ParameterTrees

  pub data DeclaratorTree : Type 0 where
    Declarator : List Pointer → CoreTree → SuffixTrees → DeclaratorTree

  pub data CoreTree : Type 0 where
    Absent : CoreTree
    Named : ℕ → Place → CoreTree
    Group : Place → DeclaratorTree → CoreTree

  pub data SuffixTree : Type 0 where
    Array : Place → SuffixTree
    ArrayOf : Place → ExprTree → SuffixTree
    Parameters : Place → ParameterTrees → SuffixTree

  pub data SuffixTrees : Type 0 where
    no_suffixes : SuffixTrees
    and_suffix : SuffixTrees → SuffixTree → SuffixTrees

  pub data InitialiserTree : Type 0 where
    Expression : ExprTree → InitialiserTree
    Braced : Place → InitialiserTrees → Bool → InitialiserTree

  pub data InitialiserTrees : Type 0 where
    first_initialiser : InitialiserTree → InitialiserTrees
    and_initialiser : InitialiserTrees → InitialiserTree → InitialiserTrees

  pub data DeclaredTree : Type 0 where
    Uninitialised : DeclaratorTree → DeclaredTree
    Initialised : DeclaratorTree → Place → InitialiserTree → DeclaredTree

  pub data DeclaredTrees : Type 0 where
    no_declarators : DeclaredTrees
    and_declarator : DeclaredTrees → DeclaredTree → DeclaredTrees

  pub data DeclarationTree : Type 0 where
    Declaration : SpecifierTrees → DeclaredTrees → DeclarationTree

  pub data DeclarationTrees : Type 0 where
    no_declarations : DeclarationTrees
    and_declaration : DeclarationTrees → DeclarationTree → DeclarationTrees

pub data FirstTree : Type 0 where
  NoFirst : FirstTree
  FirstExpression : ExprTree → FirstTree
  FirstDeclaration : DeclarationTree → FirstTree

mutual
  pub data StmtTree : Type 0 where
    Declare : DeclarationTree → StmtTree
    Block : Place → StmtTrees → StmtTree
    Evaluate : ExprTree → StmtTree
    Empty : StmtTree
    If : BranchTrees → StmtTree
    IfElse : BranchTrees → StmtTree → StmtTree
    While : Place → Place → ExprTree → StmtTree → StmtTree
    Switch : Place → Place → ExprTree → StmtTree → StmtTree
    Do : Place → StmtTree → Place → Place → ExprTree → StmtTree
    For : Place → Place → FirstTree → Option ExprTree → Option ExprTree → StmtTree → StmtTree
    Case : Place → ExprTree → StmtTree → StmtTree
    Default : Place → StmtTree → StmtTree
    Label : ℕ → Place → StmtTree → StmtTree
    Break : Place → StmtTree
    Continue : Place → StmtTree
    Return : Place → StmtTree
    ReturnValue : Place → ExprTree → StmtTree

  pub data StmtTrees : Type 0 where
    no_stmts : StmtTrees
    and_stmt : StmtTrees → StmtTree → StmtTrees

  -- `if ( e ) s`, with the places of `if` and of the bracket
  pub data BranchTree : Type 0 where
    Branch : Place → Place → ExprTree → StmtTree → BranchTree

  pub data BranchTrees : Type 0 where
    first_branch : BranchTree → BranchTrees
    and_branch : BranchTrees → BranchTree → BranchTrees

pub data ExternalTree : Type 0 where
  Nothing : ExternalTree
  Global : DeclarationTree → ExternalTree
  Typedef : Place → DeclarationTree → ExternalTree
  Function : SpecifierTrees → DeclaratorTree → Place → StmtTrees → ExternalTree

-- a whole text: its parts, its constants in their order, and the names that words are numbered by
pub record UnitTree : Type 0 where
  pub externals : List ExternalTree
  pub constants : List Token
  pub names : List NameText
