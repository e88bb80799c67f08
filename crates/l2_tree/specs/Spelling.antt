-- The run of each form: its tokens and the constructs that stand in it, in their order, as the grammar's networks read them.
use Rattle.std.specs.Prelude.{◌≡◌, Bool, true, false, cond, List, [], ◌∷◌, Option, Some, None}
use Rattle.l2_syntax.specs.declared.place.Place.{Place}
use Rattle.l2_syntax.specs.declared.token.Mark.{Mark}
use Rattle.l2_syntax.specs.declared.token.Mark.TheVariants as mark
use Rattle.l2_syntax.specs.declared.token.TokenKind.{TokenKind}
use Rattle.l2_syntax.specs.declared.token.TokenKind.TheVariants as kind
use Rattle.l2_grammar.specs.declared.states.Sort.{Sort}
use Rattle.l2_grammar.specs.declared.states.Sort.TheVariants as sort
use Rattle.l2_grammar.specs.Nesting.{opens}
use Rattle.l2_grammar.specs.Trees.{Seen, Tree, begin, token, child, sort as sort_of, state}
use Rattle.l2_tree.specs.declared.operators.UnaryOperator.{UnaryOperator}
use Rattle.l2_tree.specs.declared.operators.UnaryOperator.TheVariants as unary
use Rattle.l2_tree.specs.declared.operators.UpdateOperator.{UpdateOperator}
use Rattle.l2_tree.specs.declared.operators.UpdateOperator.TheVariants as update
use Rattle.l2_tree.specs.declared.operators.MemberOperator.{MemberOperator}
use Rattle.l2_tree.specs.declared.operators.MemberOperator.TheVariants as member
use Rattle.l2_tree.specs.declared.operators.BinaryOperator.{BinaryOperator}
use Rattle.l2_tree.specs.declared.operators.BinaryOperator.TheVariants as binary
use Rattle.l2_tree.specs.declared.operators.AssignmentOperator.{AssignmentOperator}
use Rattle.l2_tree.specs.declared.operators.AssignmentOperator.TheVariants as assignment
use Rattle.l2_tree.specs.declared.operators.SpecifierWord.{SpecifierWord}
use Rattle.l2_tree.specs.declared.operators.SpecifierWord.TheVariants as word
use Rattle.l2_tree.specs.declared.expression.Tag.{Tag}
use Rattle.l2_tree.specs.declared.expression.Pointer.{Pointer}
use Rattle.l2_tree.specs.declared.expression.Pointer.TheVariants as pointer
use Rattle.l2_tree.specs.Trees.{ExprTree, Name, Number, Text, Parenthesised, Index, Call, Member, PostUpdate, Update, Unary, Sizeof, SizeofType, Cast, Binary, Conditional, Assign, Comma, ExprTrees, no_exprs, and_expr, SpecifierTree, Word, TypeName, Struct, StructBody, Enum, EnumBody, SpecifierTrees, first_specifier, and_specifier, EnumeratorTree, Plain, Valued, EnumeratorTrees, first_enumerator, and_enumerator, ParameterTree, Bare, Declared, ParameterTrees, no_parameters, and_parameter, DeclaratorTree, Declarator, CoreTree, Absent, Named, Group, SuffixTree, Array, ArrayOf, Parameters, SuffixTrees, no_suffixes, and_suffix, InitialiserTree, Expression, Braced, InitialiserTrees, first_initialiser, and_initialiser, DeclaredTree, Uninitialised, Initialised, DeclaredTrees, no_declarators, and_declarator, DeclarationTree, Declaration, DeclarationTrees, no_declarations, and_declaration, FirstTree, NoFirst, FirstExpression, FirstDeclaration, StmtTree, Declare, Block, Evaluate, Empty, If, IfElse, While, Switch, Do, For, Case, Default, Label, Break, Continue, Return, ReturnValue, StmtTrees, no_stmts, and_stmt, BranchTree, Branch, BranchTrees, first_branch, and_branch, ExternalTree, Nothing, Global, Typedef, Function}

-- ---- tokens

-- where a tree keeps no place of a token
abbrev pub nowhere : Place
nowhere = record { offset = 0; line = 0; col = 0 }

-- a tree keeps no place of closing brackets, commas, colons, semicolons, `else` and the end
abbrev pub is_placed : TokenKind → Bool
is_placed (kind.Mark mark.CloseParenthesis) = false
is_placed (kind.Mark mark.CloseBracket) = false
is_placed (kind.Mark mark.CloseBrace) = false
is_placed (kind.Mark mark.Comma) = false
is_placed (kind.Mark mark.Colon) = false
is_placed (kind.Mark mark.Semicolon) = false
is_placed (kind.Mark mark.Else) = false
is_placed kind.End = false
is_placed k = true

-- a token as a tree keeps it
abbrev pub plain : Seen → Seen
plain t = record { kind = t.kind; at = cond (is_placed t.kind) t.at nowhere }

-- each token of a tree is as trees keep it
abbrev pub Keeps : Tree → Type 0
Keeps (begin s) = Unit {0}
Keeps (token a t) = Keeps a × (plain t ≡ t)
Keeps (child a b) = Keeps a × Keeps b

-- behind this token, at its place
abbrev pub behind : Tree → TokenKind → Place → Tree
behind r k p = token r (record { kind = k; at = p })

abbrev pub mark_at : Tree → Mark → Place → Tree
mark_at r m p = behind r (kind.Mark m) p

-- behind a mark whose place isn't kept
abbrev pub closed : Tree → Mark → Tree
closed r m = behind r (kind.Mark m) nowhere

-- behind a construct of the sort that may stand there
abbrev pub within : Tree → (Sort → Tree) → Tree
within r f = child r (f (opens (sort_of r) (state r)))

-- a construct in parentheses
abbrev pub bracketed : Tree → Place → (Sort → Tree) → Tree
bracketed r p f = closed (within (mark_at r mark.OpenParenthesis p) f) mark.CloseParenthesis

abbrev pub unary_mark : UnaryOperator → Mark
unary_mark unary.Address = mark.Ampersand
unary_mark unary.Dereference = mark.Star
unary_mark unary.Plus = mark.Plus
unary_mark unary.Negate = mark.Minus
unary_mark unary.Complement = mark.Tilde
unary_mark unary.Not = mark.Exclamation

abbrev pub update_mark : UpdateOperator → Mark
update_mark update.Increment = mark.PlusPlus
update_mark update.Decrement = mark.MinusMinus

abbrev pub member_mark : MemberOperator → Mark
member_mark member.Dot = mark.Dot
member_mark member.Arrow = mark.Arrow

abbrev pub binary_mark : BinaryOperator → Mark
binary_mark binary.Multiply = mark.Star
binary_mark binary.Divide = mark.Slash
binary_mark binary.Remainder = mark.Percent
binary_mark binary.Add = mark.Plus
binary_mark binary.Subtract = mark.Minus
binary_mark binary.ShiftLeft = mark.ShiftLeft
binary_mark binary.ShiftRight = mark.ShiftRight
binary_mark binary.Less = mark.Less
binary_mark binary.Greater = mark.Greater
binary_mark binary.LessEqual = mark.LessEqual
binary_mark binary.GreaterEqual = mark.GreaterEqual
binary_mark binary.Equal = mark.EqualEqual
binary_mark binary.NotEqual = mark.NotEqual
binary_mark binary.BitAnd = mark.Ampersand
binary_mark binary.BitXor = mark.Caret
binary_mark binary.BitOr = mark.Bar
binary_mark binary.And = mark.AndAnd
binary_mark binary.Or = mark.OrOr

abbrev pub assignment_mark : AssignmentOperator → Mark
assignment_mark assignment.Assign = mark.Equal
assignment_mark assignment.Multiply = mark.StarEqual
assignment_mark assignment.Divide = mark.SlashEqual
assignment_mark assignment.Remainder = mark.PercentEqual
assignment_mark assignment.Add = mark.PlusEqual
assignment_mark assignment.Subtract = mark.MinusEqual
assignment_mark assignment.ShiftLeft = mark.ShiftLeftEqual
assignment_mark assignment.ShiftRight = mark.ShiftRightEqual
assignment_mark assignment.BitAnd = mark.AmpersandEqual
assignment_mark assignment.BitXor = mark.CaretEqual
assignment_mark assignment.BitOr = mark.BarEqual

abbrev pub word_mark : SpecifierWord → Mark
word_mark word.Static = mark.Static
word_mark word.Extern = mark.Extern
word_mark word.Const = mark.Const
word_mark word.Signed = mark.Signed
word_mark word.Unsigned = mark.Unsigned
word_mark word.Bool = mark.Bool
word_mark word.Char = mark.Char
word_mark word.Short = mark.Short
word_mark word.Int = mark.Int
word_mark word.Long = mark.Long
word_mark word.Void = mark.Void

abbrev pub tag_onto : Tree → Option Tag → Tree
tag_onto r None = r
tag_onto r (Some t) = behind r (kind.Word t.name) t.place

-- whether a list has an element already, so that a comma stands before the next
abbrev pub has_arguments : ExprTrees → Bool
has_arguments no_exprs = false
has_arguments (and_expr xs x) = true

abbrev pub has_parameters : ParameterTrees → Bool
has_parameters no_parameters = false
has_parameters (and_parameter xs x) = true

abbrev pub has_declarators : DeclaredTrees → Bool
has_declarators no_declarators = false
has_declarators (and_declarator xs x) = true

-- a comma, if there is one
abbrev pub comma_if : Bool → Tree → Tree
comma_if b r = cond b (closed r mark.Comma) r

abbrev pub pointer_onto : Tree → Pointer → Tree
pointer_onto r (pointer.Plain p) = mark_at r mark.Star p
pointer_onto r (pointer.Const p q) = mark_at (mark_at r mark.Star p) mark.Const q

abbrev pub pointers_onto : Tree → List Pointer → Tree
pointers_onto r [] = r
pointers_onto r (p ∷ ps) = pointers_onto (pointer_onto r p) ps

-- ---- expressions, types and declarations

abbrev mutual
  -- an expression that stands where this sort may
  pub run_expr : Sort → ExprTree → Tree
  run_expr s (Name n p) = behind (begin s) (kind.Word n) p
  run_expr s (Number v y p) = behind (begin s) (kind.Number v y) p
  run_expr s (Text p) = behind (begin s) kind.Text p
  run_expr s (Parenthesised p e) = bracketed (begin s) p (λ z. run_expr z e)
  run_expr s (Index a p i) = closed (within (mark_at (run_expr s a) mark.OpenBracket p) (λ z. run_expr z i)) mark.CloseBracket
  run_expr s (Call f p es) = closed (arguments_onto (mark_at (run_expr s f) mark.OpenParenthesis p) es) mark.CloseParenthesis
  run_expr s (Member a o p n q) = behind (mark_at (run_expr s a) (member_mark o) p) (kind.Word n) q
  run_expr s (PostUpdate a o p) = mark_at (run_expr s a) (update_mark o) p
  run_expr s (Update o p a) = within (mark_at (begin s) (update_mark o) p) (λ z. run_expr z a)
  run_expr s (Unary o p a) = within (mark_at (begin s) (unary_mark o) p) (λ z. run_expr z a)
  run_expr s (Sizeof p a) = within (mark_at (begin s) mark.Sizeof p) (λ z. run_expr z a)
  run_expr s (SizeofType p q t) = within (mark_at (begin s) mark.Sizeof p) (λ z. bracketed (begin z) q (λ y. run_parameter y t))
  run_expr s (Cast p t a) = within (bracketed (begin s) p (λ z. run_parameter z t)) (λ z. run_expr z a)
  run_expr s (Binary a o p b) = within (mark_at (run_expr s a) (binary_mark o) p) (λ z. run_expr z b)
  run_expr s (Conditional a p b c) = within (closed (within (mark_at (run_expr s a) mark.Question p) (λ z. run_expr z b)) mark.Colon) (λ z. run_expr z c)
  run_expr s (Assign a o p b) = within (mark_at (run_expr s a) (assignment_mark o) p) (λ z. run_expr z b)
  run_expr s (Comma a b) = within (closed (run_expr s a) mark.Comma) (λ z. run_expr z b)

  -- expressions, with commas between them
  pub arguments_onto : Tree → ExprTrees → Tree
  arguments_onto r no_exprs = r
  arguments_onto r (and_expr es e) = within (comma_if (has_arguments es) (arguments_onto r es)) (λ z. run_expr z e)

  pub specifier_onto : Tree → SpecifierTree → Tree
  specifier_onto r (Word w p) = mark_at r (word_mark w) p
  specifier_onto r (TypeName n p) = behind r (kind.TypeName n) p
  specifier_onto r (Struct p t) = tag_onto (mark_at r mark.Struct p) (Some t)
  specifier_onto r (StructBody p t q ds) = closed (members_onto (mark_at (tag_onto (mark_at r mark.Struct p) t) mark.OpenBrace q) ds) mark.CloseBrace
  specifier_onto r (Enum p t) = tag_onto (mark_at r mark.Enum p) (Some t)
  specifier_onto r (EnumBody p t q es b) = closed (comma_if b (enumerators_onto (mark_at (tag_onto (mark_at r mark.Enum p) t) mark.OpenBrace q) es)) mark.CloseBrace

  pub specifiers_onto : Tree → SpecifierTrees → Tree
  specifiers_onto r (first_specifier x) = specifier_onto r x
  specifiers_onto r (and_specifier xs x) = specifier_onto (specifiers_onto r xs) x

  pub members_onto : Tree → DeclarationTrees → Tree
  members_onto r no_declarations = r
  members_onto r (and_declaration ds d) = within (members_onto r ds) (λ z. declaration_onto (begin z) d)

  pub enumerator_onto : Tree → EnumeratorTree → Tree
  enumerator_onto r (Plain n p) = behind r (kind.Word n) p
  enumerator_onto r (Valued n p q e) = within (mark_at (behind r (kind.Word n) p) mark.Equal q) (λ z. run_expr z e)

  -- enumerators, with commas between them
  pub enumerators_onto : Tree → EnumeratorTrees → Tree
  enumerators_onto r (first_enumerator e) = enumerator_onto r e
  enumerators_onto r (and_enumerator es e) = enumerator_onto (closed (enumerators_onto r es) mark.Comma) e

  pub run_parameter : Sort → ParameterTree → Tree
  run_parameter s (Bare xs) = specifiers_onto (begin s) xs
  run_parameter s (Declared xs d) = within (specifiers_onto (begin s) xs) (λ z. run_declarator z d)

  -- parameters, with commas between them
  pub parameters_onto : Tree → ParameterTrees → Tree
  parameters_onto r no_parameters = r
  parameters_onto r (and_parameter ps p) = within (comma_if (has_parameters ps) (parameters_onto r ps)) (λ z. run_parameter z p)

  pub run_declarator : Sort → DeclaratorTree → Tree
  run_declarator s (Declarator ps c xs) = suffixes_onto (core_onto (pointers_onto (begin s) ps) c) xs

  pub core_onto : Tree → CoreTree → Tree
  core_onto r Absent = r
  core_onto r (Named n p) = behind r (kind.Word n) p
  core_onto r (Group p d) = bracketed r p (λ z. run_declarator z d)

  pub suffix_onto : Tree → SuffixTree → Tree
  suffix_onto r (Array p) = closed (mark_at r mark.OpenBracket p) mark.CloseBracket
  suffix_onto r (ArrayOf p e) = closed (within (mark_at r mark.OpenBracket p) (λ z. run_expr z e)) mark.CloseBracket
  suffix_onto r (Parameters p ps) = closed (parameters_onto (mark_at r mark.OpenParenthesis p) ps) mark.CloseParenthesis

  pub suffixes_onto : Tree → SuffixTrees → Tree
  suffixes_onto r no_suffixes = r
  suffixes_onto r (and_suffix xs x) = suffix_onto (suffixes_onto r xs) x

  pub run_initialiser : Sort → InitialiserTree → Tree
  run_initialiser s (Expression e) = run_expr s e
  run_initialiser s (Braced p is b) = closed (comma_if b (initialisers_onto (mark_at (begin s) mark.OpenBrace p) is)) mark.CloseBrace

  -- initialisers, with commas between them
  pub initialisers_onto : Tree → InitialiserTrees → Tree
  initialisers_onto r (first_initialiser i) = within r (λ z. run_initialiser z i)
  initialisers_onto r (and_initialiser is i) = within (closed (initialisers_onto r is) mark.Comma) (λ z. run_initialiser z i)

  pub declared_onto : Tree → DeclaredTree → Tree
  declared_onto r (Uninitialised d) = within r (λ z. run_declarator z d)
  declared_onto r (Initialised d p i) = within (mark_at (within r (λ z. run_declarator z d)) mark.Equal p) (λ z. run_initialiser z i)

  -- declarators, with commas between them
  pub declarators_onto : Tree → DeclaredTrees → Tree
  declarators_onto r no_declarators = r
  declarators_onto r (and_declarator ds d) = declared_onto (comma_if (has_declarators ds) (declarators_onto r ds)) d

  pub declaration_onto : Tree → DeclarationTree → Tree
  declaration_onto r (Declaration xs ds) = closed (declarators_onto (specifiers_onto r xs) ds) mark.Semicolon

-- ---- statements and units

abbrev pub run_declaration : Sort → DeclarationTree → Tree
run_declaration s d = declaration_onto (begin s) d

abbrev pub perhaps : Tree → Option ExprTree → Tree
perhaps r None = r
perhaps r (Some e) = within r (λ z. run_expr z e)

-- the first part of a `for`, up to its semicolon
abbrev pub first_onto : Tree → FirstTree → Tree
first_onto r NoFirst = closed r mark.Semicolon
first_onto r (FirstExpression e) = closed (within r (λ z. run_expr z e)) mark.Semicolon
first_onto r (FirstDeclaration d) = within r (λ z. run_declaration z d)

-- `( e )` behind a word
abbrev pub head_onto : Tree → Place → ExprTree → Tree
head_onto r p e = bracketed r p (λ z. run_expr z e)

abbrev mutual
  pub run_stmt : Sort → StmtTree → Tree
  run_stmt s (Declare d) = run_declaration s d
  run_stmt s (Block p ss) = closed (stmts_onto (mark_at (begin s) mark.OpenBrace p) ss) mark.CloseBrace
  run_stmt s (Evaluate e) = closed (run_expr s e) mark.Semicolon
  run_stmt s Empty = closed (begin s) mark.Semicolon
  run_stmt s (If bs) = branches_onto (begin s) bs
  run_stmt s (IfElse bs t) = within (closed (branches_onto (begin s) bs) mark.Else) (λ z. run_stmt z t)
  run_stmt s (While p q e t) = within (head_onto (mark_at (begin s) mark.While p) q e) (λ z. run_stmt z t)
  run_stmt s (Switch p q e t) = within (head_onto (mark_at (begin s) mark.Switch p) q e) (λ z. run_stmt z t)
  run_stmt s (Do p t w q e) = closed (head_onto (mark_at (within (mark_at (begin s) mark.Do p) (λ z. run_stmt z t)) mark.While w) q e) mark.Semicolon
  run_stmt s (For p q a c e t) = within (closed (perhaps (closed (perhaps (first_onto (mark_at (mark_at (begin s) mark.For p) mark.OpenParenthesis q) a) c) mark.Semicolon) e) mark.CloseParenthesis) (λ z. run_stmt z t)
  run_stmt s (Case p e t) = within (closed (within (mark_at (begin s) mark.Case p) (λ z. run_expr z e)) mark.Colon) (λ z. run_stmt z t)
  run_stmt s (Default p t) = within (closed (mark_at (begin s) mark.Default p) mark.Colon) (λ z. run_stmt z t)
  run_stmt s (Label n p t) = within (closed (behind (begin s) (kind.Word n) p) mark.Colon) (λ z. run_stmt z t)
  run_stmt s (Break p) = closed (mark_at (begin s) mark.Break p) mark.Semicolon
  run_stmt s (Continue p) = closed (mark_at (begin s) mark.Continue p) mark.Semicolon
  run_stmt s (Return p) = closed (mark_at (begin s) mark.Return p) mark.Semicolon
  run_stmt s (ReturnValue p e) = closed (within (mark_at (begin s) mark.Return p) (λ z. run_expr z e)) mark.Semicolon

  pub stmts_onto : Tree → StmtTrees → Tree
  stmts_onto r no_stmts = r
  stmts_onto r (and_stmt ss t) = within (stmts_onto r ss) (λ z. run_stmt z t)

  pub branch_onto : Tree → BranchTree → Tree
  branch_onto r (Branch p q e t) = within (head_onto (mark_at r mark.If p) q e) (λ z. run_stmt z t)

  -- branches, with `else` between them
  pub branches_onto : Tree → BranchTrees → Tree
  branches_onto r (first_branch b) = branch_onto r b
  branches_onto r (and_branch bs b) = branch_onto (closed (branches_onto r bs) mark.Else) b

abbrev pub run_external : Sort → ExternalTree → Tree
run_external s Nothing = closed (begin s) mark.Semicolon
run_external s (Global d) = run_declaration s d
run_external s (Typedef p d) = declaration_onto (mark_at (begin s) mark.Typedef p) d
run_external s (Function xs d p ss) = closed (stmts_onto (mark_at (within (specifiers_onto (begin s) xs) (λ z. run_declarator z d)) mark.OpenBrace p) ss) mark.CloseBrace

abbrev pub externals_onto : Tree → List ExternalTree → Tree
externals_onto r [] = r
externals_onto r (x ∷ xs) = externals_onto (within r (λ z. run_external z x)) xs

-- a whole text: its parts, and the token of its end
abbrev pub run_unit : List ExternalTree → Tree
run_unit xs = behind (externals_onto (begin sort.Unit) xs) kind.End nowhere
