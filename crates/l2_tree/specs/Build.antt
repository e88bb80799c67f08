-- The typed tree of a construct, from its parts: its tokens and the constructs in it, in their order. What a construct begins with says
-- what it is; no state of the grammar's networks is needed.
use Rattle.std.specs.Prelude.{ℕ, Bool, true, false, cond, not, ◌&&◌, List, [], ◌∷◌, ◌++◌, Option, Some, None, is_some}
use Rattle.l2_syntax.specs.declared.place.Place.{Place}
use Rattle.l2_syntax.specs.declared.token.Mark.{Mark}
use Rattle.l2_syntax.specs.declared.token.Mark.TheVariants as mark
use Rattle.l2_syntax.specs.declared.token.TokenKind.{TokenKind}
use Rattle.l2_syntax.specs.declared.token.TokenKind.TheVariants as kind
use Rattle.l2_grammar.specs.Marks.{is}
use Rattle.l2_grammar.specs.Trees.{Tree, begin, token, child}
use Rattle.l2_tree.specs.declared.operators.UnaryOperator.{UnaryOperator}
use Rattle.l2_tree.specs.declared.operators.UnaryOperator.TheVariants as unary
use Rattle.l2_tree.specs.declared.operators.UpdateOperator.TheVariants as update
use Rattle.l2_tree.specs.declared.operators.MemberOperator.TheVariants as member
use Rattle.l2_tree.specs.declared.operators.BinaryOperator.{BinaryOperator}
use Rattle.l2_tree.specs.declared.operators.BinaryOperator.TheVariants as binary
use Rattle.l2_tree.specs.declared.operators.AssignmentOperator.{AssignmentOperator}
use Rattle.l2_tree.specs.declared.operators.AssignmentOperator.TheVariants as assignment
use Rattle.l2_tree.specs.declared.operators.SpecifierWord.{SpecifierWord}
use Rattle.l2_tree.specs.declared.operators.SpecifierWord.TheVariants as word
use Rattle.l2_tree.specs.declared.starts.Opening.{Opening}
use Rattle.l2_tree.specs.declared.starts.Opening.TheVariants as opening
use Rattle.l2_tree.specs.declared.starts.Continuation.{Continuation}
use Rattle.l2_tree.specs.declared.starts.Continuation.TheVariants as continuation
use Rattle.l2_tree.specs.declared.starts.Leader.{Leader}
use Rattle.l2_tree.specs.declared.starts.Leader.TheVariants as leader
use Rattle.l2_tree.specs.declared.expression.Tag.{Tag}
use Rattle.l2_tree.specs.declared.expression.Pointer.{Pointer}
use Rattle.l2_tree.specs.declared.expression.Pointer.TheVariants as pointer
use Rattle.l2_tree.specs.Trees.{ExprTree, Name, Number, Text, Parenthesised, Index, Call, Member, PostUpdate, Update, Unary, Sizeof, SizeofType, Cast, Binary, Conditional, Assign, Comma, ExprTrees, no_exprs, and_expr, SpecifierTree, Word, TypeName, Struct, StructBody, Enum, EnumBody, SpecifierTrees, first_specifier, and_specifier, EnumeratorTree, Plain, Valued, EnumeratorTrees, first_enumerator, and_enumerator, ParameterTree, Bare, Declared, ParameterTrees, no_parameters, and_parameter, DeclaratorTree, Declarator, CoreTree, Absent, Named, Group, Array, ArrayOf, Parameters, SuffixTrees, no_suffixes, and_suffix, InitialiserTree, Expression, Braced, InitialiserTrees, first_initialiser, and_initialiser, Uninitialised, Initialised, DeclaredTrees, no_declarators, and_declarator, DeclarationTree, Declaration, DeclarationTrees, no_declarations, and_declaration, FirstTree, NoFirst, FirstExpression, FirstDeclaration, StmtTree, Declare, Block, Evaluate, Empty, If, IfElse, While, Switch, Do, For, Case, Default, Label, Break, Continue, Return, ReturnValue, StmtTrees, no_stmts, and_stmt, Branch, BranchTrees, first_branch, and_branch, ExternalTree, Nothing, Global, Typedef, Function}

-- ---- parts

-- what a construct is to the one round it: an expression, a type name in parentheses, a parameter or a type name, and so on; none where
-- its parts are no such thing
pub record Built : Type 0 where
  -- it begins with a specifier
  pub typed : Bool
  -- it is the name of a type in parentheses
  pub bracketed : Bool
  pub expr : Option ExprTree
  pub type_name : Option (Place × ParameterTree)
  pub parameter : Option ParameterTree
  pub declarator : Option DeclaratorTree
  pub initialiser : Option InitialiserTree
  pub declaration : Option DeclarationTree
  pub stmt : Option StmtTree
  pub external : Option ExternalTree

-- a token, or a construct
pub data Part : Type 0 where
  leaf : TokenKind → Place → Part
  node : Built → Part

abbrev pub and_then : {A B : Type 0} → Option A → (A → Option B) → Option B
and_then None f = None
and_then (Some x) f = f x

-- with the value, if there is one, or else so
abbrev pub some_or : {A B : Type 0} → Option A → (A → B) → B → B
some_or None f y = y
some_or (Some x) f y = f x

-- where the token is this mark
abbrev pub on_mark : {A : Type 0} → Mark → TokenKind → Option A → Option A
on_mark m k x = cond (is m k) x None

-- where nothing is left
abbrev pub only : {A : Type 0} → List Part → A → Option A
only [] x = Some x
only ps x = None

-- whether this mark stands next
abbrev pub heads : Mark → List Part → Bool
heads m (leaf k p ∷ ps) = is m k
heads m ps = false

-- ---- what a token begins

abbrev pub unary_of : Mark → Option UnaryOperator
unary_of mark.Ampersand = Some unary.Address
unary_of mark.Star = Some unary.Dereference
unary_of mark.Plus = Some unary.Plus
unary_of mark.Minus = Some unary.Negate
unary_of mark.Tilde = Some unary.Complement
unary_of mark.Exclamation = Some unary.Not
unary_of m = None

abbrev pub opening_mark : Mark → Option Opening
opening_mark mark.OpenParenthesis = Some opening.Parenthesis
opening_mark mark.Sizeof = Some opening.Sizeof
opening_mark mark.PlusPlus = Some (opening.Update update.Increment)
opening_mark mark.MinusMinus = Some (opening.Update update.Decrement)
opening_mark m = some_or (unary_of m) (λ o. Some (opening.Unary o)) None

-- how an expression begins with this token
abbrev pub opening_of : TokenKind → Option Opening
opening_of (kind.Word n) = Some (opening.Name n)
opening_of (kind.Number v y) = Some (opening.Number v y)
opening_of kind.Text = Some opening.Text
opening_of (kind.Mark m) = opening_mark m
opening_of k = None

abbrev pub binary_of : Mark → Option BinaryOperator
binary_of mark.Star = Some binary.Multiply
binary_of mark.Slash = Some binary.Divide
binary_of mark.Percent = Some binary.Remainder
binary_of mark.Plus = Some binary.Add
binary_of mark.Minus = Some binary.Subtract
binary_of mark.ShiftLeft = Some binary.ShiftLeft
binary_of mark.ShiftRight = Some binary.ShiftRight
binary_of mark.Less = Some binary.Less
binary_of mark.Greater = Some binary.Greater
binary_of mark.LessEqual = Some binary.LessEqual
binary_of mark.GreaterEqual = Some binary.GreaterEqual
binary_of mark.EqualEqual = Some binary.Equal
binary_of mark.NotEqual = Some binary.NotEqual
binary_of mark.Ampersand = Some binary.BitAnd
binary_of mark.Caret = Some binary.BitXor
binary_of mark.Bar = Some binary.BitOr
binary_of mark.AndAnd = Some binary.And
binary_of mark.OrOr = Some binary.Or
binary_of m = None

abbrev pub assignment_of : Mark → Option AssignmentOperator
assignment_of mark.Equal = Some assignment.Assign
assignment_of mark.StarEqual = Some assignment.Multiply
assignment_of mark.SlashEqual = Some assignment.Divide
assignment_of mark.PercentEqual = Some assignment.Remainder
assignment_of mark.PlusEqual = Some assignment.Add
assignment_of mark.MinusEqual = Some assignment.Subtract
assignment_of mark.ShiftLeftEqual = Some assignment.ShiftLeft
assignment_of mark.ShiftRightEqual = Some assignment.ShiftRight
assignment_of mark.AmpersandEqual = Some assignment.BitAnd
assignment_of mark.CaretEqual = Some assignment.BitXor
assignment_of mark.BarEqual = Some assignment.BitOr
assignment_of m = None

abbrev pub operator_of : Mark → Option Continuation
operator_of m = some_or (binary_of m) (λ o. Some (continuation.Binary o)) (some_or (assignment_of m) (λ o. Some (continuation.Assign o)) None)

abbrev pub continuation_mark : Mark → Option Continuation
continuation_mark mark.OpenBracket = Some continuation.Index
continuation_mark mark.OpenParenthesis = Some continuation.Call
continuation_mark mark.Dot = Some (continuation.Member member.Dot)
continuation_mark mark.Arrow = Some (continuation.Member member.Arrow)
continuation_mark mark.PlusPlus = Some (continuation.Update update.Increment)
continuation_mark mark.MinusMinus = Some (continuation.Update update.Decrement)
continuation_mark mark.Question = Some continuation.Conditional
continuation_mark mark.Comma = Some continuation.Comma
continuation_mark m = operator_of m

-- how an expression goes on with this token behind an operand
abbrev pub continuation_of : TokenKind → Option Continuation
continuation_of (kind.Mark m) = continuation_mark m
continuation_of k = None

abbrev pub word_of : Mark → Option SpecifierWord
word_of mark.Static = Some word.Static
word_of mark.Extern = Some word.Extern
word_of mark.Const = Some word.Const
word_of mark.Signed = Some word.Signed
word_of mark.Unsigned = Some word.Unsigned
word_of mark.Bool = Some word.Bool
word_of mark.Char = Some word.Char
word_of mark.Short = Some word.Short
word_of mark.Int = Some word.Int
word_of mark.Long = Some word.Long
word_of mark.Void = Some word.Void
word_of m = None

-- a specifier of one token
abbrev pub simple_of : TokenKind → Place → Option SpecifierTree
simple_of (kind.TypeName n) p = Some (TypeName n p)
simple_of (kind.Mark m) p = some_or (word_of m) (λ w. Some (Word w p)) None
simple_of k p = None

abbrev pub is_specifier_mark : Mark → Bool
is_specifier_mark mark.Struct = true
is_specifier_mark mark.Enum = true
is_specifier_mark m = is_some (word_of m)

abbrev pub is_specifier : TokenKind → Bool
is_specifier (kind.TypeName n) = true
is_specifier (kind.Mark m) = is_specifier_mark m
is_specifier k = false

-- whether these parts begin with a specifier
abbrev pub specifies : List Part → Bool
specifies (leaf k p ∷ ps) = is_specifier k
specifies ps = false

abbrev pub leader_mark : Mark → Option Leader
leader_mark mark.OpenBrace = Some leader.Block
leader_mark mark.Semicolon = Some leader.Empty
leader_mark mark.If = Some leader.If
leader_mark mark.While = Some leader.While
leader_mark mark.Switch = Some leader.Switch
leader_mark mark.Do = Some leader.Do
leader_mark mark.For = Some leader.For
leader_mark mark.Case = Some leader.Case
leader_mark mark.Default = Some leader.Default
leader_mark mark.Break = Some leader.Break
leader_mark mark.Continue = Some leader.Continue
leader_mark mark.Return = Some leader.Return
leader_mark m = None

-- how a statement begins with this token, where it is neither a declaration nor an expression nor labelled by a name
abbrev pub leader_of : TokenKind → Option Leader
leader_of (kind.Mark m) = leader_mark m
leader_of k = None

-- ---- expressions

abbrev mutual
  -- the expression of an operand and what stands behind it
  pub tail : ExprTree → List Part → Option ExprTree
  tail a [] = Some a
  tail a (node c ∷ ps) = None
  tail a (leaf k p ∷ ps) = continued (continuation_of k) a p ps

  -- behind an operand and the token with which it goes on
  pub continued : Option Continuation → ExprTree → Place → List Part → Option ExprTree
  continued (Some (continuation.Binary o)) a p (node c ∷ ps) = and_then c.expr (λ b. tail (Binary a o p b) ps)
  continued (Some (continuation.Assign o)) a p (node c ∷ ps) = and_then c.expr (λ b. tail (Assign a o p b) ps)
  continued (Some continuation.Comma) a p (node c ∷ ps) = and_then c.expr (λ b. tail (Comma a b) ps)
  continued (Some continuation.Index) a p (node c ∷ leaf k q ∷ ps) = on_mark mark.CloseBracket k (and_then c.expr (λ i. tail (Index a p i) ps))
  continued (Some continuation.Conditional) a p (node c ∷ leaf k q ∷ node d ∷ ps) = on_mark mark.Colon k (and_then c.expr (λ b. and_then d.expr (λ e. tail (Conditional a p b e) ps)))
  continued (Some (continuation.Member o)) a p (leaf (kind.Word n) q ∷ ps) = tail (Member a o p n q) ps
  continued (Some (continuation.Update o)) a p [] = Some (PostUpdate a o p)
  continued (Some (continuation.Update o)) a p (leaf k q ∷ ps) = continued (continuation_of k) (PostUpdate a o p) q ps
  continued (Some continuation.Call) a p (leaf k q ∷ ps) = on_mark mark.CloseParenthesis k (tail (Call a p no_exprs) ps)
  continued (Some continuation.Call) a p (node c ∷ ps) = and_then c.expr (λ e. arguments a p (and_expr no_exprs e) ps)
  continued c a p ps = None

  -- behind an argument
  pub arguments : ExprTree → Place → ExprTrees → List Part → Option ExprTree
  arguments a p es (leaf k q ∷ ps) = cond (is mark.CloseParenthesis k) (tail (Call a p es) ps) (on_mark mark.Comma k (argument a p es ps))
  arguments a p es ps = None

  -- behind the comma between two
  pub argument : ExprTree → Place → ExprTrees → List Part → Option ExprTree
  argument a p es (node c ∷ ps) = and_then c.expr (λ e. arguments a p (and_expr es e) ps)
  argument a p es ps = None

-- behind the name of a type in parentheses
abbrev pub cast : Place → Option ParameterTree → List Part → Option ExprTree
cast p t (node d ∷ ps) = and_then t (λ x. and_then d.expr (λ a. tail (Cast p x a) ps))
cast p t ps = None

-- behind `sizeof` and what stands behind it: the name of a type in parentheses, or else an expression
abbrev pub sized : Place → Built → List Part → Option ExprTree
sized p c ps = cond c.bracketed (and_then c.type_name (λ t. tail (SizeofType p t.0 t.1) ps)) (and_then c.expr (λ a. tail (Sizeof p a) ps))

-- behind the token with which an expression begins
abbrev pub opened : Opening → Place → List Part → Option ExprTree
opened (opening.Name n) p ps = tail (Name n p) ps
opened (opening.Number v y) p ps = tail (Number v y p) ps
opened opening.Text p ps = tail (Text p) ps
opened (opening.Unary o) p (node c ∷ ps) = and_then c.expr (λ a. tail (Unary o p a) ps)
opened (opening.Update o) p (node c ∷ ps) = and_then c.expr (λ a. tail (Update o p a) ps)
opened opening.Sizeof p (node c ∷ ps) = sized p c ps
opened opening.Parenthesis p (node c ∷ leaf k q ∷ ps) = on_mark mark.CloseParenthesis k (cond c.typed (cast p c.parameter ps) (and_then c.expr (λ e. tail (Parenthesised p e) ps)))
opened o p ps = None

abbrev pub expr_of : List Part → Option ExprTree
expr_of (leaf k p ∷ ps) = and_then (opening_of k) (λ o. opened o p ps)
expr_of ps = None

-- ---- specifiers

-- one more specifier
abbrev pub add_specifier : Option SpecifierTrees → SpecifierTree → SpecifierTrees
add_specifier None x = first_specifier x
add_specifier (Some xs) x = and_specifier xs x

abbrev pub add_enumerator : Option EnumeratorTrees → EnumeratorTree → EnumeratorTrees
add_enumerator None e = first_enumerator e
add_enumerator (Some es) e = and_enumerator es e

abbrev pub tag : ℕ → Place → Tag
tag n p = record { name = n; place = p }

-- specifiers, one at least, and what stands behind them
abbrev pub ended : Option SpecifierTrees → List Part → Option (SpecifierTrees × List Part)
ended None ps = None
ended (Some xs) ps = Some (xs, ps)

abbrev mutual
  -- behind these specifiers, if any: all that follow, and what is left behind them
  pub specifiers : Option SpecifierTrees → List Part → Option (SpecifierTrees × List Part)
  specifiers xs (leaf k p ∷ ps) = some_or (simple_of k p) (λ x. specifiers (Some (add_specifier xs x)) ps)
      (cond (is mark.Struct k) (cond (heads mark.OpenBrace ps) (struct_body xs p None ps) (struct_tag xs p ps))
      (cond (is mark.Enum k) (cond (heads mark.OpenBrace ps) (enum_body xs p None ps) (enum_tag xs p ps)) (ended xs (leaf k p ∷ ps))))
  specifiers xs ps = ended xs ps

  -- behind `struct`, where no brace stands
  pub struct_tag : Option SpecifierTrees → Place → List Part → Option (SpecifierTrees × List Part)
  struct_tag xs p (leaf (kind.Word n) q ∷ ps) = cond (heads mark.OpenBrace ps) (struct_body xs p (Some (tag n q)) ps) (specifiers (Some (add_specifier xs (Struct p (tag n q)))) ps)
  struct_tag xs p ps = None

  -- from the brace on
  pub struct_body : Option SpecifierTrees → Place → Option Tag → List Part → Option (SpecifierTrees × List Part)
  struct_body xs p t (leaf k q ∷ ps) = members (λ ds. add_specifier xs (StructBody p t q ds)) no_declarations ps
  struct_body xs p t ps = None

  -- behind these members: the others, and then the specifiers
  pub members : (DeclarationTrees → SpecifierTrees) → DeclarationTrees → List Part → Option (SpecifierTrees × List Part)
  members f ds (node c ∷ ps) = and_then c.declaration (λ d. members f (and_declaration ds d) ps)
  members f ds (leaf k p ∷ ps) = on_mark mark.CloseBrace k (specifiers (Some (f ds)) ps)
  members f ds ps = None

  -- behind `enum`, where no brace stands
  pub enum_tag : Option SpecifierTrees → Place → List Part → Option (SpecifierTrees × List Part)
  enum_tag xs p (leaf (kind.Word n) q ∷ ps) = cond (heads mark.OpenBrace ps) (enum_body xs p (Some (tag n q)) ps) (specifiers (Some (add_specifier xs (Enum p (tag n q)))) ps)
  enum_tag xs p ps = None

  pub enum_body : Option SpecifierTrees → Place → Option Tag → List Part → Option (SpecifierTrees × List Part)
  enum_body xs p t (leaf k q ∷ ps) = enumerators (λ es b. add_specifier xs (EnumBody p t q es b)) None ps
  enum_body xs p t ps = None

  -- at an enumerator, behind these
  pub enumerators : (EnumeratorTrees → Bool → SpecifierTrees) → Option EnumeratorTrees → List Part → Option (SpecifierTrees × List Part)
  enumerators f es (leaf (kind.Word n) p ∷ ps) = cond (heads mark.Equal ps) (enumerator_value f es n p ps) (behind_enumerator f (add_enumerator es (Plain n p)) ps)
  enumerators f es ps = None

  -- from its `=` on
  pub enumerator_value : (EnumeratorTrees → Bool → SpecifierTrees) → Option EnumeratorTrees → ℕ → Place → List Part → Option (SpecifierTrees × List Part)
  enumerator_value f es n p (leaf k q ∷ node c ∷ ps) = and_then c.expr (λ e. behind_enumerator f (add_enumerator es (Valued n p q e)) ps)
  enumerator_value f es n p ps = None

  -- behind an enumerator: the brace, a comma and the brace, or a comma and the next
  pub behind_enumerator : (EnumeratorTrees → Bool → SpecifierTrees) → EnumeratorTrees → List Part → Option (SpecifierTrees × List Part)
  behind_enumerator f es (leaf k p ∷ ps) = cond (is mark.CloseBrace k) (specifiers (Some (f es false)) ps)
      (on_mark mark.Comma k (cond (heads mark.CloseBrace ps) (last_comma f es ps) (enumerators f (Some es) ps)))
  behind_enumerator f es ps = None

  -- at the brace behind a comma
  pub last_comma : (EnumeratorTrees → Bool → SpecifierTrees) → EnumeratorTrees → List Part → Option (SpecifierTrees × List Part)
  last_comma f es (leaf k p ∷ ps) = specifiers (Some (f es true)) ps
  last_comma f es ps = None

-- ---- declarators, parameters and initialisers

abbrev mutual
  -- `*` and `* const`, behind these, and what is left behind them
  pub pointers : List Pointer → List Part → List Pointer × List Part
  pointers qs (leaf k p ∷ ps) = cond (is mark.Star k) (cond (heads mark.Const ps) (constant_pointer qs p ps) (pointers (qs ++ (pointer.Plain p ∷ [])) ps)) (qs, leaf k p ∷ ps)
  pointers qs ps = (qs, ps)

  pub constant_pointer : List Pointer → Place → List Part → List Pointer × List Part
  constant_pointer qs p (leaf k q ∷ ps) = pointers (qs ++ (pointer.Const p q ∷ [])) ps
  constant_pointer qs p ps = (qs, ps)

-- `( declarator )`, where no parameter stands behind the bracket
abbrev pub group : Place → Built → List Part → Option (CoreTree × List Part)
group p c (leaf k q ∷ ps) = on_mark mark.CloseParenthesis k (and_then c.declarator (λ d. Some (Group p d, ps)))
group p c ps = None

-- what a declarator is built round, and what is left behind it
abbrev pub core : List Part → Option (CoreTree × List Part)
core (leaf (kind.Word n) p ∷ ps) = Some (Named n p, ps)
core (leaf k p ∷ node c ∷ ps) = cond (is mark.OpenParenthesis k && not c.typed) (group p c ps) (Some (Absent, leaf k p ∷ node c ∷ ps))
core ps = Some (Absent, ps)

abbrev mutual
  -- lengths and parameters, behind these
  pub suffixes : SuffixTrees → List Part → Option SuffixTrees
  suffixes xs [] = Some xs
  suffixes xs (leaf k p ∷ ps) = cond (is mark.OpenBracket k) (array xs p ps) (on_mark mark.OpenParenthesis k (parameters xs p ps))
  suffixes xs (node c ∷ ps) = None

  -- behind a `[`
  pub array : SuffixTrees → Place → List Part → Option SuffixTrees
  array xs p (leaf k q ∷ ps) = on_mark mark.CloseBracket k (suffixes (and_suffix xs (Array p)) ps)
  array xs p (node c ∷ leaf k q ∷ ps) = on_mark mark.CloseBracket k (and_then c.expr (λ e. suffixes (and_suffix xs (ArrayOf p e)) ps))
  array xs p ps = None

  -- behind a `(`
  pub parameters : SuffixTrees → Place → List Part → Option SuffixTrees
  parameters xs p (leaf k q ∷ ps) = on_mark mark.CloseParenthesis k (suffixes (and_suffix xs (Parameters p no_parameters)) ps)
  parameters xs p (node c ∷ ps) = and_then c.parameter (λ t. behind_parameter xs p (and_parameter no_parameters t) ps)
  parameters xs p ps = None

  pub behind_parameter : SuffixTrees → Place → ParameterTrees → List Part → Option SuffixTrees
  behind_parameter xs p ts (leaf k q ∷ ps) = cond (is mark.CloseParenthesis k) (suffixes (and_suffix xs (Parameters p ts)) ps) (on_mark mark.Comma k (next_parameter xs p ts ps))
  behind_parameter xs p ts ps = None

  pub next_parameter : SuffixTrees → Place → ParameterTrees → List Part → Option SuffixTrees
  next_parameter xs p ts (node c ∷ ps) = and_then c.parameter (λ t. behind_parameter xs p (and_parameter ts t) ps)
  next_parameter xs p ts ps = None

-- behind the pointers of a declarator
abbrev pub declarator_behind : List Pointer → List Part → Option DeclaratorTree
declarator_behind qs ps = and_then (core ps) (λ c. and_then (suffixes no_suffixes c.1) (λ xs. Some (Declarator qs c.0 xs)))

abbrev pub declarator_of : List Part → Option DeclaratorTree
declarator_of ps = declarator_behind (pointers [] ps).0 (pointers [] ps).1

-- behind the specifiers of a parameter or of the name of a type
abbrev pub parameter_behind : SpecifierTrees → List Part → Option ParameterTree
parameter_behind xs [] = Some (Bare xs)
parameter_behind xs (node c ∷ []) = and_then c.declarator (λ d. Some (Declared xs d))
parameter_behind xs ps = None

abbrev pub parameter_of : List Part → Option ParameterTree
parameter_of ps = and_then (specifiers None ps) (λ f. parameter_behind f.0 f.1)

-- whether these parts are the name of a type in parentheses
abbrev pub brackets : List Part → Bool
brackets (leaf k p ∷ node c ∷ leaf l q ∷ []) = is mark.OpenParenthesis k && (is mark.CloseParenthesis l && c.typed)
brackets ps = false

abbrev pub type_name_of : List Part → Option (Place × ParameterTree)
type_name_of (leaf k p ∷ node c ∷ ps) = and_then c.parameter (λ t. Some (p, t))
type_name_of ps = None

abbrev mutual
  -- behind an item in braces
  pub behind_item : Place → InitialiserTrees → List Part → Option InitialiserTree
  behind_item p ns (leaf k q ∷ ps) = cond (is mark.CloseBrace k) (only ps (Braced p ns false)) (on_mark mark.Comma k (behind_comma p ns ps))
  behind_item p ns ps = None

  -- the next, or the brace
  pub behind_comma : Place → InitialiserTrees → List Part → Option InitialiserTree
  behind_comma p ns (leaf k q ∷ ps) = on_mark mark.CloseBrace k (only ps (Braced p ns true))
  behind_comma p ns (node c ∷ ps) = and_then c.initialiser (λ i. behind_item p (and_initialiser ns i) ps)
  behind_comma p ns ps = None

abbrev pub braced : Place → List Part → Option InitialiserTree
braced p (node c ∷ ps) = and_then c.initialiser (λ i. behind_item p (first_initialiser i) ps)
braced p ps = None

abbrev pub initialiser_of : List Part → Option InitialiserTree
initialiser_of (leaf k p ∷ ps) = cond (is mark.OpenBrace k) (braced p ps) (and_then (expr_of (leaf k p ∷ ps)) (λ e. Some (Expression e)))
initialiser_of ps = None

-- ---- declarations

-- behind a declarator and what belongs to it: the end, or a comma and the others
abbrev pub declared_end : SpecifierTrees → DeclaredTrees → TokenKind → List Part → Option DeclarationTree → Option DeclarationTree
declared_end xs ds k ps others = cond (is mark.Semicolon k) (only ps (Declaration xs ds)) (on_mark mark.Comma k others)

abbrev mutual
  -- at a declarator, behind these
  pub declarators : SpecifierTrees → DeclaredTrees → List Part → Option DeclarationTree
  declarators xs ds (node c ∷ leaf k p ∷ ps) = and_then c.declarator (λ d. cond (is mark.Equal k) (initialised xs ds d p ps)
      (declared_end xs (and_declarator ds (Uninitialised d)) k ps (declarators xs (and_declarator ds (Uninitialised d)) ps)))
  declarators xs ds ps = None

  -- behind a `=`
  pub initialised : SpecifierTrees → DeclaredTrees → DeclaratorTree → Place → List Part → Option DeclarationTree
  initialised xs ds d p (node c ∷ leaf k q ∷ ps) = and_then c.initialiser (λ i. declared_end xs (and_declarator ds (Initialised d p i)) k ps (declarators xs (and_declarator ds (Initialised d p i)) ps))
  initialised xs ds d p ps = None

-- behind the specifiers
abbrev pub declared : SpecifierTrees → List Part → Option DeclarationTree
declared xs (leaf k p ∷ ps) = on_mark mark.Semicolon k (only ps (Declaration xs no_declarators))
declared xs ps = declarators xs no_declarators ps

abbrev pub declaration_of : List Part → Option DeclarationTree
declaration_of ps = and_then (specifiers None ps) (λ f. declared f.0 f.1)

-- ---- statements

-- items up to the closing brace, behind these
abbrev pub items : StmtTrees → List Part → Option StmtTrees
items ss (node c ∷ ps) = and_then c.stmt (λ t. items (and_stmt ss t) ps)
items ss (leaf k p ∷ ps) = on_mark mark.CloseBrace k (only ps ss)
items ss [] = None

-- `( e ) s`, by its parts
abbrev pub controlled : TokenKind → Built → TokenKind → Built → Option (ExprTree × StmtTree)
controlled k c l d = on_mark mark.OpenParenthesis k (on_mark mark.CloseParenthesis l (and_then c.expr (λ e. and_then d.stmt (λ t. Some (e, t)))))

abbrev pub add_branch : Option BranchTrees → Place → Place → ExprTree → StmtTree → BranchTrees
add_branch None p q e t = first_branch (Branch p q e t)
add_branch (Some bs) p q e t = and_branch bs (Branch p q e t)

abbrev mutual
  -- behind an `if`, behind these branches
  pub branch : Option BranchTrees → Place → List Part → Option StmtTree
  branch bs p (leaf k q ∷ node c ∷ leaf l r ∷ node d ∷ ps) = and_then (controlled k c l d) (λ x. behind_branch (add_branch bs p q x.0 x.1) ps)
  branch bs p ps = None

  pub behind_branch : BranchTrees → List Part → Option StmtTree
  behind_branch bs [] = Some (If bs)
  behind_branch bs (leaf k p ∷ ps) = on_mark mark.Else k (behind_else bs ps)
  behind_branch bs (node c ∷ ps) = None

  -- the last statement, or another `if`
  pub behind_else : BranchTrees → List Part → Option StmtTree
  behind_else bs (node c ∷ ps) = and_then c.stmt (λ t. only ps (IfElse bs t))
  behind_else bs (leaf k p ∷ ps) = on_mark mark.If k (branch (Some bs) p ps)
  behind_else bs [] = None

-- behind `while` or `switch`
abbrev pub controls : (Place → ExprTree → StmtTree → StmtTree) → List Part → Option StmtTree
controls f (leaf k q ∷ node c ∷ leaf l r ∷ node d ∷ ps) = and_then (controlled k c l d) (λ x. only ps (f q x.0 x.1))
controls f ps = None

-- behind `do` and a statement
abbrev pub do_while : Place → StmtTree → List Part → Option StmtTree
do_while p t (leaf k w ∷ leaf l q ∷ node c ∷ leaf m r ∷ leaf n u ∷ ps) = on_mark mark.While k (on_mark mark.OpenParenthesis l (on_mark mark.CloseParenthesis m (on_mark mark.Semicolon n
    (and_then c.expr (λ e. only ps (Do p t w q e))))))
do_while p t ps = None

abbrev pub does : Place → List Part → Option StmtTree
does p (node c ∷ ps) = and_then c.stmt (λ t. do_while p t ps)
does p ps = None

-- perhaps an expression, up to this mark, and what is left behind it
abbrev pub perhaps_until : Mark → List Part → Option (Option ExprTree × List Part)
perhaps_until m (leaf k p ∷ ps) = on_mark m k (Some (None, ps))
perhaps_until m (node c ∷ leaf k p ∷ ps) = on_mark m k (and_then c.expr (λ e. Some (Some e, ps)))
perhaps_until m ps = None

abbrev pub first_of : Option ExprTree → FirstTree
first_of None = NoFirst
first_of (Some e) = FirstExpression e

-- the first part of a `for`, and what is left behind its semicolon
abbrev pub first : List Part → Option (FirstTree × List Part)
first (node c ∷ ps) = cond c.typed (and_then c.declaration (λ d. Some (FirstDeclaration d, ps))) (and_then (perhaps_until mark.Semicolon (node c ∷ ps)) (λ f. Some (first_of f.0, f.1)))
first ps = and_then (perhaps_until mark.Semicolon ps) (λ f. Some (first_of f.0, f.1))

-- its body, behind its head
abbrev pub for_body : Place → Place → FirstTree → Option ExprTree → Option ExprTree → List Part → Option StmtTree
for_body p q a c e (node d ∷ ps) = and_then d.stmt (λ t. only ps (For p q a c e t))
for_body p q a c e ps = None

abbrev pub loops : Place → List Part → Option StmtTree
loops p (leaf k q ∷ ps) = on_mark mark.OpenParenthesis k (and_then (first ps) (λ a. and_then (perhaps_until mark.Semicolon a.1) (λ c. and_then (perhaps_until mark.CloseParenthesis c.1) (λ e. for_body p q a.0 c.0 e.0 e.1))))
loops p ps = None

-- from the colon of a label on
abbrev pub labelled : (StmtTree → StmtTree) → List Part → Option StmtTree
labelled f (leaf k q ∷ node d ∷ ps) = on_mark mark.Colon k (and_then d.stmt (λ t. only ps (f t)))
labelled f ps = None

abbrev pub case_of : Place → List Part → Option StmtTree
case_of p (node c ∷ ps) = and_then c.expr (λ e. labelled (λ t. Case p e t) ps)
case_of p ps = None

-- where only a semicolon is left
abbrev pub semicolon : List Part → StmtTree → Option StmtTree
semicolon (leaf k p ∷ ps) t = on_mark mark.Semicolon k (only ps t)
semicolon ps t = None

abbrev pub returns : Place → List Part → Option StmtTree
returns p (node c ∷ ps) = and_then c.expr (λ e. semicolon ps (ReturnValue p e))
returns p ps = semicolon ps (Return p)

-- a statement, behind the token with which it begins
abbrev pub led : Leader → Place → List Part → Option StmtTree
led leader.Block p ps = and_then (items no_stmts ps) (λ ss. Some (Block p ss))
led leader.Empty p ps = only ps Empty
led leader.If p ps = branch None p ps
led leader.While p ps = controls (λ q e t. While p q e t) ps
led leader.Switch p ps = controls (λ q e t. Switch p q e t) ps
led leader.Do p ps = does p ps
led leader.For p ps = loops p ps
led leader.Case p ps = case_of p ps
led leader.Default p ps = labelled (λ t. Default p t) ps
led leader.Break p ps = semicolon ps (Break p)
led leader.Continue p ps = semicolon ps (Continue p)
led leader.Return p ps = returns p ps

-- the parts before a last semicolon
abbrev pub before_semicolon : List Part → Option (List Part)
before_semicolon [] = None
before_semicolon (leaf k p ∷ []) = on_mark mark.Semicolon k (Some [])
before_semicolon (x ∷ ps) = and_then (before_semicolon ps) (λ qs. Some (x ∷ qs))

abbrev pub evaluated : List Part → Option StmtTree
evaluated ps = and_then (before_semicolon ps) (λ qs. and_then (expr_of qs) (λ e. Some (Evaluate e)))

-- a declaration or an expression
abbrev pub plain_stmt : List Part → Option StmtTree
plain_stmt ps = cond (specifies ps) (and_then (declaration_of ps) (λ d. Some (Declare d))) (evaluated ps)

-- a label's name, where a colon follows
abbrev pub label_of : TokenKind → List Part → Option ℕ
label_of (kind.Word n) ps = cond (heads mark.Colon ps) (Some n) None
label_of k ps = None

abbrev pub stmt_of : List Part → Option StmtTree
stmt_of (leaf k p ∷ ps) = some_or (leader_of k) (λ s. led s p ps) (some_or (label_of k ps) (λ n. labelled (λ t. Label n p t) ps) (plain_stmt (leaf k p ∷ ps)))
stmt_of ps = None

-- ---- units

-- behind the specifiers of a function or of a declaration
abbrev pub external_behind : SpecifierTrees → List Part → Option ExternalTree
external_behind xs (node c ∷ leaf k p ∷ ps) = cond (is mark.OpenBrace k) (and_then c.declarator (λ d. and_then (items no_stmts ps) (λ ss. Some (Function xs d p ss))))
    (and_then (declared xs (node c ∷ leaf k p ∷ ps)) (λ d. Some (Global d)))
external_behind xs ps = and_then (declared xs ps) (λ d. Some (Global d))

abbrev pub external_of : List Part → Option ExternalTree
external_of (leaf k p ∷ ps) = cond (is mark.Semicolon k) (only ps Nothing) (cond (is mark.Typedef k) (and_then (declaration_of ps) (λ d. Some (Typedef p d)))
    (and_then (specifiers None (leaf k p ∷ ps)) (λ f. external_behind f.0 f.1)))
external_of ps = None

abbrev pub is_end : TokenKind → Bool
is_end kind.End = true
is_end k = false

-- the externals of a text up to its end, behind these
abbrev pub externals : List ExternalTree → List Part → Option (List ExternalTree)
externals xs (node c ∷ ps) = and_then c.external (λ x. externals (xs ++ (x ∷ [])) ps)
externals xs (leaf k p ∷ ps) = cond (is_end k) (only ps xs) None
externals xs [] = None

abbrev pub unit_of : List Part → Option (List ExternalTree)
unit_of ps = externals [] ps

-- ---- constructs from the inside outwards

abbrev pub built : List Part → Built
built ps = record { typed = specifies ps; bracketed = brackets ps; expr = expr_of ps; type_name = type_name_of ps; parameter = parameter_of ps; declarator = declarator_of ps; initialiser = initialiser_of ps; declaration = declaration_of ps; stmt = stmt_of ps; external = external_of ps }

-- the parts of a concrete tree, and then more
abbrev pub parts_before : Tree → List Part → List Part
parts_before (begin s) m = m
parts_before (token a t) m = parts_before a (leaf t.kind t.at ∷ m)
parts_before (child a b) m = parts_before a (node (built (parts_before b [])) ∷ m)

abbrev pub parts_of : Tree → List Part
parts_of r = parts_before r []
