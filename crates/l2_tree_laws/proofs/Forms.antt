-- What a construct is, as far as it has been read, by the state that it is in.
use Rattle.std.proofs.Common.{◌≡◌, ◌⊎◌, ℕ, Bool, true, false, List, Option, None, Some}
use Rattle.l2_syntax.specs.declared.place.Place.{Place}
use Rattle.l2_syntax.specs.declared.token.Mark.{Mark}
use Rattle.l2_syntax.specs.declared.token.Mark.TheVariants as mark
use Rattle.l2_syntax.specs.declared.token.TokenKind.TheVariants as kind
use Rattle.l2_grammar.specs.declared.states.Sort.{Sort}
use Rattle.l2_grammar.specs.declared.states.Sort.TheVariants as sort
use Rattle.l2_grammar.specs.declared.states.Storage.{Storage}
use Rattle.l2_grammar.specs.declared.states.Storage.TheVariants as storage
use Rattle.l2_grammar.specs.declared.states.Named.{Named}
use Rattle.l2_grammar.specs.declared.states.Named.TheVariants as named
use Rattle.l2_grammar.specs.declared.states.Right.{Right}
use Rattle.l2_grammar.specs.declared.states.Right.TheVariants as right
use Rattle.l2_grammar.specs.declared.states.State.{State}
use Rattle.l2_grammar.specs.declared.states.State.TheVariants as st
use Rattle.l2_grammar.specs.declared.states.Outcome.{Outcome}
use Rattle.l2_grammar.specs.declared.states.Outcome.TheVariants as outcome
use Rattle.l2_grammar.specs.Nesting.{is_external, ends_declaration}
use Rattle.l2_grammar.specs.Trees.{Tree, begin}
use Rattle.l2_tree.specs.declared.operators.UnaryOperator.{UnaryOperator}
use Rattle.l2_tree.specs.declared.operators.UpdateOperator.{UpdateOperator}
use Rattle.l2_tree.specs.declared.operators.MemberOperator.{MemberOperator}
use Rattle.l2_tree.specs.declared.operators.BinaryOperator.{BinaryOperator}
use Rattle.l2_tree.specs.declared.operators.AssignmentOperator.{AssignmentOperator}
use Rattle.l2_tree.specs.declared.expression.Tag.{Tag}
use Rattle.l2_tree.specs.declared.expression.Pointer.{Pointer}
use Rattle.l2_tree.specs.Trees.{ExprTree, ExprTrees, and_expr, SpecifierTrees, EnumeratorTrees, ParameterTree, ParameterTrees, and_parameter, DeclaratorTree, CoreTree, SuffixTrees, InitialiserTree, InitialiserTrees, DeclaredTree, DeclaredTrees, no_declarators, and_declarator, DeclarationTree, DeclarationTrees, FirstTree, StmtTree, StmtTrees, BranchTrees, ExternalTree}
use Rattle.l2_tree.specs.Spelling.{nowhere, behind, mark_at, closed, within, bracketed, unary_mark, update_mark, member_mark, binary_mark, assignment_mark, tag_onto, comma_if, has_declarators, run_expr, arguments_onto, specifiers_onto, members_onto, enumerators_onto, run_parameter, parameters_onto, pointers_onto, core_onto, suffixes_onto, run_declarator, run_initialiser, initialisers_onto, declarators_onto, declaration_onto, perhaps, first_onto, head_onto, run_stmt, stmts_onto, branches_onto, run_external, externals_onto}

-- ---- specifiers

-- what stands before them: `typedef`, where an external begins with it
abbrev pub Front : Sort → Storage → Tree → Type 0
Front s storage.Typedef r = (is_external s ≡ true) × (p : Place) × (mark_at (begin s) mark.Typedef p ≡ r)
Front s w r = begin s ≡ r

abbrev pub perhaps_specifiers : Tree → Option SpecifierTrees → Tree
perhaps_specifiers r None = r
perhaps_specifiers r (Some xs) = specifiers_onto r xs

-- perhaps some specifiers
pub record Specifying (s : Sort) (w : Storage) (r : Tree) : Type 0 where
  pub front : Tree
  pub fronts : Front s w front
  pub list : Option SpecifierTrees
  pub is_it : perhaps_specifiers front list ≡ r

pub record Specified (s : Sort) (w : Storage) (r : Tree) : Type 0 where
  pub front : Tree
  pub fronts : Front s w front
  pub list : SpecifierTrees
  pub is_it : specifiers_onto front list ≡ r

-- behind `struct` or `enum`
pub record TagWord (m : Mark) (s : Sort) (w : Storage) (r : Tree) : Type 0 where
  pub before : Tree
  pub specifying : Specifying s w before
  pub place : Place
  pub is_it : mark_at before m place ≡ r

-- behind the tag
pub record TagNamed (m : Mark) (s : Sort) (w : Storage) (r : Tree) : Type 0 where
  pub before : Tree
  pub specifying : Specifying s w before
  pub place : Place
  pub tag : Tag
  pub is_it : tag_onto (mark_at before m place) (Some tag) ≡ r

-- behind the brace
pub record TagBody (m : Mark) (s : Sort) (w : Storage) (r : Tree) : Type 0 where
  pub before : Tree
  pub specifying : Specifying s w before
  pub place : Place
  pub tag : Option Tag
  pub brace : Place
  pub is_it : mark_at (tag_onto (mark_at before m place) tag) mark.OpenBrace brace ≡ r

pub record MemberList (s : Sort) (w : Storage) (r : Tree) : Type 0 where
  pub base : Tree
  pub body : TagBody mark.Struct s w base
  pub list : DeclarationTrees
  pub is_it : members_onto base list ≡ r

abbrev pub next_enumerator : Tree → Option EnumeratorTrees → Tree
next_enumerator r None = r
next_enumerator r (Some es) = closed (enumerators_onto r es) mark.Comma

pub record EnumeratorName (s : Sort) (w : Storage) (r : Tree) : Type 0 where
  pub base : Tree
  pub body : TagBody mark.Enum s w base
  pub list : Option EnumeratorTrees
  pub name : ℕ
  pub place : Place
  pub is_it : behind (next_enumerator base list) (kind.Word name) place ≡ r

pub record EnumeratorEqual (s : Sort) (w : Storage) (r : Tree) : Type 0 where
  pub base : Tree
  pub body : TagBody mark.Enum s w base
  pub list : Option EnumeratorTrees
  pub name : ℕ
  pub place : Place
  pub equal : Place
  pub is_it : mark_at (behind (next_enumerator base list) (kind.Word name) place) mark.Equal equal ≡ r

pub record EnumeratorList (s : Sort) (w : Storage) (r : Tree) : Type 0 where
  pub base : Tree
  pub body : TagBody mark.Enum s w base
  pub list : EnumeratorTrees
  pub is_it : enumerators_onto base list ≡ r

pub record EnumeratorComma (s : Sort) (w : Storage) (r : Tree) : Type 0 where
  pub base : Tree
  pub body : TagBody mark.Enum s w base
  pub list : EnumeratorTrees
  pub is_it : closed (enumerators_onto base list) mark.Comma ≡ r

-- specifiers, of which the last is a tag that a brace may follow, or not
abbrev pub Typed : Sort → Storage → Named → Tree → Type 0
Typed s w named.StructTag r = TagNamed mark.Struct s w r
Typed s w named.EnumTag r = TagNamed mark.Enum s w r
Typed s w y r = Specified s w r

-- ---- declarators

pub record Suffixed (s : Sort) (r : Tree) : Type 0 where
  pub pointers : List Pointer
  pub core : CoreTree
  pub list : SuffixTrees
  pub is_it : suffixes_onto (core_onto (pointers_onto (begin s) pointers) core) list ≡ r

-- behind a `[` or a `(`
pub record Bracket (m : Mark) (s : Sort) (r : Tree) : Type 0 where
  pub base : Tree
  pub suffixed : Suffixed s base
  pub place : Place
  pub is_it : mark_at base m place ≡ r

pub record SizeList (s : Sort) (r : Tree) : Type 0 where
  pub base : Tree
  pub suffixed : Suffixed s base
  pub place : Place
  pub length : ExprTree
  pub is_it : within (mark_at base mark.OpenBracket place) (λ z. run_expr z length) ≡ r

pub record ParameterList (s : Sort) (r : Tree) : Type 0 where
  pub base : Tree
  pub suffixed : Suffixed s base
  pub place : Place
  pub list : ParameterTrees
  pub last : ParameterTree
  pub is_it : parameters_onto (mark_at base mark.OpenParenthesis place) (and_parameter list last) ≡ r

pub record ParameterComma (s : Sort) (r : Tree) : Type 0 where
  pub base : Tree
  pub suffixed : Suffixed s base
  pub place : Place
  pub list : ParameterTrees
  pub last : ParameterTree
  pub is_it : closed (parameters_onto (mark_at base mark.OpenParenthesis place) (and_parameter list last)) mark.Comma ≡ r

-- ---- declarations

-- where a declarator comes, behind these
abbrev pub next_declared : Tree → SpecifierTrees → DeclaredTrees → Tree
next_declared r xs ds = comma_if (has_declarators ds) (declarators_onto (specifiers_onto r xs) ds)

-- behind a declarator; there are others before it only where a declaration ends with a semicolon
pub record Declaring (s : Sort) (w : Storage) (r : Tree) : Type 0 where
  pub front : Tree
  pub fronts : Front s w front
  pub specifiers : SpecifierTrees
  pub list : DeclaredTrees
  pub last : DeclaratorTree
  pub alone : (list ≡ no_declarators) ⊎ (ends_declaration s ≡ true)
  pub is_it : within (next_declared front specifiers list) (λ z. run_declarator z last) ≡ r

-- behind the declarator of a function that may be defined here
pub record FunctionHead (s : Sort) (r : Tree) : Type 0 where
  pub specifiers : SpecifierTrees
  pub declarator : DeclaratorTree
  pub is_it : within (specifiers_onto (begin s) specifiers) (λ z. run_declarator z declarator) ≡ r

pub record InitialiserEqual (s : Sort) (w : Storage) (r : Tree) : Type 0 where
  pub front : Tree
  pub fronts : Front s w front
  pub specifiers : SpecifierTrees
  pub list : DeclaredTrees
  pub last : DeclaratorTree
  pub equal : Place
  pub is_it : mark_at (within (next_declared front specifiers list) (λ z. run_declarator z last)) mark.Equal equal ≡ r

-- behind an initialiser
pub record DeclaredList (s : Sort) (w : Storage) (r : Tree) : Type 0 where
  pub front : Tree
  pub fronts : Front s w front
  pub specifiers : SpecifierTrees
  pub list : DeclaredTrees
  pub last : DeclaredTree
  pub is_it : declarators_onto (specifiers_onto front specifiers) (and_declarator list last) ≡ r

pub record DeclaredComma (s : Sort) (w : Storage) (r : Tree) : Type 0 where
  pub front : Tree
  pub fronts : Front s w front
  pub specifiers : SpecifierTrees
  pub list : DeclaredTrees
  pub last : DeclaredTree
  pub is_it : closed (declarators_onto (specifiers_onto front specifiers) (and_declarator list last)) mark.Comma ≡ r

pub record FunctionBody (s : Sort) (r : Tree) : Type 0 where
  pub external : is_external s ≡ true
  pub specifiers : SpecifierTrees
  pub declarator : DeclaratorTree
  pub brace : Place
  pub items : StmtTrees
  pub is_it : stmts_onto (mark_at (within (specifiers_onto (begin s) specifiers) (λ z. run_declarator z declarator)) mark.OpenBrace brace) items ≡ r

-- a whole declaration, or an external
abbrev pub Ended : Sort → Tree → Type 0
Ended sort.External r = (x : ExternalTree) × (run_external sort.External x ≡ r)
Ended s r = (d : DeclarationTree) × (declaration_onto (begin s) d ≡ r)

-- ---- statements

-- where an `if` comes: at the beginning, or behind `else`
abbrev pub next_branch : Sort → Option BranchTrees → Tree
next_branch s None = begin s
next_branch s (Some bs) = closed (branches_onto (begin s) bs) mark.Else

-- with a statement behind it this is a statement
pub record Body (s : Sort) (r : Tree) : Type 0 where
  pub make : StmtTree → StmtTree
  pub is_it : (t : StmtTree) → run_stmt s (make t) ≡ within r (λ z. run_stmt z t)

-- with a colon and a statement
pub record Labelling (s : Sort) (r : Tree) : Type 0 where
  pub make : StmtTree → StmtTree
  pub is_it : (t : StmtTree) → run_stmt s (make t) ≡ within (closed r mark.Colon) (λ z. run_stmt z t)

-- behind `while` or `switch`
abbrev pub loop_mark : Bool → Mark
loop_mark true = mark.While
loop_mark b = mark.Switch

abbrev pub for_head : Sort → Place → Place → Tree
for_head s p q = mark_at (mark_at (begin s) mark.For p) mark.OpenParenthesis q

-- ---- all

abbrev pub Fresh : Sort → Tree → Type 0
Fresh sort.Unit r = (xs : List ExternalTree) × (externals_onto (begin sort.Unit) xs ≡ r)
Fresh s r = begin s ≡ r

abbrev pub Righted : Sort → Right → Tree → Type 0
Righted s (right.Binary l) r = ((a : ExprTree) × (o : BinaryOperator) × (p : Place) × (mark_at (run_expr s a) (binary_mark o) p ≡ r)) ⊎ ((a : ExprTree) × (closed (run_expr s a) mark.Comma ≡ r))
Righted s right.Assignment r = (a : ExprTree) × (o : AssignmentOperator) × (p : Place) × (mark_at (run_expr s a) (assignment_mark o) p ≡ r)
Righted s right.Conditional r = (a : ExprTree) × (p : Place) × (b : ExprTree) × (closed (within (mark_at (run_expr s a) mark.Question p) (λ z. run_expr z b)) mark.Colon ≡ r)
Righted s right.Cast r = (p : Place) × (t : ParameterTree) × (bracketed (begin s) p (λ z. run_parameter z t) ≡ r)
Righted s right.Prefix r = (o : UnaryOperator) × (p : Place) × (mark_at (begin s) (unary_mark o) p ≡ r)
Righted s right.Update r = (o : UpdateOperator) × (p : Place) × (mark_at (begin s) (update_mark o) p ≡ r)

abbrev pub Form : Sort → State → Tree → Type 0
Form s st.None r = Unit {0}
Form s st.Fresh r = Fresh s r
Form s st.UnitEnd r = (xs : List ExternalTree) × (behind (externals_onto (begin sort.Unit) xs) kind.End nowhere ≡ r)
Form s (st.Have l) r = (a : ExprTree) × (run_expr s a ≡ r)
Form s (st.Right x) r = Righted s x r
Form s st.Sizing r = (p : Place) × (mark_at (begin s) mark.Sizeof p ≡ r)
Form s st.Sized r = (p : Place) × (t : ParameterTree) × (bracketed (begin s) p (λ z. run_parameter z t) ≡ r)
Form s st.Paren r = (p : Place) × (mark_at (begin s) mark.OpenParenthesis p ≡ r)
Form s st.ParenClose r = (p : Place) × (a : ExprTree) × (within (mark_at (begin s) mark.OpenParenthesis p) (λ z. run_expr z a) ≡ r)
Form s st.TypedClose r = (p : Place) × (t : ParameterTree) × (within (mark_at (begin s) mark.OpenParenthesis p) (λ z. run_parameter z t) ≡ r)
Form s st.Index r = (a : ExprTree) × (p : Place) × (mark_at (run_expr s a) mark.OpenBracket p ≡ r)
Form s st.IndexClose r = (a : ExprTree) × (p : Place) × (i : ExprTree) × (within (mark_at (run_expr s a) mark.OpenBracket p) (λ z. run_expr z i) ≡ r)
Form s st.Call r = (a : ExprTree) × (p : Place) × (mark_at (run_expr s a) mark.OpenParenthesis p ≡ r)
Form s st.CallMore r = (a : ExprTree) × (p : Place) × (es : ExprTrees) × (e : ExprTree) × (arguments_onto (mark_at (run_expr s a) mark.OpenParenthesis p) (and_expr es e) ≡ r)
Form s st.CallNext r = (a : ExprTree) × (p : Place) × (es : ExprTrees) × (e : ExprTree) × (closed (arguments_onto (mark_at (run_expr s a) mark.OpenParenthesis p) (and_expr es e)) mark.Comma ≡ r)
Form s st.MemberName r = (a : ExprTree) × (o : MemberOperator) × (p : Place) × (mark_at (run_expr s a) (member_mark o) p ≡ r)
Form s st.Quest r = (a : ExprTree) × (p : Place) × (mark_at (run_expr s a) mark.Question p ≡ r)
Form s st.QuestClose r = (a : ExprTree) × (p : Place) × (b : ExprTree) × (within (mark_at (run_expr s a) mark.Question p) (λ z. run_expr z b) ≡ r)
Form s st.Word r = (n : ℕ) × (p : Place) × (behind (begin s) (kind.Word n) p ≡ r)
Form s st.Block r = (p : Place) × (ss : StmtTrees) × (stmts_onto (mark_at (begin s) mark.OpenBrace p) ss ≡ r)
Form s st.IfOpen r = (o : Option BranchTrees) × (p : Place) × (mark_at (next_branch s o) mark.If p ≡ r)
Form s st.IfTest r = (o : Option BranchTrees) × (p q : Place) × (mark_at (mark_at (next_branch s o) mark.If p) mark.OpenParenthesis q ≡ r)
Form s st.IfClose r = (o : Option BranchTrees) × (p q : Place) × (a : ExprTree) × (within (mark_at (mark_at (next_branch s o) mark.If p) mark.OpenParenthesis q) (λ z. run_expr z a) ≡ r)
Form s st.ThenPart r = (o : Option BranchTrees) × (p q : Place) × (a : ExprTree) × (head_onto (mark_at (next_branch s o) mark.If p) q a ≡ r)
Form s (st.ThenDone b) r = (bs : BranchTrees) × (branches_onto (begin s) bs ≡ r)
Form s st.ElsePart r = (bs : BranchTrees) × (closed (branches_onto (begin s) bs) mark.Else ≡ r)
Form s st.HeadOpen r = (b : Bool) × (p : Place) × (mark_at (begin s) (loop_mark b) p ≡ r)
Form s st.HeadTest r = (b : Bool) × (p q : Place) × (mark_at (mark_at (begin s) (loop_mark b) p) mark.OpenParenthesis q ≡ r)
Form s st.HeadClose r = (b : Bool) × (p q : Place) × (a : ExprTree) × (within (mark_at (mark_at (begin s) (loop_mark b) p) mark.OpenParenthesis q) (λ z. run_expr z a) ≡ r)
Form s st.Body r = Body s r
Form s st.DoBody r = (p : Place) × (mark_at (begin s) mark.Do p ≡ r)
Form s st.DoWhile r = (p : Place) × (t : StmtTree) × (within (mark_at (begin s) mark.Do p) (λ z. run_stmt z t) ≡ r)
Form s st.DoOpen r = (p : Place) × (t : StmtTree) × (w : Place) × (mark_at (within (mark_at (begin s) mark.Do p) (λ z. run_stmt z t)) mark.While w ≡ r)
Form s st.DoTest r = (p : Place) × (t : StmtTree) × (w q : Place) × (mark_at (mark_at (within (mark_at (begin s) mark.Do p) (λ z. run_stmt z t)) mark.While w) mark.OpenParenthesis q ≡ r)
Form s st.DoClose r = (p : Place) × (t : StmtTree) × (w q : Place) × (a : ExprTree) × (within (mark_at (mark_at (within (mark_at (begin s) mark.Do p) (λ z. run_stmt z t)) mark.While w) mark.OpenParenthesis q) (λ z. run_expr z a) ≡ r)
Form s st.ForOpen r = (p : Place) × (mark_at (begin s) mark.For p ≡ r)
Form s st.ForInit r = (p q : Place) × (for_head s p q ≡ r)
Form s st.ForInitClose r = (p q : Place) × (a : ExprTree) × (within (for_head s p q) (λ z. run_expr z a) ≡ r)
Form s st.ForSecond r = (p q : Place) × (f : FirstTree) × (first_onto (for_head s p q) f ≡ r)
Form s st.ForSecondClose r = (p q : Place) × (f : FirstTree) × (a : ExprTree) × (within (first_onto (for_head s p q) f) (λ z. run_expr z a) ≡ r)
Form s st.ForThird r = (p q : Place) × (f : FirstTree) × (c : Option ExprTree) × (closed (perhaps (first_onto (for_head s p q) f) c) mark.Semicolon ≡ r)
Form s st.ForClose r = (p q : Place) × (f : FirstTree) × (c : Option ExprTree) × (a : ExprTree) × (within (closed (perhaps (first_onto (for_head s p q) f) c) mark.Semicolon) (λ z. run_expr z a) ≡ r)
Form s st.CaseValue r = (p : Place) × (mark_at (begin s) mark.Case p ≡ r)
Form s st.Colon r = Labelling s r
Form s st.Returning r = (p : Place) × (mark_at (begin s) mark.Return p ≡ r)
Form s st.Semicolon r = (t : StmtTree) × (run_stmt s t ≡ closed r mark.Semicolon)
Form s (st.Statement b) r = (t : StmtTree) × (run_stmt s t ≡ r)
Form s (st.BeforeType w) r = Specifying s w r
Form s (st.Typed w y) r = Typed s w y r
Form s (st.StructWord w) r = TagWord mark.Struct s w r
Form s (st.EnumWord w) r = TagWord mark.Enum s w r
Form s (st.Members w) r = MemberList s w r
Form s (st.Enumerators w) r = TagBody mark.Enum s w r
Form s (st.Enumerator w) r = EnumeratorName s w r
Form s (st.EnumValue w) r = EnumeratorEqual s w r
Form s (st.EnumValueClose w) r = EnumeratorList s w r
Form s (st.EnumComma w) r = EnumeratorComma s w r
Form s (st.Declared w h b) r = Declaring s w r × (b ≡ true → FunctionHead s r)
Form s (st.InitValue w) r = InitialiserEqual s w r
Form s (st.InitClose w) r = DeclaredList s w r
Form s (st.NextDeclarator w) r = DeclaredComma s w r
Form s st.DeclarationEnd r = Ended s r
Form s st.FunctionBlock r = FunctionBody s r
Form s st.Braces r = (p : Place) × (mark_at (begin s) mark.OpenBrace p ≡ r)
Form s st.BraceMore r = (p : Place) × (ns : InitialiserTrees) × (initialisers_onto (mark_at (begin s) mark.OpenBrace p) ns ≡ r)
Form s st.BraceNext r = (p : Place) × (ns : InitialiserTrees) × (closed (initialisers_onto (mark_at (begin s) mark.OpenBrace p) ns) mark.Comma ≡ r)
Form s st.Braced r = (n : InitialiserTree) × (run_initialiser s n ≡ r)
Form s st.Stars r = (ps : List Pointer) × (p : Place) × (mark_at (pointers_onto (begin s) ps) mark.Star p ≡ r)
Form s st.StarsConst r = (ps : List Pointer) × (pointers_onto (begin s) ps ≡ r)
Form s (st.Group b) r = (ps : List Pointer) × (p : Place) × (mark_at (pointers_onto (begin s) ps) mark.OpenParenthesis p ≡ r)
Form s (st.GroupClose b h) r = (ps : List Pointer) × (p : Place) × (d : DeclaratorTree) × (within (mark_at (pointers_onto (begin s) ps) mark.OpenParenthesis p) (λ z. run_declarator z d) ≡ r)
Form s (st.Direct b h) r = Suffixed s r
Form s (st.Size b h) r = Bracket mark.OpenBracket s r
Form s (st.SizeClose b h) r = SizeList s r
Form s (st.Parameters b h) r = Bracket mark.OpenParenthesis s r
Form s (st.ParametersMore b h now later) r = ParameterList s r
Form s (st.ParametersNext b h c) r = ParameterComma s r

-- ---- what a whole construct is to the one round it

abbrev pub Value : Sort → Tree → Type 0
Value sort.SizeofOperand r = ((a : ExprTree) × (run_expr sort.SizeofOperand a ≡ r)) ⊎ ((p : Place) × (t : ParameterTree) × (bracketed (begin sort.SizeofOperand) p (λ z. run_parameter z t) ≡ r))
Value sort.Initialiser r = (n : InitialiserTree) × (run_initialiser sort.Initialiser n ≡ r)
Value s r = (a : ExprTree) × (run_expr s a ≡ r)

abbrev pub Made : Sort → Outcome → Tree → Type 0
Made s outcome.Unfinished r = Unit {0}
Made s outcome.Value r = Value s r
Made s (outcome.Stated b) r = (t : StmtTree) × (run_stmt s t ≡ r)
Made s outcome.Declaration r = Ended s r
Made s (outcome.Specified a v) r = ends_declaration s ≡ false → (t : ParameterTree) × (run_parameter s t ≡ r)
Made s (outcome.Declares h) r = (d : DeclaratorTree) × (run_declarator s d ≡ r)
