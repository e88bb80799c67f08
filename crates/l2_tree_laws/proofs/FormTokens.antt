-- How a construct that has been read so far goes on with a token.
use Rattle.std.proofs.Common.{◌≡◌, inl, inr, refl, ◌∙◌, ap, sym, subst, ℕ, Bool, true, false, cond, leb, List, [], ◌∷◌, ◌++◌, Option, None, Some}
use Rattle.l2_syntax.specs.declared.place.Place.{Place}
use Rattle.l2_syntax.specs.declared.token.Mark.{Mark}
use Rattle.l2_syntax.specs.declared.token.Mark.TheVariants as mark
use Rattle.l2_syntax.specs.declared.token.TokenKind.{TokenKind}
use Rattle.l2_syntax.specs.declared.token.TokenKind.TheVariants as kind
use Rattle.l2_grammar.specs.declared.states.Items.{Items}
use Rattle.l2_grammar.specs.declared.states.Items.TheVariants as items
use Rattle.l2_grammar.specs.declared.states.Sort.{Sort}
use Rattle.l2_grammar.specs.declared.states.Sort.TheVariants as sort
use Rattle.l2_grammar.specs.declared.states.Storage.{Storage}
use Rattle.l2_grammar.specs.declared.states.Storage.TheVariants as storage
use Rattle.l2_grammar.specs.declared.states.Length.{Length}
use Rattle.l2_grammar.specs.declared.states.Length.TheVariants as length
use Rattle.l2_grammar.specs.declared.states.Core.{Core}
use Rattle.l2_grammar.specs.declared.states.Core.TheVariants as core
use Rattle.l2_grammar.specs.declared.states.Named.{Named}
use Rattle.l2_grammar.specs.declared.states.Named.TheVariants as named
use Rattle.l2_grammar.specs.declared.states.Shape.TheVariants as shape
use Rattle.l2_grammar.specs.declared.states.Right.TheVariants as right
use Rattle.l2_grammar.specs.declared.states.State.{State}
use Rattle.l2_grammar.specs.declared.states.State.TheVariants as st
use Rattle.l2_grammar.specs.Marks.{is}
use Rattle.l2_grammar.specs.Networks.{on, on_word, on_token, applied, indexed, wants_left, continued, add_sign, add_core, add_short, add_long, add_word, store, specifier, closed as closed_name, add_to, alone_in, after_type, begun, begun_item, begun_item_in, begun_external, begun_declarator, begun_enclosed, begun_as, after_declarator, cast_in}
use Rattle.l2_grammar.specs.Nesting.{stands, is_external}
use Rattle.l2_grammar.specs.Trees.{Tree, begin}
use Rattle.l2_grammar.proofs.Tokens.{is_mark, none_stands}
use Rattle.l2_grammar.proofs.Bools.{no}
use Rattle.l2_tree.specs.declared.operators.UnaryOperator.TheVariants as unary
use Rattle.l2_tree.specs.declared.operators.UpdateOperator.TheVariants as update
use Rattle.l2_tree.specs.declared.operators.MemberOperator.TheVariants as member
use Rattle.l2_tree.specs.declared.operators.BinaryOperator.TheVariants as binary
use Rattle.l2_tree.specs.declared.operators.AssignmentOperator.TheVariants as assignment
use Rattle.l2_tree.specs.declared.operators.SpecifierWord.TheVariants as word
use Rattle.l2_tree.specs.declared.expression.Pointer.{Pointer}
use Rattle.l2_tree.specs.declared.expression.Pointer.TheVariants as pointer
use Rattle.l2_tree.proofs.Declarations.{pointers-end}
use Rattle.l2_tree.specs.Trees.{ExprTree, ParameterTree, Name, Number, Text, Parenthesised, Index, Call, Member, PostUpdate, and_expr, no_exprs, SpecifierTree, Word, TypeName, Struct, StructBody, Enum, EnumBody, SpecifierTrees, first_specifier, and_specifier, EnumeratorTree, Plain, EnumeratorTrees, CoreTree, Absent, Named as NamedCore, Group, Array, ArrayOf, Parameters, no_parameters, and_parameter, no_suffixes, and_suffix, Braced, Uninitialised, no_declarators, and_declarator, DeclarationTree, Declaration, no_declarations, NoFirst, FirstExpression, For, StmtTree, Block, Evaluate, Empty, While, Switch, Do, Default, Label, Break, Continue, Return, no_stmts, ExternalTree, Nothing, Global, Typedef, Function}
use Rattle.l2_tree.specs.Spelling.{nowhere, is_placed, behind, mark_at, closed, within, bracketed, head_onto, run_parameter, run_expr, specifier_onto, members_onto, enumerator_onto, enumerators_onto, parameters_onto, declaration_onto, pointers_onto, core_onto, run_stmt, run_external}
use Rattle.l2_tree.specs.Build.{add_enumerator}
use Rattle.l2_tree_laws.proofs.Forms.{Front, perhaps_specifiers, Specifying, Specified, TagWord, TagNamed, TagBody, MemberList, next_enumerator, EnumeratorName, EnumeratorList, EnumeratorComma, Typed, Suffixed, Declaring, FunctionHead, DeclaredList, DeclaredComma, FunctionBody, Ended, Body, loop_mark, Form}

-- ---- tokens

pub no_none : (s : Sort) → stands s st.None ≡ true → ⊥
no_none s h = no h (none_stands s)

-- behind this token it is in this state
abbrev pub Goes : Sort → Tree → Place → TokenKind → State → Type 0
Goes s a p k x = cond (is_placed k) p nowhere ≡ p → Form s x (behind a k p)

pub on_goes : (s : Sort) (a : Tree) (p : Place) (m : Mark) (x : State) (k : TokenKind) (rest : State) → stands s (on m x k rest) ≡ true → Goes s a p (kind.Mark m) x → (stands s rest ≡ true → Goes s a p k rest) → Goes s a p k (on m x k rest)
on_goes s a p m x k rest h f g = go (is m k) refl h
  where
    go : (b : Bool) → is m k ≡ b → stands s (cond b x rest) ≡ true → Goes s a p k (cond b x rest)
    go true i j = subst (λ z. Goes s a p z x) (sym (is_mark m k i)) f
    go false i j = g j

pub one : (s : Sort) (a : Tree) (p : Place) (m : Mark) (x : State) (k : TokenKind) → stands s (on m x k st.None) ≡ true → Goes s a p (kind.Mark m) x → Goes s a p k (on m x k st.None)
one s a p m x k h f = on_goes s a p m x k st.None h f (λ j. absurd (no_none s j))

pub shut : {b a : Tree} {p : Place} (m : Mark) → b ≡ a → nowhere ≡ p → closed b m ≡ behind a (kind.Mark m) p
shut {a = a} m e i = ap (λ z. behind z (kind.Mark m) nowhere) e ∙ ap (λ z. behind a (kind.Mark m) z) i

pub put : {b a : Tree} (k : TokenKind) (p : Place) → b ≡ a → behind b k p ≡ behind a k p
put k p e = ap (λ z. behind z k p) e

-- ---- specifiers

specified_first : (s : Sort) (w : Storage) (f : Tree) (o : Option SpecifierTrees) (b : Tree) → Front s w f → perhaps_specifiers f o ≡ b → (x : SpecifierTree) → Specified s w (specifier_onto b x)
specified_first s w f None b e i x = record { front = f; fronts = e; list = first_specifier x; is_it = ap (λ z. specifier_onto z x) i }
specified_first s w f (Some xs) b e i x = record { front = f; fronts = e; list = and_specifier xs x; is_it = ap (λ z. specifier_onto z x) i }

-- with one more specifier
pub more : {s : Sort} {w : Storage} {b : Tree} (x : SpecifierTree) → Specifying s w b → Specified s w (specifier_onto b x)
more {s = s} {w = w} {b = b} x i = specified_first s w i.front i.list b i.fronts i.is_it x

pub more_is : {s : Sort} {w : Storage} {b r : Tree} (x : SpecifierTree) → Specifying s w b → specifier_onto b x ≡ r → Specified s w r
more_is {s = s} {w = w} x i e = subst (Specified s w) e (more x i)

pub specified : (s : Sort) (w : Storage) (y : Named) (r : Tree) → Typed s w y r → Specified s w r
specified s w named.StructTag r i = more_is (Struct i.place i.tag) i.specifying i.is_it
specified s w named.EnumTag r i = more_is (Enum i.place i.tag) i.specifying i.is_it
specified s w (named.Number a l c) r i = i
specified s w named.Nothing r i = i
specified s w named.Other r i = i
specified s w named.Tagged r i = i

as_specifying : {s : Sort} {w : Storage} {r : Tree} → Specified s w r → Specifying s w r
as_specifying i = record { front = i.front; fronts = i.fronts; list = Some i.list; is_it = i.is_it }

-- `static` or `extern` where no such word stands yet
stored_front : (s : Sort) (f : Tree) → Front s storage.Automatic f → Front s storage.Stored f
stored_front s f e = e

stored : {s : Sort} {r : Tree} → Specified s storage.Automatic r → Specified s storage.Stored r
stored {s = s} i = record { front = i.front; fronts = stored_front s i.front i.fronts; list = i.list; is_it = i.is_it }

closed_typed : (s : Sort) (w : Storage) (y : Named) (r : Tree) → Specified s w r → Typed s w (closed_name y) r
closed_typed s w named.StructTag r i = i
closed_typed s w named.EnumTag r i = i
closed_typed s w (named.Number a l c) r i = i
closed_typed s w named.Nothing r i = i
closed_typed s w named.Other r i = i
closed_typed s w named.Tagged r i = i

-- a word of a number's type
add_sign_goes : (s : Sort) (a : Tree) (p : Place) (m : Mark) (w : Storage) (b : Bool) (l : Length) (c : Core) → stands s (add_sign w b l c) ≡ true → Specified s w (mark_at a m p) → Form s (add_sign w b l c) (mark_at a m p)
add_sign_goes s a p m w false l c h i = i
add_sign_goes s a p m w true l c h i = absurd (no_none s h)

add_core_goes : (s : Sort) (a : Tree) (p : Place) (m : Mark) (w : Storage) (b : Bool) (l : Length) (c d : Core) → stands s (add_core w b l c d) ≡ true → Specified s w (mark_at a m p) → Form s (add_core w b l c d) (mark_at a m p)
add_core_goes s a p m w b l core.NoCore core.Int h i = i
add_core_goes s a p m w b length.NoLength core.NoCore core.Char h i = i
add_core_goes s a p m w b l c d h i = absurd (no_none s h)

add_short_goes : (s : Sort) (a : Tree) (p : Place) (m : Mark) (w : Storage) (b : Bool) (l : Length) (c : Core) → stands s (add_short w b l c) ≡ true → Specified s w (mark_at a m p) → Form s (add_short w b l c) (mark_at a m p)
add_short_goes s a p m w b length.NoLength core.NoCore h i = i
add_short_goes s a p m w b length.NoLength core.Int h i = i
add_short_goes s a p m w b l c h i = absurd (no_none s h)

add_long_goes : (s : Sort) (a : Tree) (p : Place) (m : Mark) (w : Storage) (b : Bool) (l : Length) (c : Core) → stands s (add_long w b l c) ≡ true → Specified s w (mark_at a m p) → Form s (add_long w b l c) (mark_at a m p)
add_long_goes s a p m w b length.NoLength core.NoCore h i = i
add_long_goes s a p m w b length.NoLength core.Int h i = i
add_long_goes s a p m w b length.Long c h i = i
add_long_goes s a p m w b l c h i = absurd (no_none s h)

add_word_goes : (s : Sort) (a : Tree) (p : Place) (w : Storage) (b : Bool) (l : Length) (c : Core) (k : TokenKind) → Specifying s w a → stands s (add_word w b l c k) ≡ true → Goes s a p k (add_word w b l c k)
add_word_goes s a p w b l c (kind.Mark mark.Signed) i h e = add_sign_goes s a p mark.Signed w b l c h (more (Word word.Signed p) i)
add_word_goes s a p w b l c (kind.Mark mark.Unsigned) i h e = add_sign_goes s a p mark.Unsigned w b l c h (more (Word word.Unsigned p) i)
add_word_goes s a p w b l c (kind.Mark mark.Int) i h e = add_core_goes s a p mark.Int w b l c core.Int h (more (Word word.Int p) i)
add_word_goes s a p w b l c (kind.Mark mark.Char) i h e = add_core_goes s a p mark.Char w b l c core.Char h (more (Word word.Char p) i)
add_word_goes s a p w b l c (kind.Mark mark.Short) i h e = add_short_goes s a p mark.Short w b l c h (more (Word word.Short p) i)
add_word_goes s a p w b l c (kind.Mark mark.Long) i h e = add_long_goes s a p mark.Long w b l c h (more (Word word.Long p) i)
add_word_goes s a p w b l c k i h e = absurd (no_none s h)

store_before_goes : (s : Sort) (w : Storage) (r : Tree) → stands s (store st.BeforeType w) ≡ true → Specified s w r → Form s (store st.BeforeType w) r
store_before_goes s storage.Automatic r h i = as_specifying (stored i)
store_before_goes s w r h i = absurd (no_none s h)

store_typed_goes : (s : Sort) (w : Storage) (y : Named) (r : Tree) → stands s (store (λ v. st.Typed v (closed_name y)) w) ≡ true → Specified s w r → Form s (store (λ v. st.Typed v (closed_name y)) w) r
store_typed_goes s storage.Automatic y r h i = closed_typed s storage.Stored y r (stored i)
store_typed_goes s w y r h i = absurd (no_none s h)

-- a specifier, where no type stands yet
pub specifier_goes : (s : Sort) (a : Tree) (p : Place) (w : Storage) (k : TokenKind) → Specifying s w a → stands s (specifier w k) ≡ true → Goes s a p k (specifier w k)
specifier_goes s a p w (kind.TypeName n) i h e = more (TypeName n p) i
specifier_goes s a p w (kind.Mark mark.Bool) i h e = more (Word word.Bool p) i
specifier_goes s a p w (kind.Mark mark.Void) i h e = more (Word word.Void p) i
specifier_goes s a p w (kind.Mark mark.Struct) i h e = record { before = a; specifying = i; place = p; is_it = refl }
specifier_goes s a p w (kind.Mark mark.Enum) i h e = record { before = a; specifying = i; place = p; is_it = refl }
specifier_goes s a p w (kind.Mark mark.Const) i h e = as_specifying (more (Word word.Const p) i)
specifier_goes s a p w (kind.Mark mark.Static) i h e = store_before_goes s w (mark_at a mark.Static p) h (more (Word word.Static p) i)
specifier_goes s a p w (kind.Mark mark.Extern) i h e = store_before_goes s w (mark_at a mark.Extern p) h (more (Word word.Extern p) i)
specifier_goes s a p w (kind.Mark m) i h e = add_word_goes s a p w false length.NoLength core.NoCore (kind.Mark m) i h e
specifier_goes s a p w k i h e = absurd (no_none s h)

-- ---- declarations end

pub ended : (s : Sort) (w : Storage) (f : Tree) → Front s w f → (d : DeclarationTree) → Ended s (declaration_onto f d)
ended sort.External storage.Typedef f e d = (Typedef e.1 d, ap (λ z. declaration_onto z d) e.2)
ended sort.External storage.Automatic f e d = (Global d, ap (λ z. declaration_onto z d) e)
ended sort.External storage.Stored f e d = (Global d, ap (λ z. declaration_onto z d) e)
ended s storage.Typedef f e d = absurd (cc)
ended s storage.Automatic f e d = (d, ap (λ z. declaration_onto z d) e)
ended s storage.Stored f e d = (d, ap (λ z. declaration_onto z d) e)

ended_at : (s : Sort) (w : Storage) (f r : Tree) → Front s w f → (d : DeclarationTree) → declaration_onto f d ≡ r → Ended s r
ended_at s w f r e d i = subst (Ended s) i (ended s w f e d)

alone_goes : (s : Sort) (w : Storage) (a : Tree) (p : Place) → Specified s w a → nowhere ≡ p → Ended s (mark_at a mark.Semicolon p)
alone_goes s w a p i e = ended_at s w i.front (mark_at a mark.Semicolon p) i.fronts (Declaration i.list no_declarators) (shut mark.Semicolon i.is_it e)

alone_in_goes : (s : Sort) (w : Storage) (y : Named) (a : Tree) (p : Place) → stands s (alone_in s y) ≡ true → Specified s w a → nowhere ≡ p → Form s (alone_in s y) (mark_at a mark.Semicolon p)
alone_in_goes sort.Member w y a p h i e = absurd (no_none sort.Member h)
alone_in_goes s w named.StructTag a p h i e = alone_goes s w a p i e
alone_in_goes s w named.EnumTag a p h i e = alone_goes s w a p i e
alone_in_goes s w named.Tagged a p h i e = alone_goes s w a p i e
alone_in_goes s w y a p h i e = absurd (no_none s h)

body_at : {m : Mark} {s : Sort} {w : Storage} {a : Tree} (p : Place) → TagNamed m s w a → TagBody m s w (mark_at a mark.OpenBrace p)
body_at p i = record { before = i.before; specifying = i.specifying; place = i.place; tag = Some i.tag; brace = p; is_it = put (kind.Mark mark.OpenBrace) p i.is_it }

add_to_goes : (s : Sort) (a : Tree) (p : Place) (w : Storage) (y : Named) (k : TokenKind) → Typed s w y a → stands s (add_to w y k) ≡ true → Goes s a p k (add_to w y k)
add_to_goes s a p w (named.Number b l c) k i h = add_word_goes s a p w b l c k (as_specifying i) h
add_to_goes s a p w named.StructTag k i h = one s a p mark.OpenBrace (st.Members w) k h (λ e. record { base = mark_at a mark.OpenBrace p; body = body_at p i; list = no_declarations; is_it = refl })
add_to_goes s a p w named.EnumTag k i h = one s a p mark.OpenBrace (st.Enumerators w) k h (λ e. body_at p i)
add_to_goes s a p w y k i h = absurd (no_none s h)

-- behind the type
after_type_goes : (s : Sort) (a : Tree) (p : Place) (w : Storage) (y : Named) (k : TokenKind) → Typed s w y a → stands s (after_type s w y k) ≡ true → Goes s a p k (after_type s w y k)
after_type_goes s a p w y (kind.Mark mark.Const) i h e = closed_typed s w y (mark_at a mark.Const p) (more (Word word.Const p) (as_specifying (specified s w y a i)))
after_type_goes s a p w y (kind.Mark mark.Static) i h e = store_typed_goes s w y (mark_at a mark.Static p) h (more (Word word.Static p) (as_specifying (specified s w y a i)))
after_type_goes s a p w y (kind.Mark mark.Extern) i h e = store_typed_goes s w y (mark_at a mark.Extern p) h (more (Word word.Extern p) (as_specifying (specified s w y a i)))
after_type_goes s a p w y (kind.Mark mark.Semicolon) i h e = alone_in_goes s w y a p h (specified s w y a i) e
after_type_goes s a p w y k i h e = add_to_goes s a p w y k i h e

-- ---- expressions

pub continued_goes : (s : Sort) (a : Tree) (p : Place) (x : ExprTree) (k : TokenKind) → run_expr s x ≡ a → stands s (continued k) ≡ true → Goes s a p k (continued k)
continued_goes s a p x (kind.Mark mark.OpenBracket) i h e = (x, p, put (kind.Mark mark.OpenBracket) p i)
continued_goes s a p x (kind.Mark mark.OpenParenthesis) i h e = (x, p, put (kind.Mark mark.OpenParenthesis) p i)
continued_goes s a p x (kind.Mark mark.Dot) i h e = (x, member.Dot, p, put (kind.Mark mark.Dot) p i)
continued_goes s a p x (kind.Mark mark.Arrow) i h e = (x, member.Arrow, p, put (kind.Mark mark.Arrow) p i)
continued_goes s a p x (kind.Mark mark.PlusPlus) i h e = (PostUpdate x update.Increment p, put (kind.Mark mark.PlusPlus) p i)
continued_goes s a p x (kind.Mark mark.MinusMinus) i h e = (PostUpdate x update.Decrement p, put (kind.Mark mark.MinusMinus) p i)
continued_goes s a p x (kind.Mark mark.Question) i h e = (x, p, put (kind.Mark mark.Question) p i)
continued_goes s a p x (kind.Mark mark.Comma) i h e = inr (x, shut mark.Comma i e)
continued_goes s a p x (kind.Mark mark.Semicolon) i h e = (Evaluate x, shut mark.Semicolon i e)
continued_goes s a p x (kind.Mark mark.Star) i h e = inl (x, binary.Multiply, p, put (kind.Mark mark.Star) p i)
continued_goes s a p x (kind.Mark mark.Slash) i h e = inl (x, binary.Divide, p, put (kind.Mark mark.Slash) p i)
continued_goes s a p x (kind.Mark mark.Percent) i h e = inl (x, binary.Remainder, p, put (kind.Mark mark.Percent) p i)
continued_goes s a p x (kind.Mark mark.Plus) i h e = inl (x, binary.Add, p, put (kind.Mark mark.Plus) p i)
continued_goes s a p x (kind.Mark mark.Minus) i h e = inl (x, binary.Subtract, p, put (kind.Mark mark.Minus) p i)
continued_goes s a p x (kind.Mark mark.ShiftLeft) i h e = inl (x, binary.ShiftLeft, p, put (kind.Mark mark.ShiftLeft) p i)
continued_goes s a p x (kind.Mark mark.ShiftRight) i h e = inl (x, binary.ShiftRight, p, put (kind.Mark mark.ShiftRight) p i)
continued_goes s a p x (kind.Mark mark.Less) i h e = inl (x, binary.Less, p, put (kind.Mark mark.Less) p i)
continued_goes s a p x (kind.Mark mark.Greater) i h e = inl (x, binary.Greater, p, put (kind.Mark mark.Greater) p i)
continued_goes s a p x (kind.Mark mark.LessEqual) i h e = inl (x, binary.LessEqual, p, put (kind.Mark mark.LessEqual) p i)
continued_goes s a p x (kind.Mark mark.GreaterEqual) i h e = inl (x, binary.GreaterEqual, p, put (kind.Mark mark.GreaterEqual) p i)
continued_goes s a p x (kind.Mark mark.EqualEqual) i h e = inl (x, binary.Equal, p, put (kind.Mark mark.EqualEqual) p i)
continued_goes s a p x (kind.Mark mark.NotEqual) i h e = inl (x, binary.NotEqual, p, put (kind.Mark mark.NotEqual) p i)
continued_goes s a p x (kind.Mark mark.Ampersand) i h e = inl (x, binary.BitAnd, p, put (kind.Mark mark.Ampersand) p i)
continued_goes s a p x (kind.Mark mark.Caret) i h e = inl (x, binary.BitXor, p, put (kind.Mark mark.Caret) p i)
continued_goes s a p x (kind.Mark mark.Bar) i h e = inl (x, binary.BitOr, p, put (kind.Mark mark.Bar) p i)
continued_goes s a p x (kind.Mark mark.AndAnd) i h e = inl (x, binary.And, p, put (kind.Mark mark.AndAnd) p i)
continued_goes s a p x (kind.Mark mark.OrOr) i h e = inl (x, binary.Or, p, put (kind.Mark mark.OrOr) p i)
continued_goes s a p x (kind.Mark mark.Equal) i h e = (x, assignment.Assign, p, put (kind.Mark mark.Equal) p i)
continued_goes s a p x (kind.Mark mark.StarEqual) i h e = (x, assignment.Multiply, p, put (kind.Mark mark.StarEqual) p i)
continued_goes s a p x (kind.Mark mark.SlashEqual) i h e = (x, assignment.Divide, p, put (kind.Mark mark.SlashEqual) p i)
continued_goes s a p x (kind.Mark mark.PercentEqual) i h e = (x, assignment.Remainder, p, put (kind.Mark mark.PercentEqual) p i)
continued_goes s a p x (kind.Mark mark.PlusEqual) i h e = (x, assignment.Add, p, put (kind.Mark mark.PlusEqual) p i)
continued_goes s a p x (kind.Mark mark.MinusEqual) i h e = (x, assignment.Subtract, p, put (kind.Mark mark.MinusEqual) p i)
continued_goes s a p x (kind.Mark mark.ShiftLeftEqual) i h e = (x, assignment.ShiftLeft, p, put (kind.Mark mark.ShiftLeftEqual) p i)
continued_goes s a p x (kind.Mark mark.ShiftRightEqual) i h e = (x, assignment.ShiftRight, p, put (kind.Mark mark.ShiftRightEqual) p i)
continued_goes s a p x (kind.Mark mark.AmpersandEqual) i h e = (x, assignment.BitAnd, p, put (kind.Mark mark.AmpersandEqual) p i)
continued_goes s a p x (kind.Mark mark.CaretEqual) i h e = (x, assignment.BitXor, p, put (kind.Mark mark.CaretEqual) p i)
continued_goes s a p x (kind.Mark mark.BarEqual) i h e = (x, assignment.BitOr, p, put (kind.Mark mark.BarEqual) p i)
continued_goes s a p x k i h e = absurd (no_none s h)

have_goes : (s : Sort) (a : Tree) (p : Place) (x : ExprTree) (k : TokenKind) (b : Bool) → run_expr s x ≡ a → stands s (cond b (continued k) st.None) ≡ true → Goes s a p k (cond b (continued k) st.None)
have_goes s a p x k true i h = continued_goes s a p x k i h
have_goes s a p x k false i h = absurd (no_none s h)

automatic_front : (s : Sort) → Specifying s storage.Automatic (begin s)
automatic_front s = record { front = begin s; fronts = refl; list = None; is_it = refl }

pub begun_goes : (s : Sort) (p : Place) (k : TokenKind) → stands s (begun k) ≡ true → Goes s (begin s) p k (begun k)
begun_goes s p (kind.Word n) h e = (Name n p, refl)
begun_goes s p (kind.Number v y) h e = (Number v y p, refl)
begun_goes s p kind.Text h e = (Text p, refl)
begun_goes s p (kind.Mark mark.OpenParenthesis) h e = (p, refl)
begun_goes s p (kind.Mark mark.PlusPlus) h e = (update.Increment, p, refl)
begun_goes s p (kind.Mark mark.MinusMinus) h e = (update.Decrement, p, refl)
begun_goes s p (kind.Mark mark.Sizeof) h e = (p, refl)
begun_goes s p (kind.Mark mark.Ampersand) h e = (unary.Address, p, refl)
begun_goes s p (kind.Mark mark.Star) h e = (unary.Dereference, p, refl)
begun_goes s p (kind.Mark mark.Plus) h e = (unary.Plus, p, refl)
begun_goes s p (kind.Mark mark.Minus) h e = (unary.Negate, p, refl)
begun_goes s p (kind.Mark mark.Tilde) h e = (unary.Complement, p, refl)
begun_goes s p (kind.Mark mark.Exclamation) h e = (unary.Not, p, refl)
begun_goes s p k h e = specifier_goes s (begin s) p storage.Automatic k (automatic_front s) h e

begun_item_goes : (s : Sort) (p : Place) (k : TokenKind) → stands s (begun_item k) ≡ true → Goes s (begin s) p k (begun_item k)
begun_item_goes s p (kind.Word n) h e = (n, p, refl)
begun_item_goes s p (kind.Mark mark.OpenBrace) h e = (p, no_stmts, refl)
begun_item_goes s p (kind.Mark mark.If) h e = (None, p, refl)
begun_item_goes s p (kind.Mark mark.While) h e = (true, p, refl)
begun_item_goes s p (kind.Mark mark.Switch) h e = (false, p, refl)
begun_item_goes s p (kind.Mark mark.Do) h e = (p, refl)
begun_item_goes s p (kind.Mark mark.For) h e = (p, refl)
begun_item_goes s p (kind.Mark mark.Case) h e = (p, refl)
begun_item_goes s p (kind.Mark mark.Default) h e = record { make = λ t. Default p t; is_it = λ t. refl }
begun_item_goes s p (kind.Mark mark.Break) h e = (Break p, refl)
begun_item_goes s p (kind.Mark mark.Continue) h e = (Continue p, refl)
begun_item_goes s p (kind.Mark mark.Return) h e = (p, refl)
begun_item_goes s p (kind.Mark mark.Semicolon) h e = (Empty, shut mark.Semicolon refl e)
begun_item_goes s p k h e = begun_goes s p k h e

begun_item_in_goes : (s : Sort) (p : Place) (b : Items) (k : TokenKind) → stands s (begun_item_in b k) ≡ true → Goes s (begin s) p k (begun_item_in b k)
begun_item_in_goes s p items.BehindElse (kind.Mark mark.If) h e = absurd (no_none s h)
begun_item_in_goes s p items.BehindElse (kind.Mark m) h e = begun_item_goes s p (kind.Mark m) h e
begun_item_in_goes s p items.BehindElse k h e = begun_item_goes s p k h e
begun_item_in_goes s p b k h e = begun_item_goes s p k h e

begun_external_goes : (p : Place) (k : TokenKind) → stands sort.External (begun_external k) ≡ true → Goes sort.External (begin sort.External) p k (begun_external k)
begun_external_goes p (kind.Mark mark.Semicolon) h e = (Nothing, shut mark.Semicolon refl e)
begun_external_goes p (kind.Mark mark.Typedef) h e = record { front = mark_at (begin sort.External) mark.Typedef p; fronts = (refl, p, refl); list = None; is_it = refl }
begun_external_goes p k h e = specifier_goes sort.External (begin sort.External) p storage.Automatic k (automatic_front sort.External) h e

-- ---- declarators

suffixed_at : {s : Sort} {r : Tree} (ps : List Pointer) (c : CoreTree) → core_onto (pointers_onto (begin s) ps) c ≡ r → Suffixed s r
suffixed_at ps c i = record { pointers = ps; core = c; list = no_suffixes; is_it = i }

begun_declarator_goes : (s : Sort) (a : Tree) (p : Place) (b : Bool) (k : TokenKind) (ps : List Pointer) → pointers_onto (begin s) ps ≡ a → stands s (begun_declarator b k) ≡ true → Goes s a p k (begun_declarator b k)
begun_declarator_goes s a p b (kind.Word n) ps i h e = suffixed_at ps (NamedCore n p) (put (kind.Word n) p i)
begun_declarator_goes s a p b (kind.Mark mark.Star) ps i h e = (ps, p, put (kind.Mark mark.Star) p i)
begun_declarator_goes s a p b (kind.Mark mark.OpenParenthesis) ps i h e = (ps, p, put (kind.Mark mark.OpenParenthesis) p i)
begun_declarator_goes s a p b (kind.Mark mark.OpenBracket) ps i h e = record { base = a; suffixed = suffixed_at ps Absent i; place = p; is_it = refl }
begun_declarator_goes s a p b k ps i h e = absurd (no_none s h)

begun_enclosed_goes : (s : Sort) (p : Place) (k : TokenKind) → stands s (begun_enclosed k) ≡ true → Goes s (begin s) p k (begun_enclosed k)
begun_enclosed_goes s p (kind.Word n) h e = suffixed_at [] (NamedCore n p) refl
begun_enclosed_goes s p (kind.Mark mark.Star) h e = ([], p, refl)
begun_enclosed_goes s p (kind.Mark mark.OpenParenthesis) h e = ([], p, refl)
begun_enclosed_goes s p (kind.Mark mark.OpenBracket) h e = record { base = begin s; suffixed = suffixed_at [] Absent refl; place = p; is_it = refl }
begun_enclosed_goes s p k h e = specifier_goes s (begin s) p storage.Automatic k (automatic_front s) h e

-- ---- the first token of a construct

fresh_token : (s : Sort) (a : Tree) (p : Place) (k : TokenKind) → Form s st.Fresh a → stands s (begun_as s k) ≡ true → Goes s a p k (begun_as s k)
fresh_token sort.Unit a p kind.End f h e = (f.0, put kind.End nowhere f.1 ∙ ap (λ z. behind a kind.End z) e)
fresh_token sort.Unit a p k f h e = absurd (no_none sort.Unit h)
fresh_token sort.External a p k f h e = subst (λ z. Form sort.External (begun_external k) (behind z k p)) f (begun_external_goes p k h e)
fresh_token (sort.Item b) a p k f h e = subst (λ z. Form (sort.Item b) (begun_item_in b k) (behind z k p)) f (begun_item_in_goes (sort.Item b) p b k h e)
fresh_token sort.Member a p k f h e = subst (λ z. Form sort.Member (specifier storage.Automatic k) (behind z k p)) f (specifier_goes sort.Member (begin sort.Member) p storage.Automatic k (automatic_front sort.Member) h e)
fresh_token sort.Parameter a p k f h e = subst (λ z. Form sort.Parameter (specifier storage.Automatic k) (behind z k p)) f (specifier_goes sort.Parameter (begin sort.Parameter) p storage.Automatic k (automatic_front sort.Parameter) h e)
fresh_token (sort.Declarator n) a p k f h e = begun_declarator_goes (sort.Declarator n) a p false k [] f h e
fresh_token (sort.Enclosed n) a p k f h e = subst (λ z. Form (sort.Enclosed n) (begun_enclosed k) (behind z k p)) f (begun_enclosed_goes (sort.Enclosed n) p k h e)
fresh_token sort.Initialiser a p k f h e = subst (λ z. Form sort.Initialiser (on mark.OpenBrace st.Braces k (begun k)) (behind z k p)) f
    (on_goes sort.Initialiser (begin sort.Initialiser) p mark.OpenBrace st.Braces k (begun k) h (λ d. (p, refl)) (λ j. begun_goes sort.Initialiser p k j) e)
fresh_token s a p k f h e = subst (λ z. Form s (begun k) (behind z k p)) f (begun_goes s p k h e)

-- ---- specifiers with braces, and declarations

cast_form : (s : Sort) (r : Tree) (q : Place) (t : ParameterTree) → bracketed (begin s) q (λ z. run_parameter z t) ≡ r → Form s (cast_in s) r
cast_form sort.SizeofOperand r q t i = (q, t, i)
cast_form s r q t i = (q, t, i)

word_goes : (s : Sort) (a : Tree) (p : Place) (x : State) (k : TokenKind) → stands s (on_word x k) ≡ true → ((n : ℕ) → Form s x (behind a (kind.Word n) p)) → Goes s a p k (on_word x k)
word_goes s a p x (kind.Word n) h f e = f n
word_goes s a p x k h f e = absurd (no_none s h)

struct_body_form : {s : Sort} {w : Storage} {a : Tree} (p : Place) → TagWord mark.Struct s w a → MemberList s w (mark_at a mark.OpenBrace p)
struct_body_form {a = a} p i = record {
  base = mark_at a mark.OpenBrace p;
  body = record { before = i.before; specifying = i.specifying; place = i.place; tag = None; brace = p; is_it = put (kind.Mark mark.OpenBrace) p i.is_it };
  list = no_declarations;
  is_it = refl;
}

enum_body_form : {s : Sort} {w : Storage} {a : Tree} (p : Place) → TagWord mark.Enum s w a → TagBody mark.Enum s w (mark_at a mark.OpenBrace p)
enum_body_form p i = record { before = i.before; specifying = i.specifying; place = i.place; tag = None; brace = p; is_it = put (kind.Mark mark.OpenBrace) p i.is_it }

named_form : {m : Mark} {s : Sort} {w : Storage} {a : Tree} (n : ℕ) (p : Place) → TagWord m s w a → TagNamed m s w (behind a (kind.Word n) p)
named_form n p i = record { before = i.before; specifying = i.specifying; place = i.place; tag = record { name = n; place = p }; is_it = put (kind.Word n) p i.is_it }

members_close : {s : Sort} {w : Storage} {a : Tree} {p : Place} → MemberList s w a → nowhere ≡ p → Specified s w (mark_at a mark.CloseBrace p)
members_close i e = more_is (StructBody i.body.place i.body.tag i.body.brace i.list) i.body.specifying (ap (λ z. closed (members_onto z i.list) mark.CloseBrace) i.body.is_it ∙ shut mark.CloseBrace i.is_it e)

pub enumerators_add : (r : Tree) (o : Option EnumeratorTrees) (x : EnumeratorTree) → enumerators_onto r (add_enumerator o x) ≡ enumerator_onto (next_enumerator r o) x
enumerators_add r None x = refl
enumerators_add r (Some es) x = refl

enumerator_list : {s : Sort} {w : Storage} {a : Tree} → EnumeratorName s w a → EnumeratorList s w a
enumerator_list i = record { base = i.base; body = i.body; list = add_enumerator i.list (Plain i.name i.place); is_it = enumerators_add i.base i.list (Plain i.name i.place) ∙ i.is_it }

enumerators_comma : {s : Sort} {w : Storage} {a : Tree} {p : Place} → EnumeratorList s w a → nowhere ≡ p → EnumeratorComma s w (mark_at a mark.Comma p)
enumerators_comma i e = record { base = i.base; body = i.body; list = i.list; is_it = shut mark.Comma i.is_it e }

enumerators_close : {s : Sort} {w : Storage} {a : Tree} {p : Place} → EnumeratorList s w a → nowhere ≡ p → Specified s w (mark_at a mark.CloseBrace p)
enumerators_close i e = more_is (EnumBody i.body.place i.body.tag i.body.brace i.list false) i.body.specifying (ap (λ z. closed (enumerators_onto z i.list) mark.CloseBrace) i.body.is_it ∙ shut mark.CloseBrace i.is_it e)

enumerators_last : {s : Sort} {w : Storage} {a : Tree} {p : Place} → EnumeratorComma s w a → nowhere ≡ p → Specified s w (mark_at a mark.CloseBrace p)
enumerators_last i e = more_is (EnumBody i.body.place i.body.tag i.body.brace i.list true) i.body.specifying (ap (λ z. closed (closed (enumerators_onto z i.list) mark.Comma) mark.CloseBrace) i.body.is_it ∙ shut mark.CloseBrace i.is_it e)

enumerator_goes : (s : Sort) (w : Storage) (a : Tree) (p : Place) (k : TokenKind) → EnumeratorList s w a → stands s (on mark.Comma (st.EnumComma w) k (on mark.CloseBrace (st.Typed w named.Tagged) k st.None)) ≡ true →
    Goes s a p k (on mark.Comma (st.EnumComma w) k (on mark.CloseBrace (st.Typed w named.Tagged) k st.None))
enumerator_goes s w a p k i h = on_goes s a p mark.Comma (st.EnumComma w) k (on mark.CloseBrace (st.Typed w named.Tagged) k st.None) h (enumerators_comma i) (λ j. one s a p mark.CloseBrace (st.Typed w named.Tagged) k j (enumerators_close i))

declared_list : {s : Sort} {w : Storage} {a : Tree} → Declaring s w a → DeclaredList s w a
declared_list i = record { front = i.front; fronts = i.fronts; specifiers = i.specifiers; list = i.list; last = Uninitialised i.last; is_it = i.is_it }

declared_comma : {s : Sort} {w : Storage} {a : Tree} {p : Place} → DeclaredList s w a → nowhere ≡ p → DeclaredComma s w (mark_at a mark.Comma p)
declared_comma i e = record { front = i.front; fronts = i.fronts; specifiers = i.specifiers; list = i.list; last = i.last; is_it = shut mark.Comma i.is_it e }

declared_ends : (s : Sort) (w : Storage) (a : Tree) (p : Place) → DeclaredList s w a → nowhere ≡ p → Ended s (mark_at a mark.Semicolon p)
declared_ends s w a p i e = ended_at s w i.front (mark_at a mark.Semicolon p) i.fronts (Declaration i.specifiers (and_declarator i.list i.last)) (shut mark.Semicolon i.is_it e)

function_form : (s : Sort) (a : Tree) (p : Place) (b : Bool) → stands s (cond b st.FunctionBlock st.None) ≡ true → (b ≡ true → FunctionHead s a) → Form s (cond b st.FunctionBlock st.None) (mark_at a mark.OpenBrace p)
unfolding stands
function_form s a p true h f = record { external = h; specifiers = (f refl).specifiers; declarator = (f refl).declarator; brace = p; items = no_stmts; is_it = put (kind.Mark mark.OpenBrace) p (f refl).is_it }
function_form s a p false h f = tt

one_with : (s : Sort) (a : Tree) (p : Place) (m : Mark) (x : State) (k : TokenKind) → stands s (on m x k st.None) ≡ true → (stands s x ≡ true → Goes s a p (kind.Mark m) x) → Goes s a p k (on m x k st.None)
one_with s a p m x k h f = go (is m k) refl h
  where
    go : (b : Bool) → is m k ≡ b → stands s (cond b x st.None) ≡ true → Goes s a p k (cond b x st.None)
    go true i j = subst (λ z. Goes s a p z x) (sym (is_mark m k i)) (f j)
    go false i j = absurd (no_none s j)

declared_goes : (s : Sort) (a : Tree) (p : Place) (w : Storage) (b : Bool) (k : TokenKind) → Declaring s w a → (b ≡ true → FunctionHead s a) → stands s (after_declarator w b k) ≡ true → Goes s a p k (after_declarator w b k)
declared_goes s a p w b k i f h =
    on_goes s a p mark.Equal (st.InitValue w) k _ h
    (λ e. record { front = i.front; fronts = i.fronts; specifiers = i.specifiers; list = i.list; last = i.last; equal = p; is_it = put (kind.Mark mark.Equal) p i.is_it })
    (λ j. on_goes s a p mark.Comma (st.NextDeclarator w) k _ j (declared_comma (declared_list i))
    (λ l. on_goes s a p mark.Semicolon st.DeclarationEnd k _ l (declared_ends s w a p (declared_list i))
    (λ n. one_with s a p mark.OpenBrace (cond b st.FunctionBlock st.None) k n (λ o e. function_form s a p b o f))))

function_ends : (s : Sort) (a : Tree) (p : Place) → FunctionBody s a → nowhere ≡ p → Ended s (mark_at a mark.CloseBrace p)
function_ends s a p i e = go s i.external (Function i.specifiers i.declarator i.brace i.items) (shut mark.CloseBrace i.is_it e)
  where
    go : (z : Sort) → is_external z ≡ true → (x : ExternalTree) → run_external z x ≡ mark_at a mark.CloseBrace p → Ended z (mark_at a mark.CloseBrace p)
    go sort.External d x c = (x, c)
    go z d x c = absurd (cc)

-- ---- statements

loop_stmt : Bool → Place → Place → ExprTree → StmtTree → StmtTree
loop_stmt true p q a t = While p q a t
loop_stmt b p q a t = Switch p q a t

loop_body : {s : Sort} {r : Tree} (b : Bool) (p q : Place) (a : ExprTree) → head_onto (mark_at (begin s) (loop_mark b) p) q a ≡ r → Body s r
unfolding loop_stmt
loop_body true p q a i = record { make = loop_stmt true p q a; is_it = λ t. ap (λ z. within z (λ y. run_stmt y t)) i }
loop_body false p q a i = record { make = loop_stmt false p q a; is_it = λ t. ap (λ z. within z (λ y. run_stmt y t)) i }

-- ---- every token

pub token_goes : (s : Sort) (q : State) (a : Tree) (p : Place) (k : TokenKind) → Form s q a → stands s (on_token s q k) ≡ true → Goes s a p k (on_token s q k)
unfolding on_token
token_goes s st.Fresh a p k f h = fresh_token s a p k f h
token_goes s (st.Have l) a p k f h = have_goes s a p f.0 k (leb (wants_left k) l) f.1 h
token_goes s st.Word a p k f h = on_goes s a p mark.Colon st.Body k (continued k) h (λ e. record { make = λ t. Label f.0 f.1 t; is_it = λ t. ap (λ z. within z (λ y. run_stmt y t)) (shut mark.Colon f.2 e) }) (λ j. continued_goes s a p (Name f.0 f.1) k f.2 j)
token_goes s st.ParenClose a p k f h = one s a p mark.CloseParenthesis (st.Have 16) k h (λ e. (Parenthesised f.0 f.1, shut mark.CloseParenthesis f.2 e))
token_goes s st.TypedClose a p k f h = one s a p mark.CloseParenthesis (cast_in s) k h (λ e. cast_form s (mark_at a mark.CloseParenthesis p) f.0 f.1 (shut mark.CloseParenthesis f.2 e))
token_goes s st.IndexClose a p k f h = one s a p mark.CloseBracket (st.Have 16) k h (λ e. (Index f.0 f.1 f.2, shut mark.CloseBracket f.3 e))
token_goes s st.Call a p k f h = one s a p mark.CloseParenthesis (st.Have 16) k h (λ e. (Call f.0 f.1 no_exprs, shut mark.CloseParenthesis f.2 e))
token_goes s st.CallMore a p k f h = on_goes s a p mark.Comma st.CallNext k _ h (λ e. (f.0, f.1, f.2, f.3, shut mark.Comma f.4 e)) (λ j. one s a p mark.CloseParenthesis (st.Have 16) k j (λ e. (Call f.0 f.1 (and_expr f.2 f.3), shut mark.CloseParenthesis f.4 e)))
token_goes s st.MemberName a p k f h = word_goes s a p (st.Have 16) k h (λ n. (Member f.0 f.1 f.2 n p, put (kind.Word n) p f.3))
token_goes s st.QuestClose a p k f h = one s a p mark.Colon (st.Right right.Conditional) k h (λ e. (f.0, f.1, f.2, shut mark.Colon f.3 e))
token_goes s st.Block a p k f h = one s a p mark.CloseBrace (st.Statement true) k h (λ e. (Block f.0 f.1, shut mark.CloseBrace f.2 e))
token_goes s st.IfOpen a p k f h = one s a p mark.OpenParenthesis st.IfTest k h (λ e. (f.0, f.1, p, put (kind.Mark mark.OpenParenthesis) p f.2))
token_goes s st.IfClose a p k f h = one s a p mark.CloseParenthesis st.ThenPart k h (λ e. (f.0, f.1, f.2, f.3, shut mark.CloseParenthesis f.4 e))
token_goes s (st.ThenDone true) a p k f h = one s a p mark.Else st.ElsePart k h (λ e. (f.0, shut mark.Else f.1 e))
token_goes s (st.ThenDone false) a p k f h = one s a p mark.Else st.None k h (λ e. tt)
token_goes s st.ElsePart a p k f h = one s a p mark.If st.IfOpen k h (λ e. (Some f.0, p, put (kind.Mark mark.If) p f.1))
token_goes s st.HeadOpen a p k f h = one s a p mark.OpenParenthesis st.HeadTest k h (λ e. (f.0, f.1, p, put (kind.Mark mark.OpenParenthesis) p f.2))
token_goes s st.HeadClose a p k f h = one s a p mark.CloseParenthesis st.Body k h (λ e. loop_body f.0 f.1 f.2 f.3 (shut mark.CloseParenthesis f.4 e))
token_goes s st.DoWhile a p k f h = one s a p mark.While st.DoOpen k h (λ e. (f.0, f.1, p, put (kind.Mark mark.While) p f.2))
token_goes s st.DoOpen a p k f h = one s a p mark.OpenParenthesis st.DoTest k h (λ e. (f.0, f.1, f.2, p, put (kind.Mark mark.OpenParenthesis) p f.3))
token_goes s st.DoClose a p k f h = one s a p mark.CloseParenthesis st.Semicolon k h (λ e. (Do f.0 f.1 f.2 f.3 f.4, ap (λ z. closed z mark.Semicolon) (shut mark.CloseParenthesis f.5 e)))
token_goes s st.ForOpen a p k f h = one s a p mark.OpenParenthesis st.ForInit k h (λ e. (f.0, p, put (kind.Mark mark.OpenParenthesis) p f.1))
token_goes s st.ForInit a p k f h = one s a p mark.Semicolon st.ForSecond k h (λ e. (f.0, f.1, NoFirst, shut mark.Semicolon f.2 e))
token_goes s st.ForInitClose a p k f h = one s a p mark.Semicolon st.ForSecond k h (λ e. (f.0, f.1, FirstExpression f.2, shut mark.Semicolon f.3 e))
token_goes s st.ForSecond a p k f h = one s a p mark.Semicolon st.ForThird k h (λ e. (f.0, f.1, f.2, None, shut mark.Semicolon f.3 e))
token_goes s st.ForSecondClose a p k f h = one s a p mark.Semicolon st.ForThird k h (λ e. (f.0, f.1, f.2, Some f.3, shut mark.Semicolon f.4 e))
token_goes s st.ForThird a p k f h = one s a p mark.CloseParenthesis st.Body k h (λ e. record { make = For f.0 f.1 f.2 f.3 None; is_it = λ t. ap (λ z. within z (λ y. run_stmt y t)) (shut mark.CloseParenthesis f.4 e) })
token_goes s st.ForClose a p k f h = one s a p mark.CloseParenthesis st.Body k h (λ e. record { make = For f.0 f.1 f.2 f.3 (Some f.4); is_it = λ t. ap (λ z. within z (λ y. run_stmt y t)) (shut mark.CloseParenthesis f.5 e) })
token_goes s st.Colon a p k f h = one s a p mark.Colon st.Body k h (λ e. record { make = f.make; is_it = λ t. f.is_it t ∙ ap (λ z. within z (λ y. run_stmt y t)) (shut mark.Colon refl e) })
token_goes s st.Returning a p k f h = one s a p mark.Semicolon (st.Statement true) k h (λ e. (Return f.0, shut mark.Semicolon f.1 e))
token_goes s st.Semicolon a p k f h = one s a p mark.Semicolon (st.Statement true) k h (λ e. (f.0, f.1 ∙ shut mark.Semicolon refl e))
token_goes s (st.BeforeType w) a p k f h = specifier_goes s a p w k f h
token_goes s (st.Typed w y) a p k f h = after_type_goes s a p w y k f h
token_goes s (st.StructWord w) a p k f h = on_goes s a p mark.OpenBrace (st.Members w) k _ h (λ e. struct_body_form p f) (λ j. word_goes s a p (st.Typed w named.StructTag) k j (λ n. named_form n p f))
token_goes s (st.EnumWord w) a p k f h = on_goes s a p mark.OpenBrace (st.Enumerators w) k _ h (λ e. enum_body_form p f) (λ j. word_goes s a p (st.Typed w named.EnumTag) k j (λ n. named_form n p f))
token_goes s (st.Members w) a p k f h = one s a p mark.CloseBrace (st.Typed w named.Tagged) k h (λ e. members_close f e)
token_goes s (st.Enumerators w) a p k f h = word_goes s a p (st.Enumerator w) k h (λ n. record { base = a; body = f; list = None; name = n; place = p; is_it = refl })
token_goes s (st.Enumerator w) a p k f h = on_goes s a p mark.Equal (st.EnumValue w) k _ h
    (λ e. record { base = f.base; body = f.body; list = f.list; name = f.name; place = f.place; equal = p; is_it = put (kind.Mark mark.Equal) p f.is_it }) (λ j. enumerator_goes s w a p k (enumerator_list f) j)
token_goes s (st.EnumValueClose w) a p k f h = enumerator_goes s w a p k f h
token_goes s (st.EnumComma w) a p k f h = on_goes s a p mark.CloseBrace (st.Typed w named.Tagged) k _ h (λ e. enumerators_last f e)
    (λ j. word_goes s a p (st.Enumerator w) k j (λ n. record { base = f.base; body = f.body; list = Some f.list; name = n; place = p; is_it = put (kind.Word n) p f.is_it }))
token_goes s (st.Declared w x b) a p k f h = declared_goes s a p w b k f.0 f.1 h
token_goes s (st.InitClose w) a p k f h = on_goes s a p mark.Comma (st.NextDeclarator w) k _ h (declared_comma f) (λ j. one s a p mark.Semicolon st.DeclarationEnd k j (declared_ends s w a p f))
token_goes s st.FunctionBlock a p k f h = one s a p mark.CloseBrace st.DeclarationEnd k h (function_ends s a p f)
token_goes s st.BraceMore a p k f h = on_goes s a p mark.Comma st.BraceNext k _ h (λ e. (f.0, f.1, shut mark.Comma f.2 e)) (λ j. one s a p mark.CloseBrace st.Braced k j (λ e. (Braced f.0 f.1 false, shut mark.CloseBrace f.2 e)))
token_goes s st.BraceNext a p k f h = one s a p mark.CloseBrace st.Braced k h (λ e. (Braced f.0 f.1 true, shut mark.CloseBrace f.2 e))
token_goes s st.Stars a p k f h = on_goes s a p mark.Const st.StarsConst k _ h (λ e. (f.0 ++ (pointer.Const f.1 p ∷ []), pointers-end (begin s) f.0 (pointer.Const f.1 p) ∙ put (kind.Mark mark.Const) p f.2))
    (λ j. begun_declarator_goes s a p true k (f.0 ++ (pointer.Plain f.1 ∷ [])) (pointers-end (begin s) f.0 (pointer.Plain f.1) ∙ f.2) j)
token_goes s st.StarsConst a p k f h = begun_declarator_goes s a p true k f.0 f.1 h
token_goes s (st.Group b) a p k f h = one s a p mark.CloseParenthesis (st.Direct b shape.Nameless) k h (λ e. record { pointers = f.0; core = Absent; list = and_suffix no_suffixes (Parameters f.1 no_parameters); is_it = shut mark.CloseParenthesis f.2 e })
token_goes s (st.GroupClose b x) a p k f h = one s a p mark.CloseParenthesis (st.Direct b x) k h (λ e. record { pointers = f.0; core = Group f.1 f.2; list = no_suffixes; is_it = shut mark.CloseParenthesis f.3 e })
token_goes s (st.Direct b x) a p k f h = on_goes s a p mark.OpenBracket (st.Size b x) k _ h (λ e. record { base = a; suffixed = f; place = p; is_it = refl }) (λ j. one s a p mark.OpenParenthesis (st.Parameters b x) k j (λ e. record { base = a; suffixed = f; place = p; is_it = refl }))
token_goes s (st.Size b x) a p k f h = one s a p mark.CloseBracket (st.Direct b (indexed x)) k h (λ e. record {
  pointers = f.suffixed.pointers;
  core = f.suffixed.core;
  list = and_suffix f.suffixed.list (Array f.place);
  is_it = ap (λ z. closed (mark_at z mark.OpenBracket f.place) mark.CloseBracket) f.suffixed.is_it ∙ shut mark.CloseBracket f.is_it e;
})
token_goes s (st.SizeClose b x) a p k f h = one s a p mark.CloseBracket (st.Direct b (indexed x)) k h (λ e. record {
  pointers = f.suffixed.pointers;
  core = f.suffixed.core;
  list = and_suffix f.suffixed.list (ArrayOf f.place f.length);
  is_it = ap (λ y. closed (within (mark_at y mark.OpenBracket f.place) (λ z. run_expr z f.length)) mark.CloseBracket) f.suffixed.is_it ∙ shut mark.CloseBracket f.is_it e;
})
token_goes s (st.Parameters b x) a p k f h = one s a p mark.CloseParenthesis (st.Direct b (applied x true)) k h (λ e. record {
  pointers = f.suffixed.pointers;
  core = f.suffixed.core;
  list = and_suffix f.suffixed.list (Parameters f.place no_parameters);
  is_it = ap (λ z. closed (mark_at z mark.OpenParenthesis f.place) mark.CloseParenthesis) f.suffixed.is_it ∙ shut mark.CloseParenthesis f.is_it e;
})
token_goes s (st.ParametersMore b x now later) a p k f h = on_goes s a p mark.Comma (st.ParametersNext b x later) k _ h
    (λ e. record { base = f.base; suffixed = f.suffixed; place = f.place; list = f.list; last = f.last; is_it = shut mark.Comma f.is_it e })
    (λ j. one s a p mark.CloseParenthesis (st.Direct b (applied x now)) k j (λ e. record {
      pointers = f.suffixed.pointers;
      core = f.suffixed.core;
      list = and_suffix f.suffixed.list (Parameters f.place (and_parameter f.list f.last));
      is_it = ap (λ z. closed (parameters_onto (mark_at z mark.OpenParenthesis f.place) (and_parameter f.list f.last)) mark.CloseParenthesis) f.suffixed.is_it ∙ shut mark.CloseParenthesis f.is_it e;
    }))
token_goes s q a p k f h = absurd (no_none s h)
