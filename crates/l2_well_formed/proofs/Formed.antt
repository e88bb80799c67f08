-- What stands in a unit is formed: expressions, types, declarators and initialisers.
use Rattle.std.proofs.Common.{◌≡◌, ◌⊎◌, inl, inr, refl, ap, sym, ◌∙◌, subst, Bool, true, false, arith}
use Rattle.l2_syntax.specs.declared.token.Mark.TheVariants as mark
use Rattle.l2_syntax.specs.declared.token.TokenKind.TheVariants as kind
use Rattle.l2_grammar.specs.declared.states.Sort.{Sort}
use Rattle.l2_grammar.specs.declared.states.Sort.TheVariants as sort
use Rattle.l2_grammar.specs.declared.states.Naming.TheVariants as naming
use Rattle.l2_grammar.specs.declared.states.Storage.{Storage}
use Rattle.l2_grammar.specs.declared.states.Storage.TheVariants as storage
use Rattle.l2_grammar.specs.declared.states.Named.{Named as NamedState}
use Rattle.l2_grammar.specs.declared.states.Shape.{Shape}
use Rattle.l2_grammar.specs.declared.states.Right.TheVariants as right
use Rattle.l2_grammar.specs.declared.states.State.{State}
use Rattle.l2_grammar.specs.declared.states.State.TheVariants as st
use Rattle.l2_grammar.specs.Marks.{is}
use Rattle.l2_grammar.specs.Networks.{on_token, indexed, cast_in}
use Rattle.l2_grammar.specs.Nesting as nesting
use Rattle.l2_grammar.specs.Nesting.{values, takes_type, is_declarator, is_automatic, specifies, initialises, names, own_naming, grouped, defines, stands, on_child, opens, outcome as outcome_of}
use Rattle.l2_grammar.specs.Trees.{Tree, begin, sort as sort_of, state as state_of, Fits}
use Rattle.l2_tree.specs.Trees.{ExprTree, Name, Number, Text, Parenthesised, Index, Call, Member, PostUpdate, Update, Unary, Sizeof, SizeofType, Cast, Binary, Conditional, Assign, Comma, ExprTrees, no_exprs, and_expr, SpecifierTree, Word, TypeName, Struct, StructBody, Enum, EnumBody, SpecifierTrees, first_specifier, and_specifier, EnumeratorTree, Plain, Valued, EnumeratorTrees, first_enumerator, and_enumerator, ParameterTree, Bare, Declared, ParameterTrees, no_parameters, and_parameter, DeclaratorTree, Declarator, CoreTree, Absent, Named, Group, SuffixTree, Array, ArrayOf, Parameters, SuffixTrees, no_suffixes, and_suffix, InitialiserTree, Expression, Braced, InitialiserTrees, first_initialiser, and_initialiser, Uninitialised, Initialised, DeclaredTrees, no_declarators, and_declarator, Declaration, DeclarationTrees, no_declarations, and_declaration}
use Rattle.l2_tree.specs.Spelling.{nowhere, behind, mark_at, closed, within, bracketed, binary_mark, comma_if, has_declarators, tag_onto, run_expr, arguments_onto, specifier_onto, specifiers_onto, members_onto, enumerator_onto, enumerators_onto, run_parameter, parameters_onto, pointers_onto, core_onto, suffix_onto, suffixes_onto, run_declarator, run_initialiser, initialisers_onto, declarators_onto}
use Rattle.l2_well_formed.specs.Expressions.{rank, level, no_initialiser}
use Rattle.l2_well_formed.specs.WellFormed.{FormedArguments, FormedSpecifier, FormedSpecifiers, FormedMembers, FormedEnumerator, FormedEnumerators, FormedParameters, FormedCore, FormedSuffix, FormedSuffixes, FormedInitialisers, FormedDeclarators}
use Rattle.l2_well_formed.proofs.Steps.{no_none, then_state, Done, operand}
use Rattle.l2_well_formed.proofs.Tokens.{binary_follows, assignment_follows, update_follows, member_follows, index_follows, call_follows, question_follows, comma_follows}
use Rattle.l2_well_formed.proofs.Counts.{members_state, members_before, enumerators_before, comma_before, specifier_before, enumerator_before, AtName, named_state as enumerator_named, enumerators_state, comma_state, fresh_ready}
use Rattle.l2_well_formed.proofs.Shapes.{has_pointers, shape_of, core_shape, suffix_shape, suffixes_shape}
use Rattle.l2_well_formed.proofs.Declarators.{Starring, At, starring_at, pointers_state, name_state, group_state, bracket_state, parenthesis_state, Declares, at_outcome, declarator, pointers_sort, core_sort, suffixes_sort, suffix_before, suffixes_before, grouped_declarator, named_state, Opened}
use Rattle.l2_well_formed.proofs.Parameters.{open_state, ParameterDone, type_name, Listed, first_parameter, next_parameter, close_state}
use Rattle.l2_well_formed.proofs.Declarations.{specifiers_sort, declarators_sort, typing, typing_specifies, typing_names, no_storage, declared, InitialiserDone, initialiser, bare, with_declarator, Ended, comma_next, equal_next, no_init}
use Rattle.l2_well_formed.proofs.Starts.{name_whole, number_whole, text_whole, sizeof_state, unary_state, update_state, after_have, follow, paren_operands, cast_right, struct_base, enum_base}

-- behind the arguments of a call
abbrev CallState : ExprTrees → State → Type 0
CallState no_exprs q = q ≡ st.Call
CallState es q = q ≡ st.CallMore

call_close : (s : Sort) (es : ExprTrees) (q : State) → CallState es q → on_token s q (kind.Mark mark.CloseParenthesis) ≡ st.Have 16
unfolding on_token is
call_close s no_exprs q e = ap (λ z. on_token s z (kind.Mark mark.CloseParenthesis)) e
call_close s (and_expr es x) q e = ap (λ z. on_token s z (kind.Mark mark.CloseParenthesis)) e

arguments_before : (r : Tree) (es : ExprTrees) → Fits (arguments_onto r es) → Fits r
arguments_before r no_exprs f = f
arguments_before r (and_expr no_exprs e) f = f.0
arguments_before r (and_expr (and_expr es d) e) f = arguments_before r (and_expr es d) f.0.0

at_direct : (q : State) (b : Bool) (h : Shape) → q ≡ st.Direct b h → At q b h
at_direct q b h e = subst (λ z. At z b h) (sym e) (refl, refl)

braced_state : (r : Tree) (b : Bool) → state_of r ≡ st.BraceMore → state_of (closed (comma_if b r) mark.CloseBrace) ≡ st.Braced
unfolding on_token is
braced_state r true e = then_state (closed r mark.Comma) (kind.Mark mark.CloseBrace) nowhere st.Braced (then_state r (kind.Mark mark.Comma) nowhere st.BraceNext e refl) refl
braced_state r false e = then_state r (kind.Mark mark.CloseBrace) nowhere st.Braced e refl

member_words : (w : Storage) → specifies sort.Member w ≡ true → w ≡ storage.Automatic
member_words storage.Automatic h = refl
member_words w h = absurd (cc)

member_end : (w : Storage) (y : NamedState) → stands sort.Member (on_token sort.Member (st.Typed w y) (kind.Mark mark.Semicolon)) ≡ true → ⊥
unfolding on_token
member_end w y h = no_none sort.Member h

-- a member has a declarator
member_declares : (es : DeclaredTrees) (r : Tree) (w : Storage) (y : NamedState) → sort_of r ≡ sort.Member → state_of r ≡ st.Typed w y → Fits (closed (declarators_onto r es) mark.Semicolon) → has_declarators es ≡ true
member_declares no_declarators r w y e i f = absurd (member_end w y (subst (λ s. stands s (on_token s (st.Typed w y) (kind.Mark mark.Semicolon)) ≡ true) e (subst (λ q. stands (sort_of r) (on_token (sort_of r) q (kind.Mark mark.Semicolon)) ≡ true) i f.1)))
member_declares (and_declarator es d) r w y e i f = refl

both_may : {A B : Type 0} → A ⊎ B → A ⊎ (B × B)
both_may (inl e) = inl e
both_may (inr e) = inr (e, e)

pub record DeclaratorsDone (ds : DeclaredTrees) (r : Tree) (w : Storage) (y : NamedState) : Type 0 where
  pub formed : FormedDeclarators ds
  pub ended : Ended ds (state_of (declarators_onto r ds)) w y
  pub plain : initialises (sort_of r) w ≡ false → no_initialiser ds ≡ true

mutual
  unfolding on_token on_child opens is outcome_of

  pub expr_formed : (s : Sort) (e : ExprTree) → values s ≡ true → Fits (run_expr s e) → Done e (run_expr s e)
  expr_formed s (Name n p) v f = record { formed = tt; whole = name_whole s n v }
  expr_formed s (Number z y p) v f = record { formed = tt; whole = number_whole s z y v }
  expr_formed s (Text p) v f = record { formed = tt; whole = text_whole s v }
  expr_formed s (Parenthesised p e) v f =
      let a = mark_at (begin s) mark.OpenParenthesis p in let y = operand a st.Paren e (λ z w g. expr_formed z e w g) (open_state s v) (paren_operands s) f.0 in
      record { formed = y.formed; whole = after_have (run_expr s (Parenthesised p e)) 16 (then_state (within a (λ z. run_expr z e)) (kind.Mark mark.CloseParenthesis) nowhere (st.Have 16) y.state refl) }
  expr_formed s (Index a p i) v f =
      let x = expr_formed s a v f.0.0.0 in let g = follow (run_expr s a) (level a) (kind.Mark mark.OpenBracket) 16 st.Index index_follows x.whole f.0.0.1 in
      let r = mark_at (run_expr s a) mark.OpenBracket p in let y = operand r st.Index i (λ z w h. expr_formed z i w h) g.1 refl f.0 in
      record { formed = (g.0, x.formed, y.formed); whole = after_have (run_expr s (Index a p i)) 16 (then_state (within r (λ z. run_expr z i)) (kind.Mark mark.CloseBracket) nowhere (st.Have 16) y.state refl) }
  expr_formed s (Call a p es) v f =
      let r = mark_at (run_expr s a) mark.OpenParenthesis p in let h = arguments_before r es f.0 in
      let x = expr_formed s a v h.0 in let g = follow (run_expr s a) (level a) (kind.Mark mark.OpenParenthesis) 16 st.Call call_follows x.whole h.1 in
      let y = arguments_formed r es g.1 f.0 in
      record { formed = (g.0, x.formed, y.0); whole = after_have (run_expr s (Call a p es)) 16 (call_close (sort_of (arguments_onto r es)) es (state_of (arguments_onto r es)) y.1) }
  expr_formed s (Member a o p n q) v f =
      let x = expr_formed s a v f.0.0 in let g = follow (run_expr s a) (level a) (kind.Mark _) 16 st.MemberName (member_follows o) x.whole f.0.1 in
      record { formed = (g.0, x.formed); whole = after_have (run_expr s (Member a o p n q)) 16 (then_state (mark_at (run_expr s a) _ p) (kind.Word n) q (st.Have 16) g.1 refl) }
  expr_formed s (PostUpdate a o p) v f =
      let x = expr_formed s a v f.0 in let g = follow (run_expr s a) (level a) (kind.Mark _) 16 (st.Have 16) (update_follows o) x.whole f.1 in
      record { formed = (g.0, x.formed); whole = after_have (run_expr s (PostUpdate a o p)) 16 g.1 }
  expr_formed s (Update o p a) v f =
      let y = operand (mark_at (begin s) _ p) (st.Right right.Update) a (λ z w h. expr_formed z a w h) (update_state s o v) refl f in
      record { formed = (y.least, y.formed); whole = after_have (run_expr s (Update o p a)) 15 y.state }
  expr_formed s (Unary o p a) v f =
      let y = operand (mark_at (begin s) _ p) (st.Right right.Prefix) a (λ z w h. expr_formed z a w h) (unary_state s o v) refl f in
      record { formed = (y.least, y.formed); whole = after_have (run_expr s (Unary o p a)) 15 y.state }
  expr_formed s (Sizeof p a) v f =
      let y = operand (mark_at (begin s) mark.Sizeof p) st.Sizing a (λ z w h. expr_formed z a w h) (sizeof_state s v) refl f in
      record { formed = (y.least, y.formed); whole = after_have (run_expr s (Sizeof p a)) 15 y.state }
  expr_formed s (SizeofType p q t) v f =
      let a = mark_at (begin s) mark.Sizeof p in let z = opens s (state_of a) in let e : z ≡ sort.SizeofOperand = ap (opens s) (sizeof_state s v) in
      let x = type_name z q t (λ y h. parameter_formed t y h) (ap values e) f.1 in let b = bracketed (begin z) q (λ y. run_parameter y t) in
      record { formed = (x.unnamed, x.formed); whole = after_have (run_expr s (SizeofType p q t)) 15 (ap (λ y. on_child s y (outcome_of (state_of b))) (sizeof_state s v) ∙ ap (λ y. on_child s st.Sizing (outcome_of y)) (x.state ∙ ap cast_in e)) }
  expr_formed s (Cast p t a) v f =
      let x = type_name s p t (λ z h. parameter_formed t z h) v f.0 in let r = bracketed (begin s) p (λ z. run_parameter z t) in
      let y = operand r (st.Right right.Cast) a (λ z w h. expr_formed z a w h) (cast_right s (state_of r) _ x.state f.3) refl f in
      record { formed = (x.unnamed, x.formed, y.least, y.formed); whole = after_have (run_expr s (Cast p t a)) 14 y.state }
  expr_formed s (Binary a o p b) v f =
      let x = expr_formed s a v f.0.0 in let g = follow (run_expr s a) (level a) (kind.Mark (binary_mark o)) (rank o) (st.Right (right.Binary (rank o))) (binary_follows o) x.whole f.0.1 in
      let y = operand (mark_at (run_expr s a) (binary_mark o) p) (st.Right (right.Binary (rank o))) b (λ z w h. expr_formed z b w h) g.1 refl f in
      record { formed = (g.0, x.formed, (omega arith), y.formed); whole = after_have (run_expr s (Binary a o p b)) (rank o) y.state }
  expr_formed s (Conditional a p b c) v f =
      let x = expr_formed s a v f.0.0.0.0 in let g = follow (run_expr s a) (level a) (kind.Mark mark.Question) 4 st.Quest question_follows x.whole f.0.0.0.1 in
      let r = mark_at (run_expr s a) mark.Question p in let y = operand r st.Quest b (λ z w h. expr_formed z b w h) g.1 refl f.0.0 in
      let r2 = closed (within r (λ z. run_expr z b)) mark.Colon in
      let z = operand r2 (st.Right right.Conditional) c (λ z w h. expr_formed z c w h) (then_state (within r (λ z. run_expr z b)) (kind.Mark mark.Colon) nowhere (st.Right right.Conditional) y.state refl) refl f in
      record { formed = (g.0, x.formed, y.formed, z.least, z.formed); whole = after_have (run_expr s (Conditional a p b c)) 3 z.state }
  expr_formed s (Assign a o p b) v f =
      let x = expr_formed s a v f.0.0 in let g = follow (run_expr s a) (level a) (kind.Mark _) 15 (st.Right right.Assignment) (assignment_follows o) x.whole f.0.1 in
      let y = operand (mark_at (run_expr s a) _ p) (st.Right right.Assignment) b (λ z w h. expr_formed z b w h) g.1 refl f in
      record { formed = (g.0, x.formed, y.least, y.formed); whole = after_have (run_expr s (Assign a o p b)) 2 y.state }
  expr_formed s (Comma a b) v f =
      let x = expr_formed s a v f.0.0 in let g = follow (run_expr s a) (level a) (kind.Mark mark.Comma) 1 (st.Right (right.Binary 1)) comma_follows x.whole f.0.1 in
      let y = operand (closed (run_expr s a) mark.Comma) (st.Right (right.Binary 1)) b (λ z w h. expr_formed z b w h) g.1 refl f in
      record { formed = (x.formed, y.least, y.formed); whole = after_have (run_expr s (Comma a b)) 1 y.state }

  arguments_formed : (r : Tree) (es : ExprTrees) → state_of r ≡ st.Call → Fits (arguments_onto r es) → FormedArguments es × CallState es (state_of (arguments_onto r es))
  arguments_formed r no_exprs j f = (tt, j)
  arguments_formed r (and_expr no_exprs e) j f =
      let y = operand r st.Call e (λ z w h. expr_formed z e w h) j refl f in ((tt, y.least, y.formed), y.state)
  arguments_formed r (and_expr (and_expr es d) e) j f =
      let x = arguments_formed r (and_expr es d) j f.0.0 in let a = arguments_onto r (and_expr es d) in
      let y = operand (closed a mark.Comma) st.CallNext e (λ z w h. expr_formed z e w h) (then_state a (kind.Mark mark.Comma) nowhere st.CallNext x.1 refl) refl f in
      ((x.0, y.least, y.formed), y.state)

  pub specifier_formed : (x : SpecifierTree) (r : Tree) → Fits (specifier_onto r x) → FormedSpecifier x
  specifier_formed (Word w p) r f = tt
  specifier_formed (TypeName n p) r f = tt
  specifier_formed (Struct p t) r f = tt
  specifier_formed (StructBody p t q ds) r f =
      let base = mark_at (tag_onto (mark_at r mark.Struct p) t) mark.OpenBrace q in let x = struct_base r p t q (members_before base ds f.0) in members_formed ds base x.0 x.1 f.0
  specifier_formed (Enum p t) r f = tt
  specifier_formed (EnumBody p t q es b) r f =
      let base = mark_at (tag_onto (mark_at r mark.Enum p) t) mark.OpenBrace q in let g = comma_before (enumerators_onto base es) b f.0 in
      let x = enum_base r p t q (enumerators_before base es g) in enumerators_formed es base x.0 x.1 g

  pub specifiers_formed : (xs : SpecifierTrees) (r : Tree) → Fits (specifiers_onto r xs) → FormedSpecifiers xs
  specifiers_formed (first_specifier x) r f = specifier_formed x r f
  specifiers_formed (and_specifier xs x) r f = (specifiers_formed xs r (specifier_before (specifiers_onto r xs) x f), specifier_formed x (specifiers_onto r xs) f)

  members_formed : (ds : DeclarationTrees) (r : Tree) (w : Storage) → state_of r ≡ st.Members w → Fits (members_onto r ds) → FormedMembers ds
  members_formed no_declarations r w i f = tt
  members_formed (and_declaration ds (Declaration xs es)) r w i f =
      let m = members_onto r ds in let z = opens (sort_of m) (state_of m) in let k : z ≡ sort.Member = ap (opens (sort_of m)) (members_state r w ds i f.0) in
      let t = typing (begin z) xs es (fresh_ready z) f.1 in let a = specifiers_onto (begin z) xs in
      let e : sort_of a ≡ sort.Member = specifiers_sort (begin z) xs ∙ k in
      let y = declarators_formed es a t.words t.name t.state (ap nesting.naming e) f.1.0 in
      let auto : t.words ≡ storage.Automatic = member_words t.words (subst (λ s. specifies s t.words ≡ true) k (typing_specifies (begin z) xs t)) in (
        members_formed ds r w i f.0,
        typing_names (begin z) xs 0 (fresh_ready z) t (no_storage t.words auto),
        specifiers_formed xs (begin z) t.fits,
        member_declares es a t.words t.name e t.state f.1,
        y.plain (ap (λ s. initialises s t.words) e),
        y.formed,
      )

  pub declarators_formed : (ds : DeclaredTrees) (r : Tree) (w : Storage) (y : NamedState) → state_of r ≡ st.Typed w y → nesting.naming (sort_of r) ≡ naming.Named → Fits (declarators_onto r ds) → DeclaratorsDone ds r w y
  declarators_formed no_declarators r w y j n f = record { formed = tt; ended = j; plain = λ e. refl }
  declarators_formed (and_declarator no_declarators (Uninitialised d)) r w y j n f =
      let x = declared r (st.Typed w y) d w (defines w) (λ z c g. declarator_formed d z c g) j n refl refl (λ h. refl) f in
      record { formed = (tt, (x.name, x.formed)); ended = inl (shape_of d, defines w (shape_of d), x.state); plain = λ e. refl }
  declarators_formed (and_declarator no_declarators (Initialised d p i)) r w y j n f =
      let x = declared r (st.Typed w y) d w (defines w) (λ z c g. declarator_formed d z c g) j n refl refl (λ h. refl) f.0.0 in
      let a = within r (λ z. run_declarator z d) in let e = equal_next a p w (shape_of d) (defines w (shape_of d)) x.state in
      let v = initialiser (mark_at a mark.Equal p) (st.InitValue w) i (λ z c g. initialiser_formed i z c g) e refl f in
      record { formed = (tt, (x.name, x.formed, v.formed)); ended = inr v.state; plain = no_init (sort_of r) _ w f.0.1 e }
  declarators_formed (and_declarator (and_declarator ds k) (Uninitialised d)) r w y j n f =
      let b = declarators_onto r (and_declarator ds k) in let u = declarators_formed (and_declarator ds k) r w y j n f.0.0 in
      let c = then_state b (kind.Mark mark.Comma) nowhere (st.NextDeclarator w) refl (comma_next (sort_of b) ds k (state_of b) w y u.ended) in
      let x = declared (closed b mark.Comma) (st.NextDeclarator w) d w (λ h. false) (λ z g h. declarator_formed d z g h) c (ap nesting.naming (declarators_sort r (and_declarator ds k)) ∙ n) refl refl (λ h. refl) f in
      record { formed = (u.formed, (x.name, x.formed)); ended = inl (shape_of d, false, x.state); plain = u.plain }
  declarators_formed (and_declarator (and_declarator ds k) (Initialised d p i)) r w y j n f =
      let b = declarators_onto r (and_declarator ds k) in let u = declarators_formed (and_declarator ds k) r w y j n f.0.0.0.0 in
      let c = then_state b (kind.Mark mark.Comma) nowhere (st.NextDeclarator w) refl (comma_next (sort_of b) ds k (state_of b) w y u.ended) in
      let x = declared (closed b mark.Comma) (st.NextDeclarator w) d w (λ h. false) (λ z g h. declarator_formed d z g h) c (ap nesting.naming (declarators_sort r (and_declarator ds k)) ∙ n) refl refl (λ h. refl) f.0.0 in
      let a = within (closed b mark.Comma) (λ z. run_declarator z d) in let e = equal_next a p w (shape_of d) false x.state in
      let v = initialiser (mark_at a mark.Equal p) (st.InitValue w) i (λ z g h. initialiser_formed i z g h) e refl f in
      record { formed = (u.formed, (x.name, x.formed, v.formed)); ended = inr v.state; plain = λ h. no_init (sort_of b) _ w f.0.1 e (ap (λ s. initialises s w) (declarators_sort r (and_declarator ds k)) ∙ h) }

  enumerator_formed : (e : EnumeratorTree) (r : Tree) (w : Storage) → AtName (state_of r) w → Fits (enumerator_onto r e) → FormedEnumerator e
  enumerator_formed (Plain n p) r w i f = tt
  enumerator_formed (Valued n p q e) r w i f =
      let a = behind r (kind.Word n) p in
      let y = operand (mark_at a mark.Equal q) (st.EnumValue w) e (λ z v g. expr_formed z e v g) (then_state a (kind.Mark mark.Equal) q (st.EnumValue w) (enumerator_named r w n p i) refl) refl f in (y.least, y.formed)

  enumerators_formed : (es : EnumeratorTrees) (r : Tree) (w : Storage) → state_of r ≡ st.Enumerators w → Fits (enumerators_onto r es) → FormedEnumerators es
  enumerators_formed (first_enumerator e) r w i f = enumerator_formed e r w (inl i) f
  enumerators_formed (and_enumerator es e) r w i f =
      let a = closed (enumerators_onto r es) mark.Comma in let g = (enumerator_before a e f).0 in
      (enumerators_formed es r w i g, enumerator_formed e a w (inr (comma_state (enumerators_onto r es) w (enumerators_state r w es i g))) f)

  pub parameter_formed : (t : ParameterTree) (z : Sort) → Fits (run_parameter z t) → ParameterDone t (run_parameter z t)
  parameter_formed (Bare xs) z f = bare z xs (specifiers_formed xs (begin z) f) f
  parameter_formed (Declared xs d) z f = with_declarator z xs d (specifiers_formed xs (begin z) f.0) (λ y c g. declarator_formed d y c g) f

  parameters_formed : (ps : ParameterTrees) (r : Tree) (b : Bool) (h : Shape) → Opened (state_of r) b h → Fits (parameters_onto r ps) → FormedParameters ps × Listed ps (state_of (parameters_onto r ps)) b h
  parameters_formed no_parameters r b h i f = (tt, i)
  parameters_formed (and_parameter no_parameters p) r b h i f = let x = first_parameter r p b h (λ z g. parameter_formed p z g) i f in ((tt, x.formed), x.more)
  parameters_formed (and_parameter (and_parameter ps q) p) r b h i f =
      let y = parameters_formed (and_parameter ps q) r b h i f.0.0 in let x = next_parameter (parameters_onto r (and_parameter ps q)) (and_parameter ps q) p b h (λ z g. parameter_formed p z g) y.1 f in
      ((y.0, x.0), record { now = x.1.0; later = x.1.0; state = x.1.1; may = both_may x.1.2 })

  pub declarator_formed : (d : DeclaratorTree) (z : Sort) → is_declarator z ≡ true → Fits (run_declarator z d) → Declares d (run_declarator z d)
  declarator_formed (Declarator ps c xs) z v f =
      let a = pointers_onto (begin z) ps in let b = core_onto a c in
      let va : is_declarator (sort_of a) ≡ true = ap is_declarator (pointers_sort (begin z) ps) ∙ v in
      let x = core_formed c a (has_pointers ps) va (pointers_state (begin z) ps false v refl) (suffixes_before b xs f) in
      let y = suffixes_formed xs b (has_pointers ps) (core_shape c) (ap is_declarator (core_sort a c) ∙ va) x.1 f in
      record { formed = λ e. (e, x.0, y.0); whole = at_outcome (state_of (suffixes_onto b xs)) (has_pointers ps) (suffixes_shape (core_shape c) xs) y.1 }

  core_formed : (c : CoreTree) (r : Tree) (b : Bool) → is_declarator (sort_of r) ≡ true → Starring (state_of r) b → Fits (core_onto r c) → FormedCore c × At (state_of (core_onto r c)) b (core_shape c)
  core_formed Absent r b v i f = (tt, starring_at (state_of r) b i)
  core_formed (Named n p) r b v i f = (tt, name_state (sort_of r) (state_of r) b n v i)
  core_formed (Group p d) r b v i f =
      let a = mark_at r mark.OpenParenthesis p in
      let y = declarator a (st.Group b) d (λ z c g. declarator_formed d z c g) (group_state (sort_of r) (state_of r) b v i) (grouped_declarator (own_naming (sort_of r))) refl f.0 in
      let m = within a (λ z. run_declarator z d) in
      let x = named_state (sort_of r) (names (own_naming (sort_of r)) (shape_of d)) (st.GroupClose b (shape_of d)) (subst (λ q. stands (sort_of r) q ≡ true) y.state f.0.3) in
      (y.formed, at_direct _ b (shape_of d) (then_state m (kind.Mark mark.CloseParenthesis) nowhere (st.Direct b (shape_of d)) (y.state ∙ x.1) refl))

  suffix_formed : (x : SuffixTree) (r : Tree) (b : Bool) (h : Shape) → is_declarator (sort_of r) ≡ true → At (state_of r) b h → Fits (suffix_onto r x) → FormedSuffix x × At (state_of (suffix_onto r x)) b (suffix_shape h x)
  suffix_formed (Array p) r b h v i f =
      (tt, at_direct _ b (indexed h) (then_state (mark_at r mark.OpenBracket p) (kind.Mark mark.CloseBracket) nowhere (st.Direct b (indexed h)) (bracket_state (sort_of r) (state_of r) b h v i) refl))
  suffix_formed (ArrayOf p e) r b h v i f =
      let a = mark_at r mark.OpenBracket p in let y = operand a (st.Size b h) e (λ z w g. expr_formed z e w g) (bracket_state (sort_of r) (state_of r) b h v i) refl f.0 in
      (y.formed, at_direct _ b (indexed h) (then_state (within a (λ z. run_expr z e)) (kind.Mark mark.CloseBracket) nowhere (st.Direct b (indexed h)) y.state refl))
  suffix_formed (Parameters p ps) r b h v i f =
      let a = mark_at r mark.OpenParenthesis p in let y = parameters_formed ps a b h (parenthesis_state (sort_of r) (state_of r) b h v i) f.0 in
      (y.0, at_direct _ b (suffix_shape h (Parameters p ps)) (close_state (sort_of (parameters_onto a ps)) ps (state_of (parameters_onto a ps)) b h y.1))

  suffixes_formed : (xs : SuffixTrees) (r : Tree) (b : Bool) (h : Shape) → is_declarator (sort_of r) ≡ true → At (state_of r) b h → Fits (suffixes_onto r xs) → FormedSuffixes xs × At (state_of (suffixes_onto r xs)) b (suffixes_shape h xs)
  suffixes_formed no_suffixes r b h v i f = (tt, i)
  suffixes_formed (and_suffix xs x) r b h v i f =
      let a = suffixes_onto r xs in let y = suffixes_formed xs r b h v i (suffix_before a x f) in
      let z = suffix_formed x a b (suffixes_shape h xs) (ap is_declarator (suffixes_sort r xs) ∙ v) y.1 f in
      ((y.0, z.0), z.1)

  pub initialiser_formed : (n : InitialiserTree) (z : Sort) → z ≡ sort.Initialiser → Fits (run_initialiser z n) → InitialiserDone n (run_initialiser z n)
  initialiser_formed (Expression e) z k f = expr_formed z e (ap values k) f
  initialiser_formed (Braced p ns b) z k f =
      let a = mark_at (begin z) mark.OpenBrace p in let g = comma_before (initialisers_onto a ns) b f.0 in
      let x = initialisers_formed ns a (ap (λ s. on_token s st.Fresh (kind.Mark mark.OpenBrace)) k) g in
      record { formed = x.0; state = braced_state (initialisers_onto a ns) b x.1 }

  initialisers_formed : (ns : InitialiserTrees) (r : Tree) → state_of r ≡ st.Braces → Fits (initialisers_onto r ns) → FormedInitialisers ns × (state_of (initialisers_onto r ns) ≡ st.BraceMore)
  initialisers_formed (first_initialiser n) r i f = let y = initialiser r st.Braces n (λ z c g. initialiser_formed n z c g) i refl f in (y.formed, y.state)
  initialisers_formed (and_initialiser ns n) r i f =
      let x = initialisers_formed ns r i f.0.0 in let a = initialisers_onto r ns in
      let y = initialiser (closed a mark.Comma) st.BraceNext n (λ z c g. initialiser_formed n z c g) (then_state a (kind.Mark mark.Comma) nowhere st.BraceNext x.1 refl) refl f in
      ((x.0, y.formed), y.state)
