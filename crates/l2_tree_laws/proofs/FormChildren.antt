-- How a construct that has been read so far goes on with a construct in it, and what it is as a whole.
use Rattle.std.proofs.Common.{◌≡◌, ◌⊎◌, inl, inr, refl, ◌∙◌, ap, sym, Bool, true, false, cond, List, [], ◌∷◌, ◌++◌, Option, None, Some}
use Rattle.l2_syntax.specs.declared.place.Place.{Place}
use Rattle.l2_syntax.specs.declared.token.Mark.TheVariants as mark
use Rattle.l2_grammar.specs.declared.states.Items.TheVariants as items
use Rattle.l2_grammar.specs.declared.states.Sort.{Sort}
use Rattle.l2_grammar.specs.declared.states.Sort.TheVariants as sort
use Rattle.l2_grammar.specs.declared.states.Storage.{Storage}
use Rattle.l2_grammar.specs.declared.states.Storage.TheVariants as storage
use Rattle.l2_grammar.specs.declared.states.Naming.{Naming}
use Rattle.l2_grammar.specs.declared.states.Naming.TheVariants as naming
use Rattle.l2_grammar.specs.declared.states.Shape.{Shape}
use Rattle.l2_grammar.specs.declared.states.Right.{Right}
use Rattle.l2_grammar.specs.declared.states.Right.TheVariants as right
use Rattle.l2_grammar.specs.declared.states.State.{State}
use Rattle.l2_grammar.specs.declared.states.State.TheVariants as st
use Rattle.l2_grammar.specs.declared.states.Outcome.{Outcome}
use Rattle.l2_grammar.specs.declared.states.Outcome.TheVariants as outcome
use Rattle.l2_grammar.specs.Nesting.{naming as naming_in, own_naming, grouped, names, opens, outcome as outcome_of, on_child, defines, stands, ends_declaration, takes_type}
use Rattle.l2_grammar.specs.Trees.{Tree, begin, child, sort as sort_of, state as state_of}
use Rattle.l2_grammar.proofs.Bools.{both}
use Rattle.l2_tree.specs.declared.expression.Pointer.TheVariants as pointer
use Rattle.l2_tree.proofs.Declarations.{pointers-end}
use Rattle.l2_tree.specs.Trees.{ExprTree, Update, Unary, Sizeof, SizeofType, Cast, Binary, Conditional, Assign, Comma, no_exprs, and_expr, SpecifierTrees, Valued, ParameterTree, Bare, Declared, no_parameters, and_parameter, DeclaratorTree, Declarator, Absent, no_suffixes, Expression, first_initialiser, and_initialiser, Initialised, no_declarators, and_declarator, and_declaration, FirstDeclaration, StmtTree, Declare, If, IfElse, Case, ReturnValue, and_stmt, Branch, BranchTrees, ExternalTree}
use Rattle.l2_tree.specs.Spelling.{closed, within, bracketed, run_expr, specifiers_onto, run_parameter, pointers_onto, run_declarator, run_initialiser, declaration_onto, run_stmt, branch_onto, branches_onto, run_external, externals_onto}
use Rattle.l2_tree.specs.Build.{add_enumerator, add_branch}
use Rattle.l2_tree_laws.proofs.Forms.{Front, Specified, next_declared, Declaring, FunctionHead, DeclaredComma, Ended, next_branch, Form, Value, Made}
use Rattle.l2_tree_laws.proofs.FormTokens.{no_none, specified, enumerators_add}

-- a construct that stands in another
pub inner : {r a b : Tree} {s : Sort} {q : State} (f : Sort → Tree) → sort_of a ≡ s → state_of a ≡ q → r ≡ a → f (opens s q) ≡ b → within r f ≡ child a b
inner {a = a} {s = s} {q = q} f i j e h =
    ap (λ z. child z (f (opens (sort_of z) (state_of z)))) e ∙ ap (λ z. child a (f (opens z (state_of a)))) i ∙ ap (λ z. child a (f (opens s z))) j ∙ ap (child a) h

-- ---- expressions

right_goes : (s : Sort) (x : Right) (a b : Tree) → sort_of a ≡ s → state_of a ≡ st.Right x → Form s (st.Right x) a → (e : ExprTree) → run_expr (opens s (st.Right x)) e ≡ b → (y : ExprTree) × (run_expr s y ≡ child a b)
unfolding opens
right_goes s (right.Binary l) a b i j (inl f) e h = (Binary f.0 f.1 f.2 e, inner (λ z. run_expr z e) i j f.3 h)
right_goes s (right.Binary l) a b i j (inr f) e h = (Comma f.0 e, inner (λ z. run_expr z e) i j f.1 h)
right_goes s right.Assignment a b i j f e h = (Assign f.0 f.1 f.2 e, inner (λ z. run_expr z e) i j f.3 h)
right_goes s right.Conditional a b i j f e h = (Conditional f.0 f.1 f.2 e, inner (λ z. run_expr z e) i j f.3 h)
right_goes s right.Cast a b i j f e h = (Cast f.0 f.1 e, inner (λ z. run_expr z e) i j f.2 h)
right_goes s right.Prefix a b i j f e h = (Unary f.0 f.1 e, inner (λ z. run_expr z e) i j f.2 h)
right_goes s right.Update a b i j f e h = (Update f.0 f.1 e, inner (λ z. run_expr z e) i j f.2 h)

paren_value : (c : Bool) (b : Tree) → Value (cond c sort.Inside (sort.Operand 1)) b → (e : ExprTree) × (run_expr (cond c sort.Inside (sort.Operand 1)) e ≡ b)
paren_value true b v = v
paren_value false b v = v

paren_type : (c : Bool) → ends_declaration (cond c sort.Inside (sort.Operand 1)) ≡ false
paren_type true = refl
paren_type false = refl

-- ---- statements

branches_add : (s : Sort) (o : Option BranchTrees) (p q : Place) (e : ExprTree) (t : StmtTree) → branches_onto (begin s) (add_branch o p q e t) ≡ branch_onto (next_branch s o) (Branch p q e t)
branches_add s None p q e t = refl
branches_add s (Some bs) p q e t = refl

-- an item of a block: a statement or a declaration
abbrev ItemOf : Tree → Type 0
ItemOf b = (t : StmtTree) × (run_stmt (sort.Item items.Listed) t ≡ b)

declared_item : (b : Tree) → Ended (sort.Item items.Listed) b → ItemOf b
declared_item b d = (Declare d.0, d.1)

-- ---- declarations

head_of : (s : Sort) (w : Storage) (x : Shape) (front a b : Tree) (xs : SpecifierTrees) (d : DeclaratorTree) → Front s w front → specifiers_onto front xs ≡ a → ((r : Tree) → r ≡ a → within r (λ z. run_declarator z d) ≡ child a b) →
    defines w x ≡ true → FunctionHead s (child a b)
head_of s storage.Typedef x front a b xs d f e g h = absurd (cc)
head_of s storage.Automatic x front a b xs d f e g h = record { specifiers = xs; declarator = d; is_it = g (specifiers_onto (begin s) xs) (ap (λ z. specifiers_onto z xs) f ∙ e) }
head_of s storage.Stored x front a b xs d f e g h = record { specifiers = xs; declarator = d; is_it = g (specifiers_onto (begin s) xs) (ap (λ z. specifiers_onto z xs) f ∙ e) }

first_declared : (s : Sort) (w : Storage) (x : Shape) (a b : Tree) (d : DeclaratorTree) → Specified s w a → ((r : Tree) → r ≡ a → within r (λ z. run_declarator z d) ≡ child a b) → Form s (st.Declared w x (defines w x)) (child a b)
first_declared s w x a b d f g = (
  record { front = f.front; fronts = f.fronts; specifiers = f.list; list = no_declarators; last = d; alone = inl refl; is_it = g (specifiers_onto f.front f.list) f.is_it },
  head_of s w x f.front a b f.list d f.fronts f.is_it g,
)

-- where a construct that is named so may stand, and none else
named_cond : (s : Sort) (c : Bool) (q : State) (r : Tree) → stands s (cond c q st.None) ≡ true → Form s q r → Form s (cond c q st.None) r
named_cond s true q r h f = f
named_cond s false q r h f = absurd (no_none s h)

next_declared_form : (s : Sort) (w : Storage) (x : Shape) (a b : Tree) (d : DeclaratorTree) → DeclaredComma s w a → (state_of a ≡ st.Fresh) ⊎ (stands s (st.NextDeclarator w) ≡ true) → state_of a ≡ st.NextDeclarator w →
    ((r : Tree) → r ≡ a → within r (λ z. run_declarator z d) ≡ child a b) → Form s (st.Declared w x false) (child a b)
unfolding stands
next_declared_form s w x a b d f (inl e) j g = absurd (cc)
next_declared_form s w x a b d f (inr e) j g = (
  record { front = f.front; fronts = f.fronts; specifiers = f.specifiers; list = and_declarator f.list f.last; last = d; alone = inr (both (ends_declaration s) _ e).0; is_it = g _ f.is_it },
  λ h. absurd (cc),
)

group_type : (n : Naming) → ends_declaration (grouped n) ≡ false
group_type naming.Named = refl
group_type naming.Optional = refl
group_type naming.Absent = refl

externals_end : (r : Tree) (xs : List ExternalTree) (x : ExternalTree) → externals_onto r (xs ++ (x ∷ [])) ≡ within (externals_onto r xs) (λ z. run_external z x)
externals_end r [] x = refl
externals_end r (y ∷ xs) x = externals_end (within r (λ z. run_external z y)) xs x

fresh_child : (s : Sort) (a b : Tree) → sort_of a ≡ s → state_of a ≡ st.Fresh → Form s st.Fresh a → Ended (opens s st.Fresh) b → stands s st.Fresh ≡ true → Form s st.Fresh (child a b)
unfolding stands opens
fresh_child sort.Unit a b i j f d h = (f.0 ++ (d.0 ∷ []), externals_end (begin sort.Unit) f.0 d.0 ∙ inner (λ z. run_external z d.0) i j f.1 d.1)
fresh_child s a b i j f d h = absurd (cc)

-- ---- every construct

pub child_goes : (s : Sort) (q : State) (a b : Tree) (o : Outcome) → sort_of a ≡ s → state_of a ≡ q → (state_of a ≡ st.Fresh) ⊎ (stands s q ≡ true) → Form s q a → Made (opens s q) o b → stands s (on_child s q o) ≡ true → Form s (on_child s q o) (child a b)
unfolding on_child opens
child_goes s st.Fresh a b outcome.Declaration i j c f m h = fresh_child s a b i j f m h
child_goes s (st.Right x) a b outcome.Value i j c f m h = right_goes s x a b i j f m.0 m.1
child_goes s st.Sizing a b outcome.Value i j c f (inl m) h = (Sizeof f.0 m.0, inner (λ z. run_expr z m.0) i j f.1 m.1)
child_goes s st.Sizing a b outcome.Value i j c f (inr m) h = (SizeofType f.0 m.0 m.1, inner (λ z. bracketed (begin z) m.0 (λ y. run_parameter y m.1)) i j f.1 m.2)
child_goes s st.Paren a b outcome.Value i j c f m h = let v = paren_value (takes_type s) b m in (f.0, v.0, inner (λ z. run_expr z v.0) i j f.1 v.1)
child_goes s st.Paren a b (outcome.Specified n v) i j c f m h = let t = m (paren_type (takes_type s)) in (f.0, t.0, inner (λ z. run_parameter z t.0) i j f.1 t.1)
child_goes s st.Index a b outcome.Value i j c f m h = (f.0, f.1, m.0, inner (λ z. run_expr z m.0) i j f.2 m.1)
child_goes s st.Call a b outcome.Value i j c f m h = (f.0, f.1, no_exprs, m.0, inner (λ z. run_expr z m.0) i j f.2 m.1)
child_goes s st.CallNext a b outcome.Value i j c f m h = (f.0, f.1, and_expr f.2 f.3, m.0, inner (λ z. run_expr z m.0) i j f.4 m.1)
child_goes s st.Quest a b outcome.Value i j c f m h = (f.0, f.1, m.0, inner (λ z. run_expr z m.0) i j f.2 m.1)
child_goes s st.Block a b (outcome.Stated v) i j c f m h = (f.0, and_stmt f.1 m.0, inner (λ z. run_stmt z m.0) i j f.2 m.1)
child_goes s st.Block a b outcome.Declaration i j c f m h = let t = declared_item b m in (f.0, and_stmt f.1 t.0, inner (λ z. run_stmt z t.0) i j f.2 t.1)
child_goes s st.IfTest a b outcome.Value i j c f m h = (f.0, f.1, f.2, m.0, inner (λ z. run_expr z m.0) i j f.3 m.1)
child_goes s st.ThenPart a b (outcome.Stated v) i j c f m h = (add_branch f.0 f.1 f.2 f.3 m.0, branches_add s f.0 f.1 f.2 f.3 m.0 ∙ inner (λ z. run_stmt z m.0) i j f.4 m.1)
child_goes s st.ElsePart a b (outcome.Stated v) i j c f m h = (IfElse f.0 m.0, inner (λ z. run_stmt z m.0) i j f.1 m.1)
child_goes s st.HeadTest a b outcome.Value i j c f m h = (f.0, f.1, f.2, m.0, inner (λ z. run_expr z m.0) i j f.3 m.1)
child_goes s st.Body a b (outcome.Stated v) i j c f m h = (f.make m.0, f.is_it m.0 ∙ inner (λ z. run_stmt z m.0) i j refl m.1)
child_goes s st.DoBody a b (outcome.Stated v) i j c f m h = (f.0, m.0, inner (λ z. run_stmt z m.0) i j f.1 m.1)
child_goes s st.DoTest a b outcome.Value i j c f m h = (f.0, f.1, f.2, f.3, m.0, inner (λ z. run_expr z m.0) i j f.4 m.1)
child_goes s st.ForInit a b outcome.Value i j c f m h = (f.0, f.1, m.0, inner (λ z. run_expr z m.0) i j f.2 m.1)
child_goes s st.ForInit a b outcome.Declaration i j c f m h = (f.0, f.1, FirstDeclaration m.0, inner (λ z. declaration_onto (begin z) m.0) i j f.2 m.1)
child_goes s st.ForSecond a b outcome.Value i j c f m h = (f.0, f.1, f.2, m.0, inner (λ z. run_expr z m.0) i j f.3 m.1)
child_goes s st.ForThird a b outcome.Value i j c f m h = (f.0, f.1, f.2, f.3, m.0, inner (λ z. run_expr z m.0) i j f.4 m.1)
child_goes s st.CaseValue a b outcome.Value i j c f m h = record { make = λ t. Case f.0 m.0 t; is_it = λ t. ap (λ z. within (closed z mark.Colon) (λ y. run_stmt y t)) (inner (λ z. run_expr z m.0) i j f.1 m.1) }
child_goes s st.Returning a b outcome.Value i j c f m h = (ReturnValue f.0 m.0, ap (λ z. closed z mark.Semicolon) (inner (λ z. run_expr z m.0) i j f.1 m.1))
child_goes s (st.Typed w y) a b (outcome.Declares x) i j c f m h = named_cond s (names (naming_in s) x) (st.Declared w x (defines w x)) (child a b) h (first_declared s w x a b m.0 (specified s w y a f) (λ r e. inner (λ z. run_declarator z m.0) i j e m.1))
child_goes s (st.Members w) a b outcome.Declaration i j c f m h = record { base = f.base; body = f.body; list = and_declaration f.list m.0; is_it = inner (λ z. declaration_onto (begin z) m.0) i j f.is_it m.1 }
child_goes s (st.EnumValue w) a b outcome.Value i j c f m h = record {
  base = f.base;
  body = f.body;
  list = add_enumerator f.list (Valued f.name f.place f.equal m.0);
  is_it = enumerators_add f.base f.list (Valued f.name f.place f.equal m.0) ∙ inner (λ z. run_expr z m.0) i j f.is_it m.1;
}
child_goes s (st.InitValue w) a b outcome.Value i j c f m h = record { front = f.front; fronts = f.fronts; specifiers = f.specifiers; list = f.list; last = Initialised f.last f.equal m.0; is_it = inner (λ z. run_initialiser z m.0) i j f.is_it m.1 }
child_goes s (st.NextDeclarator w) a b (outcome.Declares x) i j c f m h = named_cond s (names (naming_in s) x) (st.Declared w x false) (child a b) h (next_declared_form s w x a b m.0 f c j (λ r e. inner (λ z. run_declarator z m.0) i j e m.1))
child_goes s st.FunctionBlock a b (outcome.Stated v) i j c f m h = record { external = f.external; specifiers = f.specifiers; declarator = f.declarator; brace = f.brace; items = and_stmt f.items m.0; is_it = inner (λ z. run_stmt z m.0) i j f.is_it m.1 }
child_goes s st.FunctionBlock a b outcome.Declaration i j c f m h = let t = declared_item b m in
    record { external = f.external; specifiers = f.specifiers; declarator = f.declarator; brace = f.brace; items = and_stmt f.items t.0; is_it = inner (λ z. run_stmt z t.0) i j f.is_it t.1 }
child_goes s st.Braces a b outcome.Value i j c f m h = (f.0, first_initialiser m.0, inner (λ z. run_initialiser z m.0) i j f.1 m.1)
child_goes s st.BraceNext a b outcome.Value i j c f m h = (f.0, and_initialiser f.1 m.0, inner (λ z. run_initialiser z m.0) i j f.2 m.1)
child_goes s (st.Group v) a b (outcome.Declares x) i j c f m h = named_cond s (names (own_naming s) x) (st.GroupClose v x) (child a b) h (f.0, f.1, m.0, inner (λ z. run_declarator z m.0) i j f.2 m.1)
child_goes s (st.Group v) a b (outcome.Specified n e) i j c f m h = let t = m (group_type (own_naming s)) in
    record { base = pointers_onto (begin s) f.0; suffixed = record { pointers = f.0; core = Absent; list = no_suffixes; is_it = refl }; place = f.1; list = no_parameters; last = t.0; is_it = inner (λ z. run_parameter z t.0) i j f.2 t.1 }
child_goes s (st.Size v x) a b outcome.Value i j c f m h = record { base = f.base; suffixed = f.suffixed; place = f.place; length = m.0; is_it = inner (λ z. run_expr z m.0) i j f.is_it m.1 }
child_goes s (st.Parameters v x) a b (outcome.Specified n e) i j c f m h = let t = m refl in
    record { base = f.base; suffixed = f.suffixed; place = f.place; list = no_parameters; last = t.0; is_it = inner (λ z. run_parameter z t.0) i j f.is_it t.1 }
child_goes s (st.ParametersNext v x d) a b (outcome.Specified n e) i j c f m h = let t = m refl in
    record { base = f.base; suffixed = f.suffixed; place = f.place; list = and_parameter f.list f.last; last = t.0; is_it = inner (λ z. run_parameter z t.0) i j f.is_it t.1 }
child_goes s q a b o i j c f m h = absurd (no_none s h)

-- ---- what it is as a whole

value_of : (s : Sort) (r : Tree) (a : ExprTree) → run_expr s a ≡ r → Value s r
value_of sort.SizeofOperand r a e = inl (a, e)
value_of sort.Initialiser r a e = (Expression a, e)
value_of s r a e = (a, e)

sized_value : (s : Sort) (r : Tree) → Form s st.Sized r → stands s st.Sized ≡ true → Value s r
unfolding stands
sized_value sort.SizeofOperand r f h = inr f
sized_value s r f h = absurd (cc)

braced_value : (s : Sort) (r : Tree) → Form s st.Braced r → stands s st.Braced ≡ true → Value s r
unfolding stands
braced_value sort.Initialiser r f h = f
braced_value s r f h = absurd (cc)

-- no `typedef` stands before the specifiers of what no semicolon ends
plain_front : (s : Sort) (w : Storage) (f : Tree) → ends_declaration s ≡ false → Front s w f → begin s ≡ f
plain_front sort.External storage.Typedef f h e = absurd (cc)
plain_front s storage.Typedef f h e = absurd (cc)
plain_front s storage.Automatic f h e = e
plain_front s storage.Stored f h e = e

bare_parameter : (s : Sort) (w : Storage) (r : Tree) → Specified s w r → ends_declaration s ≡ false → (t : ParameterTree) × (run_parameter s t ≡ r)
bare_parameter s w r f h = (Bare f.list, ap (λ z. specifiers_onto z f.list) (plain_front s w f.front h f.fronts) ∙ f.is_it)

declared_parameter : (s : Sort) (w : Storage) (r : Tree) → Declaring s w r → ends_declaration s ≡ false → (t : ParameterTree) × (run_parameter s t ≡ r)
declared_parameter s w r f h = go f.alone
  where
    go : (f.list ≡ no_declarators) ⊎ (ends_declaration s ≡ true) → (t : ParameterTree) × (run_parameter s t ≡ r)
    go (inr e) = absurd (cc)
    go (inl e) = (
      Declared f.specifiers f.last,
      ap (λ y. within (specifiers_onto y f.specifiers) (λ z. run_declarator z f.last)) (plain_front s w f.front h f.fronts)
          ∙ sym (ap (λ y. within (next_declared f.front f.specifiers y) (λ z. run_declarator z f.last)) e) ∙ f.is_it,
    )

pub whole_form : (s : Sort) (q : State) (r : Tree) → Form s q r → stands s q ≡ true → Made s (outcome_of q) r
unfolding outcome_of
whole_form s (st.Have l) r f h = value_of s r f.0 f.1
whole_form s st.Sized r f h = sized_value s r f h
whole_form s st.Braced r f h = braced_value s r f h
whole_form s (st.Statement b) r f h = f
whole_form s (st.ThenDone b) r f h = (If f.0, f.1)
whole_form s st.DeclarationEnd r f h = f
whole_form s (st.Typed w y) r f h = bare_parameter s w r (specified s w y r f)
whole_form s (st.Declared w x b) r f h = declared_parameter s w r f.0
whole_form s st.Stars r f h = (Declarator (f.0 ++ (pointer.Plain f.1 ∷ [])) Absent no_suffixes, pointers-end (begin s) f.0 (pointer.Plain f.1) ∙ f.2)
whole_form s st.StarsConst r f h = (Declarator f.0 Absent no_suffixes, f.1)
whole_form s (st.Direct b x) r f h = (Declarator f.pointers f.core f.list, f.is_it)
whole_form s q r f h = tt
