-- The states of declarations, of their declarators and of initialisers.
use Rattle.std.proofs.Common.{◌≡◌, ◌≤◌, ◌⊎◌, inl, inr, refl, ap, sym, ◌∙◌, subst, ℕ, Bool, true, false, cond, ◌&&◌, None, Some, arith}
use Rattle.l2_syntax.specs.declared.place.Place.{Place}
use Rattle.l2_syntax.specs.declared.token.Mark.TheVariants as mark
use Rattle.l2_syntax.specs.declared.token.TokenKind.TheVariants as kind
use Rattle.l2_grammar.specs.declared.states.Sort.{Sort}
use Rattle.l2_grammar.specs.declared.states.Sort.TheVariants as sort
use Rattle.l2_grammar.specs.declared.states.Naming.TheVariants as naming
use Rattle.l2_grammar.specs.declared.states.Storage.{Storage}
use Rattle.l2_grammar.specs.declared.states.Storage.TheVariants as storage
use Rattle.l2_grammar.specs.declared.states.Named.{Named}
use Rattle.l2_grammar.specs.declared.states.Shape.{Shape}
use Rattle.l2_grammar.specs.declared.states.State.{State}
use Rattle.l2_grammar.specs.declared.states.State.TheVariants as st
use Rattle.l2_grammar.specs.declared.states.Outcome.{Outcome}
use Rattle.l2_grammar.specs.declared.states.Outcome.TheVariants as outcome
use Rattle.l2_grammar.specs.Marks.{is}
use Rattle.l2_grammar.specs.Networks.{on_token}
use Rattle.l2_grammar.specs.Nesting as nesting
use Rattle.l2_grammar.specs.Nesting.{is_declarator, is_nothing, specifies, initialises, names, defines, stands, on_child, opens, outcome as outcome_of}
use Rattle.l2_grammar.specs.Trees.{Tree, begin, token, child, sort as sort_of, state as state_of, Fits}
use Rattle.l2_grammar.proofs.Bools.{both}
use Rattle.l2_tree.specs.Trees.{SpecifierTree, Word, TypeName, Struct, StructBody, Enum, EnumBody, SpecifierTrees, first_specifier, and_specifier, EnumeratorTree, Plain, Valued, EnumeratorTrees, first_enumerator, and_enumerator, DeclarationTrees, no_declarations, and_declaration, Bare, Declared, DeclaratorTree, InitialiserTree, Expression, Braced, InitialiserTrees, DeclaredTree, Uninitialised, Initialised, DeclaredTrees, no_declarators, and_declarator}
use Rattle.l2_tree.specs.Spelling.{mark_at, closed, comma_if, tag_onto, specifier_onto, specifiers_onto, members_onto, enumerator_onto, enumerators_onto, run_declarator, run_initialiser, run_parameter, declarators_onto}
use Rattle.l2_tree_laws.specs.Specifiers.{Tally, nothing, tally}
use Rattle.l2_well_formed.specs.Expressions.{level, has_name}
use Rattle.l2_well_formed.specs.WellFormed.{NamesType, FormedSpecifiers, FormedDeclarator, FormedInitialiser, FormedInitialisers}
use Rattle.l2_well_formed.proofs.Steps.{no_none, Done, operands, put}
use Rattle.l2_well_formed.proofs.Counts.{Said, Ready, specifiers_said, fresh_ready, stored_words}
use Rattle.l2_well_formed.proofs.Specifiers.{told, void_told}
use Rattle.l2_well_formed.proofs.Shapes.{shape_of, shape_named}
use Rattle.l2_well_formed.proofs.Declarators.{Declares, DeclaratorPut, declarator, named_state}
use Rattle.l2_well_formed.proofs.Parameters.{ParameterDone}

-- ---- sorts

enumerator_sort : (r : Tree) (e : EnumeratorTree) → sort_of (enumerator_onto r e) ≡ sort_of r
enumerator_sort r (Plain n p) = refl
enumerator_sort r (Valued n p q e) = refl

enumerators_sort : (r : Tree) (es : EnumeratorTrees) → sort_of (enumerators_onto r es) ≡ sort_of r
enumerators_sort r (first_enumerator e) = enumerator_sort r e
enumerators_sort r (and_enumerator es e) = enumerator_sort (closed (enumerators_onto r es) mark.Comma) e ∙ enumerators_sort r es

members_sort : (r : Tree) (ds : DeclarationTrees) → sort_of (members_onto r ds) ≡ sort_of r
members_sort r no_declarations = refl
members_sort r (and_declaration ds d) = members_sort r ds

comma_sort : (r : Tree) (b : Bool) → sort_of (comma_if b r) ≡ sort_of r
comma_sort r true = refl
comma_sort r false = refl

tag_sort : (r : Tree) (t : _) → sort_of (tag_onto r t) ≡ sort_of r
tag_sort r None = refl
tag_sort r (Some t) = refl

specifier_sort : (r : Tree) (x : SpecifierTree) → sort_of (specifier_onto r x) ≡ sort_of r
specifier_sort r (Word w p) = refl
specifier_sort r (TypeName n p) = refl
specifier_sort r (Struct p t) = refl
specifier_sort r (StructBody p t q ds) = members_sort _ ds ∙ tag_sort (mark_at r mark.Struct p) t
specifier_sort r (Enum p t) = refl
specifier_sort r (EnumBody p t q es b) = comma_sort _ b ∙ enumerators_sort _ es ∙ tag_sort (mark_at r mark.Enum p) t

pub specifiers_sort : (r : Tree) (xs : SpecifierTrees) → sort_of (specifiers_onto r xs) ≡ sort_of r
specifiers_sort r (first_specifier x) = specifier_sort r x
specifiers_sort r (and_specifier xs x) = specifier_sort (specifiers_onto r xs) x ∙ specifiers_sort r xs

pub declarators_sort : (r : Tree) (ds : DeclaredTrees) → sort_of (declarators_onto r ds) ≡ sort_of r
declarators_sort r no_declarators = refl
declarators_sort r (and_declarator no_declarators (Uninitialised d)) = refl
declarators_sort r (and_declarator no_declarators (Initialised d p n)) = refl
declarators_sort r (and_declarator (and_declarator ds e) (Uninitialised d)) = declarators_sort r (and_declarator ds e)
declarators_sort r (and_declarator (and_declarator ds e) (Initialised d p n)) = declarators_sort r (and_declarator ds e)

-- ---- the type of a declaration

-- behind specifiers that name a type
pub record Typing (r : Tree) (xs : SpecifierTrees) : Type 0 where
  pub words : Storage
  pub name : Named
  pub state : state_of (specifiers_onto r xs) ≡ st.Typed words name
  pub fits : Fits (specifiers_onto r xs)

typed_child : (s : Sort) (q : State) (o : Outcome) (t : Tally) → Said q t → stands s (on_child s q o) ≡ true → (w : Storage) × (y : Named) × (q ≡ st.Typed w y)
unfolding on_child
typed_child s (st.BeforeType w) o t i h = absurd (no_none s h)
typed_child s (st.Typed w y) o t i h = (w, y, refl)
typed_child s q o t i h = absurd i

typed_end : (s : Sort) (q : State) (t : Tally) → Said q t → stands s (on_token s q (kind.Mark mark.Semicolon)) ≡ true → (w : Storage) × (y : Named) × (q ≡ st.Typed w y)
unfolding on_token
typed_end s (st.BeforeType w) t i h = absurd (no_none s h)
typed_end s (st.Typed w y) t i h = (w, y, refl)
typed_end s q t i h = absurd i

pub typing_child : (r : Tree) (xs : SpecifierTrees) (b : Tree) → Ready r nothing → Fits (child (specifiers_onto r xs) b) → Typing r xs
typing_child r xs b i f =
    let a = specifiers_onto r xs in let x = typed_child (sort_of a) (state_of a) (outcome_of (state_of b)) (tally xs) (specifiers_said xs r i f.0) f.3 in record { words = x.0; name = x.1; state = x.2; fits = f.0 }

pub typing : (r : Tree) (xs : SpecifierTrees) (ds : DeclaredTrees) → Ready r nothing → Fits (closed (declarators_onto (specifiers_onto r xs) ds) mark.Semicolon) → Typing r xs
typing r xs no_declarators i f =
    let a = specifiers_onto r xs in let x = typed_end (sort_of a) (state_of a) (tally xs) (specifiers_said xs r i f.0) f.1 in record { words = x.0; name = x.1; state = x.2; fits = f.0 }
typing r xs (and_declarator ds d) i f = go (first_child (specifiers_onto r xs) ds d f.0)
  where
    go : (b : Tree) × Fits (child (specifiers_onto r xs) b) → Typing r xs
    go x = typing_child r xs x.0 i x.1

    first_child : (a : Tree) (es : DeclaredTrees) (e : DeclaredTree) → Fits (declarators_onto a (and_declarator es e)) → (b : Tree) × Fits (child a b)
    first_child a no_declarators (Uninitialised d) g = (_, g)
    first_child a no_declarators (Initialised d p n) g = (_, g.0.0)
    first_child a (and_declarator es k) (Uninitialised d) g = first_child a es k g.0.0
    first_child a (and_declarator es k) (Initialised d p n) g = first_child a es k g.0.0.0.0

-- the last part of a construct may stand
stands_last : (r : Tree) (w : Storage) (y : Named) → Fits r → state_of r ≡ st.Typed w y → stands (sort_of r) (state_of r) ≡ true
stands_last (begin s) w y f e = absurd (cc)
stands_last (token a t) w y f e = f.1
stands_last (child a b) w y f e = f.3

typed_specifies : (s : Sort) (w : Storage) (y : Named) → stands s (st.Typed w y) ≡ true → specifies s w ≡ true
unfolding stands
typed_specifies s w y h = h

pub typing_specifies : (r : Tree) (xs : SpecifierTrees) (x : Typing r xs) → specifies (sort_of r) x.words ≡ true
typing_specifies r xs x =
    let a = specifiers_onto r xs in
    subst (λ s. specifies s x.words ≡ true) (specifiers_sort r xs) (typed_specifies (sort_of a) x.words x.name (subst (λ q. stands (sort_of a) q ≡ true) x.state (stands_last a x.words x.name x.fits x.state)))

pub typing_names : (r : Tree) (xs : SpecifierTrees) (n : ℕ) → Ready r nothing → (x : Typing r xs) → stored_words x.words ≤ n → NamesType n xs
typing_names r xs n i x h = let y = told r xs x.words x.name i x.fits x.state in record { one = y.one; stored = subst (λ z. z ≤ n) (sym y.stores) h }

-- ---- one declarator

pub record DeclaredPut (d : DeclaratorTree) (w : Storage) (b : Bool) (r : Tree) : Type 0 where
  pub formed : FormedDeclarator d
  pub name : has_name d ≡ true
  pub state : state_of r ≡ st.Declared w (shape_of d) b

pub declared : (a : Tree) (q : State) (d : DeclaratorTree) (w : Storage) (may : Shape → Bool) → ((z : Sort) → is_declarator z ≡ true → Fits (run_declarator z d) → Declares d (run_declarator z d)) → state_of a ≡ q →
    nesting.naming (sort_of a) ≡ naming.Named → is_declarator (opens (sort_of a) q) ≡ true → on_child (sort_of a) q outcome.Unfinished ≡ st.None →
    ((h : Shape) → on_child (sort_of a) q (outcome.Declares h) ≡ cond (names (nesting.naming (sort_of a)) h) (st.Declared w h (may h)) st.None) → Fits (child a (run_declarator (opens (sort_of a) (state_of a)) d)) →
    DeclaredPut d w (may (shape_of d)) (child a (run_declarator (opens (sort_of a) (state_of a)) d))
declared a q d w may k j n c u o f =
    let y = declarator a q d k j c u f in let e = y.state ∙ o (shape_of d) in
    let x = named_state (sort_of a) (names (nesting.naming (sort_of a)) (shape_of d)) (st.Declared w (shape_of d) (may (shape_of d))) (subst (λ z. stands (sort_of a) z ≡ true) e f.3) in
    record { formed = y.formed; name = sym (shape_named d) ∙ subst (λ z. names z (shape_of d) ≡ true) n x.0; state = e ∙ x.1 }

-- ---- initialisers

pub record BracedDone (ns : InitialiserTrees) (r : Tree) : Type 0 where
  pub formed : FormedInitialisers ns
  pub state : state_of r ≡ st.Braced

abbrev pub InitialiserDone : InitialiserTree → Tree → Type 0
InitialiserDone (Expression e) r = Done e r
InitialiserDone (Braced p ns b) r = BracedDone ns r

pub record InitialiserPut (q : State) (n : InitialiserTree) (a b : Tree) : Type 0 where
  pub formed : FormedInitialiser n
  pub state : state_of (child a b) ≡ on_child (sort_of a) q outcome.Value

pub initialiser : (a : Tree) (q : State) (n : InitialiserTree) → ((z : Sort) → z ≡ sort.Initialiser → Fits (run_initialiser z n) → InitialiserDone n (run_initialiser z n)) → state_of a ≡ q → opens (sort_of a) q ≡ sort.Initialiser →
    Fits (child a (run_initialiser (opens (sort_of a) (state_of a)) n)) → InitialiserPut q n a (run_initialiser (opens (sort_of a) (state_of a)) n)
unfolding outcome_of
initialiser a q (Expression e) k j o f =
    let y = put a q e (k (opens (sort_of a) (state_of a)) (ap (opens (sort_of a)) j ∙ o) f.1) j (ap operands o) f in
    record { formed = (subst (λ z. nesting.least z ≤ level e) o y.least, y.formed); state = y.state }
initialiser a q (Braced p ns b) k j o f =
    let i = k (opens (sort_of a) (state_of a)) (ap (opens (sort_of a)) j ∙ o) f.1 in
    record { formed = i.formed; state = ap (λ y. on_child (sort_of a) y (outcome_of (state_of (run_initialiser (opens (sort_of a) (state_of a)) (Braced p ns b))))) j ∙ ap (λ y. on_child (sort_of a) q (outcome_of y)) i.state }

-- ---- parameters

bare_outcome : (w : Storage) (y : Named) → outcome_of (st.Typed w y) ≡ outcome.Specified false (is_nothing y)
unfolding outcome_of
bare_outcome w y = refl

before_outcome : (w : Storage) → outcome_of (st.BeforeType w) ≡ outcome.Unfinished
unfolding outcome_of
before_outcome w = refl

declared_outcome : (w : Storage) (h : Shape) (b : Bool) → outcome_of (st.Declared w h b) ≡ outcome.Specified (nesting.is_named h) false
unfolding outcome_of
declared_outcome w h b = refl

pub no_storage : (w : Storage) → w ≡ storage.Automatic → stored_words w ≤ 0
no_storage w e = subst (λ z. stored_words z ≤ 0) (sym e) (omega arith)

pub bare : (z : Sort) (xs : SpecifierTrees) → FormedSpecifiers xs → Fits (specifiers_onto (begin z) xs) → ParameterDone (Bare xs) (specifiers_onto (begin z) xs)
bare z xs g f = go (state_of r) refl (specifiers_said xs (begin z) (fresh_ready z) f)
  where
    r : Tree
    r = specifiers_onto (begin z) xs

    go : (q : State) → state_of r ≡ q → Said q (tally xs) → ParameterDone (Bare xs) r
    go (st.BeforeType w) e i = inl (ap outcome_of e ∙ before_outcome w)
    go (st.Typed w y) e i =
        let t : Typing (begin z) xs = record { words = w; name = y; state = e; fits = f } in
        inr (record {
          words = w;
          made = ap outcome_of e ∙ bare_outcome w y ∙ ap (outcome.Specified false) (void_told (begin z) xs w y (fresh_ready z) refl f e);
          allowed = subst (λ s. specifies s w ≡ true) (sym (specifiers_sort (begin z) xs)) (typing_specifies (begin z) xs t);
          names_in = tt;
          formed = λ h. (typing_names (begin z) xs 0 (fresh_ready z) t (no_storage w h), g);
        })
    go q e i = absurd i

declared_specifies : (s : Sort) (w : Storage) (h : Shape) (b : Bool) → stands s (st.Declared w h b) ≡ true → (specifies s w && names (nesting.naming s) h) ≡ true
unfolding stands
declared_specifies s w h b e = e

pub with_declarator : (z : Sort) (xs : SpecifierTrees) (d : DeclaratorTree) → FormedSpecifiers xs → ((z : Sort) → is_declarator z ≡ true → Fits (run_declarator z d) → Declares d (run_declarator z d)) →
    Fits (run_parameter z (Declared xs d)) → ParameterDone (Declared xs d) (run_parameter z (Declared xs d))
unfolding on_child opens
with_declarator z xs d g k f = inr (record {
  words = t.words;
  made = ap outcome_of e ∙ declared_outcome t.words (shape_of d) (defines t.words (shape_of d)) ∙ ap (λ b. outcome.Specified b false) (shape_named d);
  allowed = x.0;
  names_in = x.1;
  formed = λ h. (typing_names (begin z) xs 0 (fresh_ready z) t (no_storage t.words h), g, y.formed);
})
  where
    a : Tree
    a = specifiers_onto (begin z) xs

    t : Typing (begin z) xs
    t = typing_child (begin z) xs (run_declarator (opens (sort_of a) (state_of a)) d) (fresh_ready z) f

    y : DeclaratorPut (st.Typed t.words t.name) d a (run_declarator (opens (sort_of a) (state_of a)) d)
    y = declarator a (st.Typed t.words t.name) d k t.state refl refl f

    n : (names (nesting.naming (sort_of a)) (shape_of d) ≡ true) × (cond (names (nesting.naming (sort_of a)) (shape_of d)) (st.Declared t.words (shape_of d) (defines t.words (shape_of d))) st.None ≡ st.Declared t.words (shape_of d) (defines t.words (shape_of d)))
    n = named_state (sort_of a) (names (nesting.naming (sort_of a)) (shape_of d)) (st.Declared t.words (shape_of d) (defines t.words (shape_of d))) (subst (λ q. stands (sort_of a) q ≡ true) y.state f.3)

    e : state_of (run_parameter z (Declared xs d)) ≡ st.Declared t.words (shape_of d) (defines t.words (shape_of d))
    e = y.state ∙ n.1

    x : (specifies (sort_of a) t.words ≡ true) × (names (nesting.naming (sort_of a)) (shape_of d) ≡ true)
    x = both (specifies (sort_of a) t.words) (names (nesting.naming (sort_of a)) (shape_of d)) (declared_specifies (sort_of a) t.words (shape_of d) (defines t.words (shape_of d)) (subst (λ q. stands (sort_of a) q ≡ true) e f.3))

-- ---- the declarators of a declaration

-- behind the declarators
abbrev pub Ended : DeclaredTrees → State → Storage → Named → Type 0
Ended no_declarators q w y = q ≡ st.Typed w y
Ended ds q w y = ((h : Shape) × (b : Bool) × (q ≡ st.Declared w h b)) ⊎ (q ≡ st.InitClose w)

pub comma_next : (s : Sort) (ds : DeclaredTrees) (d : DeclaredTree) (q : State) (w : Storage) (y : Named) → Ended (and_declarator ds d) q w y → on_token s q (kind.Mark mark.Comma) ≡ st.NextDeclarator w
unfolding on_token is
comma_next s ds d q w y (inl x) = ap (λ z. on_token s z (kind.Mark mark.Comma)) x.2
comma_next s ds d q w y (inr x) = ap (λ z. on_token s z (kind.Mark mark.Comma)) x

pub equal_next : (r : Tree) (p : Place) (w : Storage) (h : Shape) (b : Bool) → state_of r ≡ st.Declared w h b → state_of (mark_at r mark.Equal p) ≡ st.InitValue w
unfolding on_token is
equal_next r p w h b e = ap (λ q. on_token (sort_of r) q (kind.Mark mark.Equal)) e

init_initialises : (s : Sort) (w : Storage) → stands s (st.InitValue w) ≡ true → initialises s w ≡ true
unfolding stands
init_initialises s w h = h

-- no initialiser stands where none may
pub no_init : {A : Type 0} (s : Sort) (q : State) (w : Storage) → stands s q ≡ true → q ≡ st.InitValue w → initialises s w ≡ false → A
no_init s q w h e f = absurd (go (initialises s w) (init_initialises s w (subst (λ z. stands s z ≡ true) e h)) f)
  where
    go : (b : Bool) → b ≡ true → b ≡ false → ⊥
    go true x y = absurd (cc)
    go false x y = absurd (cc)
