-- The tree of a unit is well formed.
use Rattle.std.proofs.Common.{◌≡◌, ◌≤◌, refl, ap, sym, ◌∙◌, subst, Bool, true, false, List, [], ◌∷◌, arith}
use Rattle.l2_syntax.specs.declared.token.Mark.TheVariants as mark
use Rattle.l2_syntax.specs.declared.token.TokenKind.TheVariants as kind
use Rattle.l2_grammar.specs.declared.states.Sort.{Sort}
use Rattle.l2_grammar.specs.declared.states.Sort.TheVariants as sort
use Rattle.l2_grammar.specs.declared.states.Storage.{Storage}
use Rattle.l2_grammar.specs.declared.states.Storage.TheVariants as storage
use Rattle.l2_grammar.specs.declared.states.Shape.{Shape}
use Rattle.l2_grammar.specs.declared.states.Shape.TheVariants as shape
use Rattle.l2_grammar.specs.declared.states.State.{State}
use Rattle.l2_grammar.specs.declared.states.State.TheVariants as st
use Rattle.l2_grammar.specs.declared.states.Outcome.{Outcome}
use Rattle.l2_grammar.specs.declared.states.Outcome.TheVariants as outcome
use Rattle.l2_grammar.specs.Marks.{is}
use Rattle.l2_grammar.specs.Networks.{on_token}
use Rattle.l2_grammar.specs.Nesting as nesting
use Rattle.l2_grammar.specs.Nesting.{behind_declaration, initialises, defines, stands, on_child, opens, outcome as outcome_of}
use Rattle.l2_grammar.specs.Trees.{Tree, begin, sort as sort_of, state as state_of, Fits}
use Rattle.l2_tree.specs.Trees.{StmtTrees, no_stmts, and_stmt, ExternalTree, Nothing, Global, Typedef, Function}
use Rattle.l2_tree.specs.Spelling.{mark_at, within, specifiers_onto, run_declarator, stmts_onto, run_external, externals_onto}
use Rattle.l2_tree_laws.specs.Specifiers.{nothing}
use Rattle.l2_well_formed.specs.WellFormed.{FormedExternal, WellFormed, WellFormedLaw}
use Rattle.l2_well_formed.proofs.Steps.{no_none}
use Rattle.l2_well_formed.proofs.Counts.{Ready, fresh_ready, stored_words}
use Rattle.l2_well_formed.proofs.Specifiers.{is_typed}
use Rattle.l2_well_formed.proofs.Shapes.{shape_of, shape_defines}
use Rattle.l2_well_formed.proofs.Declarations.{specifiers_sort, typing_child, typing_names, declared}
use Rattle.l2_well_formed.proofs.Formed.{specifiers_formed, declarator_formed}
use Rattle.l2_well_formed.proofs.Items.{declaration_formed, stored_once}
use Rattle.l2_well_formed.proofs.Statements.{items_formed}
use Rattle.l2_well_formed.proofs.Typedefs.{held, typedef_words}

typedef_state : (z : Sort) → z ≡ sort.External → on_token z st.Fresh (kind.Mark mark.Typedef) ≡ st.BeforeType storage.Typedef
unfolding on_token
typedef_state z e = ap (λ s. on_token s st.Fresh (kind.Mark mark.Typedef)) e

typedef_ready : (r : Tree) → state_of r ≡ st.BeforeType storage.Typedef → Ready r nothing
typedef_ready r e = record { state = st.BeforeType storage.Typedef; said = refl; same = λ k i h. ap (λ q. on_token (sort_of r) q k) e }

typedef_stored : (w : Storage) → w ≡ storage.Typedef → stored_words w ≤ 0
typedef_stored w e = subst (λ z. stored_words z ≤ 0) (sym e) (omega arith)

untyped : (q : State) → q ≡ st.BeforeType storage.Typedef → is_typed q ≡ false
untyped q e = ap is_typed e

items_before : (r : Tree) (ss : StmtTrees) → Fits (stmts_onto r ss) → Fits r
items_before r no_stmts f = f
items_before r (and_stmt ss t) f = items_before r ss f.0

-- a function's body stands behind a declarator that defines one
brace_state : (s : Sort) (w : Storage) (h : Shape) (b : Bool) → stands s (on_token s (st.Declared w h b) (kind.Mark mark.OpenBrace)) ≡ true → (b ≡ true) × (on_token s (st.Declared w h b) (kind.Mark mark.OpenBrace) ≡ st.FunctionBlock)
unfolding on_token is
brace_state s w h true i = (refl, refl)
brace_state s w h false i = absurd (no_none s i)

defines_shape : (w : Storage) (h : Shape) → defines w h ≡ true → h ≡ shape.Function true
defines_shape storage.Typedef h e = absurd (cc)
defines_shape w (shape.Function true) e = refl
defines_shape w h e = absurd (cc)

pub external_formed : (x : ExternalTree) (z : Sort) → z ≡ sort.External → Fits (run_external z x) → FormedExternal x
unfolding on_token on_child opens is
external_formed Nothing z e f = tt
external_formed (Global d) z e f = (declaration_formed 1 d (begin z) (fresh_ready z) refl (ap nesting.naming e) (stored_once (begin z)) f).formed
external_formed (Typedef p d) z e f =
    let r = mark_at (begin z) mark.Typedef p in let j : state_of r ≡ st.BeforeType storage.Typedef = typedef_state z e in
    let h : held (state_of r) ≡ true = ap held j in
    let y = declaration_formed 0 d r (typedef_ready r j) (untyped (state_of r) j) (ap nesting.naming e) (λ xs t. typedef_stored t.words (typedef_words r xs t h)) f in
    (y.formed, y.plain (λ xs t. ap (λ s. initialises s t.words) e ∙ ap (initialises sort.External) (typedef_words r xs t h)))
external_formed (Function xs d p ss) z e f =
    let a = specifiers_onto (begin z) xs in let c = within a (λ s. run_declarator s d) in let b = mark_at c mark.OpenBrace p in let g = items_before b ss f.0 in
    let t = typing_child (begin z) xs (run_declarator (opens (sort_of a) (state_of a)) d) (fresh_ready z) g.0 in
    let y = declared a (st.Typed t.words t.name) d t.words (defines t.words) (λ s k i. declarator_formed d s k i) t.state (ap nesting.naming (specifiers_sort (begin z) xs ∙ e)) refl refl (λ h. refl) g.0 in
    let k = brace_state (sort_of a) t.words (shape_of d) (defines t.words (shape_of d)) (subst (λ q. stands (sort_of a) (on_token (sort_of a) q (kind.Mark mark.OpenBrace)) ≡ true) y.state g.1) in
    let i = items_formed ss b st.FunctionBlock (ap (λ q. on_token (sort_of a) q (kind.Mark mark.OpenBrace)) y.state ∙ k.1) (λ s. refl) (λ s o. refl) f.0 in
    (typing_names (begin z) xs 1 (fresh_ready z) t (stored_once (begin z) xs t), specifiers_formed xs (begin z) t.fits, y.formed, shape_defines d (defines_shape t.words (shape_of d) k.0), i.0)

externals_before : (xs : List ExternalTree) (r : Tree) → Fits (externals_onto r xs) → Fits r
externals_before [] r f = f
externals_before (x ∷ xs) r f = (externals_before xs (within r (λ z. run_external z x)) f).0

fresh_state : (s : Sort) (o : Outcome) → stands s (behind_declaration st.Fresh o) ≡ true → behind_declaration st.Fresh o ≡ st.Fresh
fresh_state s outcome.Declaration h = refl
fresh_state s o h = absurd (no_none s h)

externals_formed : (xs : List ExternalTree) (r : Tree) → state_of r ≡ st.Fresh → sort_of r ≡ sort.Unit → Fits (externals_onto r xs) → WellFormed xs
unfolding on_child opens
externals_formed [] r j e f = tt
externals_formed (x ∷ xs) r j e f =
    let z = opens (sort_of r) (state_of r) in let k : z ≡ sort.External = ap (opens (sort_of r)) j ∙ ap (λ s. opens s st.Fresh) e in
    let g = externals_before xs (within r (λ y. run_external y x)) f in let o = outcome_of (state_of (run_external z x)) in
    let i = ap (λ q. on_child (sort_of r) q o) j in
    (external_formed x z k g.1, externals_formed xs (within r (λ y. run_external y x)) (i ∙ fresh_state (sort_of r) o (subst (λ q. stands (sort_of r) q ≡ true) i g.3)) e f)

pub well_formed : WellFormedLaw
well_formed xs u = externals_formed xs (begin sort.Unit) refl refl u.fits.0
