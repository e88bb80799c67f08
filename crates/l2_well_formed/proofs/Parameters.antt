-- The states of parameters and of the names of types.
use Rattle.std.proofs.Common.{◌≡◌, ◌⊎◌, inl, inr, refl, ap, sym, ◌∙◌, subst, Bool, true, false, cond, ◌&&◌, ◌||◌}
use Rattle.l2_syntax.specs.declared.place.Place.{Place}
use Rattle.l2_syntax.specs.declared.token.Mark.TheVariants as mark
use Rattle.l2_syntax.specs.declared.token.TokenKind.TheVariants as kind
use Rattle.l2_grammar.specs.declared.states.Items.TheVariants as items
use Rattle.l2_grammar.specs.declared.states.Sort.{Sort}
use Rattle.l2_grammar.specs.declared.states.Sort.TheVariants as sort
use Rattle.l2_grammar.specs.declared.states.Naming.{Naming}
use Rattle.l2_grammar.specs.declared.states.Naming.TheVariants as naming
use Rattle.l2_grammar.specs.declared.states.Storage.{Storage}
use Rattle.l2_grammar.specs.declared.states.Storage.TheVariants as storage
use Rattle.l2_grammar.specs.declared.states.Shape.{Shape}
use Rattle.l2_grammar.specs.declared.states.Shape.TheVariants as shape
use Rattle.l2_grammar.specs.declared.states.State.{State}
use Rattle.l2_grammar.specs.declared.states.State.TheVariants as st
use Rattle.l2_grammar.specs.declared.states.Outcome.TheVariants as outcome
use Rattle.l2_grammar.specs.Marks.{is}
use Rattle.l2_grammar.specs.Networks.{on_token, applied, cast_in}
use Rattle.l2_grammar.specs.Nesting as nesting
use Rattle.l2_grammar.specs.Nesting.{values, takes_type, is_declarator, is_automatic, specifies, names, own_naming, grouped, stands, on_child, opens, outcome as outcome_of}
use Rattle.l2_grammar.specs.Trees.{Tree, begin, child, sort as sort_of, state as state_of, Fits}
use Rattle.l2_tree.specs.Trees.{ParameterTree, Bare, Declared, ParameterTrees, no_parameters, and_parameter}
use Rattle.l2_tree.specs.Spelling.{nowhere, mark_at, closed, within, bracketed, run_parameter}
use Rattle.l2_well_formed.specs.Expressions.{is_named, all_named, is_void, may_define}
use Rattle.l2_well_formed.specs.WellFormed.{FormedParameter}
use Rattle.l2_well_formed.proofs.Steps.{no_none, then_state}
use Rattle.l2_well_formed.proofs.Shapes.{shape_of, shape_named}
use Rattle.l2_well_formed.proofs.Declarators.{Opened}

-- whether the declarator may have its name, or none, in such a place
abbrev pub NamedIn : Naming → ParameterTree → Type 0
NamedIn n (Bare xs) = Unit {0}
NamedIn n (Declared xs d) = names n (shape_of d) ≡ true

pub record ParameterIs (t : ParameterTree) (r : Tree) : Type 0 where
  pub words : Storage
  pub made : outcome_of (state_of r) ≡ outcome.Specified (is_named t) (is_void t)
  pub allowed : specifies (sort_of r) words ≡ true
  pub names_in : NamedIn (nesting.naming (sort_of r)) t
  pub formed : words ≡ storage.Automatic → FormedParameter t

abbrev pub ParameterDone : ParameterTree → Tree → Type 0
ParameterDone t r = (outcome_of (state_of r) ≡ outcome.Unfinished) ⊎ ParameterIs t r

automatic : (w : Storage) → is_automatic w ≡ true → w ≡ storage.Automatic
automatic storage.Automatic e = refl
automatic w e = absurd (cc)

-- a parameter stands where only words without storage may, and what it makes of the construct round it
pub record ParameterPut (q : State) (t : ParameterTree) (a b : Tree) : Type 0 where
  pub formed : FormedParameter t
  pub words : Storage
  pub allowed : specifies (opens (sort_of a) q) words ≡ true
  pub names_in : NamedIn (nesting.naming (opens (sort_of a) q)) t
  pub state : state_of (child a b) ≡ on_child (sort_of a) q (outcome.Specified (is_named t) (is_void t))

pub parameter : (a : Tree) (q : State) (t : ParameterTree) → ((z : Sort) → Fits (run_parameter z t) → ParameterDone t (run_parameter z t)) → state_of a ≡ q →
    ((w : Storage) → specifies (opens (sort_of a) q) w ≡ true → is_automatic w ≡ true) → on_child (sort_of a) q outcome.Unfinished ≡ st.None → Fits (child a (run_parameter (opens (sort_of a) (state_of a)) t)) →
    ParameterPut q t a (run_parameter (opens (sort_of a) (state_of a)) t)
parameter a q t h j k u g = go (h z g.1)
  where
    z : Sort
    z = opens (sort_of a) (state_of a)

    r : Tree
    r = run_parameter z t

    sorted : sort_of r ≡ opens (sort_of a) q
    sorted = sym g.2 ∙ ap (opens (sort_of a)) j

    go : ParameterDone t r → ParameterPut q t a r
    go (inl e) = absurd (no_none (sort_of a) (subst (λ y. stands (sort_of a) y ≡ true) (ap (λ y. on_child (sort_of a) y (outcome_of (state_of r))) j ∙ ap (on_child (sort_of a) q) e ∙ u) g.3))
    go (inr i) = let x = subst (λ y. specifies y i.words ≡ true) sorted i.allowed in
        record { formed = i.formed (automatic i.words (k i.words x)); words = i.words; allowed = x; names_in = subst (λ y. NamedIn (nesting.naming y) t) sorted i.names_in; state = ap (λ y. on_child (sort_of a) y (outcome_of (state_of r))) j ∙ ap (on_child (sort_of a) q) i.made }

-- ---- the name of a type in parentheses

pub open_state : (s : Sort) → values s ≡ true → on_token s st.Fresh (kind.Mark mark.OpenParenthesis) ≡ st.Paren
unfolding on_token is
open_state sort.ForFirst v = refl
open_state (sort.Item items.Lone) v = refl
open_state (sort.Item b) v = refl
open_state (sort.Operand l) v = refl
open_state sort.Inside v = refl
open_state sort.SizeofOperand v = refl
open_state sort.Initialiser v = refl
open_state s v = absurd (cc)

inside_automatic : (b : Bool) (w : Storage) → specifies (cond b sort.Inside (sort.Operand 1)) w ≡ true → is_automatic w ≡ true
inside_automatic true w h = h
inside_automatic false w h = absurd (cc)

no_name : (b : Bool) (t : ParameterTree) → NamedIn (nesting.naming (cond b sort.Inside (sort.Operand 1))) t → (specified : b ≡ true) → is_named t ≡ false
no_name b (Bare xs) i e = refl
no_name true (Declared xs d) i e = sym (shape_named d) ∙ go (shape_of d) i
  where
    go : (h : Shape) → names naming.Absent h ≡ true → nesting.is_named h ≡ false
    go shape.Nameless f = refl
    go h f = absurd (cc)
no_name false (Declared xs d) i e = absurd (cc)

pub record TypeName (s : Sort) (t : ParameterTree) (r : Tree) : Type 0 where
  pub unnamed : is_named t ≡ false
  pub formed : FormedParameter t
  pub state : state_of r ≡ cast_in s

-- a type is only where one may be
type_taken : (b : Bool) (w : Storage) → specifies (cond b sort.Inside (sort.Operand 1)) w ≡ true → b ≡ true
type_taken true w h = refl
type_taken false w h = absurd (cc)

pub type_name : (s : Sort) (p : Place) (t : ParameterTree) → ((z : Sort) → Fits (run_parameter z t) → ParameterDone t (run_parameter z t)) → values s ≡ true → Fits (bracketed (begin s) p (λ z. run_parameter z t)) →
    TypeName s t (bracketed (begin s) p (λ z. run_parameter z t))
unfolding on_token on_child opens is
type_name s p t h v f =
    let a = mark_at (begin s) mark.OpenParenthesis p in let y = parameter a st.Paren t h (open_state s v) (inside_automatic (takes_type s)) refl f.0 in
    record {
      unnamed = no_name (takes_type s) t y.names_in (type_taken (takes_type s) y.words y.allowed);
      formed = y.formed;
      state = then_state (within a (λ z. run_parameter z t)) (kind.Mark mark.CloseParenthesis) nowhere (cast_in s) y.state refl;
    }

-- ---- the parameters of a declarator

-- behind a parameter
pub record More (ps : ParameterTrees) (q : State) (b : Bool) (h : Shape) : Type 0 where
  pub now : Bool
  pub later : Bool
  pub state : q ≡ st.ParametersMore b h now later
  pub may : (h ≡ shape.Nameless) ⊎ ((now ≡ may_define ps) × (later ≡ all_named ps))

abbrev pub Listed : ParameterTrees → State → Bool → Shape → Type 0
Listed no_parameters q b h = Opened q b h
Listed ps q b h = More ps q b h

pub record FirstPut (p : ParameterTree) (q : State) (b : Bool) (h : Shape) : Type 0 where
  pub formed : FormedParameter p
  pub more : More (and_parameter no_parameters p) q b h

grouped_automatic : (n : Naming) (w : Storage) → specifies (grouped n) w ≡ true → is_automatic w ≡ true
grouped_automatic naming.Named w h = absurd (cc)
grouped_automatic n w h = h

pub first_parameter : (r : Tree) (p : ParameterTree) (b : Bool) (h : Shape) → ((z : Sort) → Fits (run_parameter z p) → ParameterDone p (run_parameter z p)) → Opened (state_of r) b h →
    Fits (child r (run_parameter (opens (sort_of r) (state_of r)) p)) → FirstPut p (state_of (child r (run_parameter (opens (sort_of r) (state_of r)) p))) b h
unfolding on_child opens
first_parameter r p b h k i f = go (state_of r) refl i
  where
    go : (q : State) → state_of r ≡ q → Opened q b h → FirstPut p (state_of (child r (run_parameter (opens (sort_of r) (state_of r)) p))) b h
    go (st.Parameters c g) e j = let y = parameter r (st.Parameters c g) p k e (λ w x. x) refl f in
        record { formed = y.formed; more = record { now = is_named p || is_void p; later = is_named p; state = y.state ∙ ap (λ z. st.ParametersMore z g (is_named p || is_void p) (is_named p)) j.0 ∙ ap (λ z. st.ParametersMore b z (is_named p || is_void p) (is_named p)) j.1; may = inr (refl, refl) } }
    go (st.Group c) e j = let y = parameter r (st.Group c) p k e (grouped_automatic (own_naming (sort_of r))) refl f in
        record { formed = y.formed; more = record { now = false; later = false; state = y.state ∙ ap (λ z. st.ParametersMore z shape.Nameless false false) j.0 ∙ ap (λ z. st.ParametersMore b z false false) j.1; may = inl (sym j.1) } }
    go q e j = absurd j

pub next_parameter : (r : Tree) (ps : ParameterTrees) (p : ParameterTree) (b : Bool) (h : Shape) → ((z : Sort) → Fits (run_parameter z p) → ParameterDone p (run_parameter z p)) → More ps (state_of r) b h →
    Fits (child (closed r mark.Comma) (run_parameter (opens (sort_of r) (state_of (closed r mark.Comma))) p)) →
    FormedParameter p × ((now : Bool) × (state_of (child (closed r mark.Comma) (run_parameter (opens (sort_of r) (state_of (closed r mark.Comma))) p)) ≡ st.ParametersMore b h now now) × ((h ≡ shape.Nameless) ⊎ (now ≡ (all_named ps && is_named p))))
unfolding on_token on_child opens is
next_parameter r ps p b h k i f =
    let e = then_state r (kind.Mark mark.Comma) nowhere (st.ParametersNext b h i.later) i.state refl in let y = parameter (closed r mark.Comma) (st.ParametersNext b h i.later) p k e (λ w x. x) refl f in
    (y.formed, (i.later && is_named p, y.state, go i.may))
  where
    go : (h ≡ shape.Nameless) ⊎ ((i.now ≡ may_define ps) × (i.later ≡ all_named ps)) → (h ≡ shape.Nameless) ⊎ ((i.later && is_named p) ≡ (all_named ps && is_named p))
    go (inl x) = inl x
    go (inr x) = inr (ap (λ z. z && is_named p) x.1)

-- the end of the parameters
pub close_state : (s : Sort) (ps : ParameterTrees) (q : State) (b : Bool) (h : Shape) → Listed ps q b h → on_token s q (kind.Mark mark.CloseParenthesis) ≡ st.Direct b (applied h (may_define ps))
unfolding on_token is
close_state s no_parameters (st.Parameters c g) b h i = ap (λ z. st.Direct z (applied g true)) i.0 ∙ ap (λ z. st.Direct b (applied z true)) i.1
close_state s no_parameters (st.Group c) b h i = ap (λ z. st.Direct z shape.Nameless) i.0 ∙ ap (λ z. st.Direct b (applied z true)) i.1
close_state s no_parameters q b h i = absurd i
close_state s (and_parameter ps p) q b h i = ap (λ z. on_token s z (kind.Mark mark.CloseParenthesis)) i.state ∙ go h i.may
  where
    go : (g : Shape) → (g ≡ shape.Nameless) ⊎ ((i.now ≡ may_define (and_parameter ps p)) × (i.later ≡ all_named (and_parameter ps p))) → st.Direct b (applied g i.now) ≡ st.Direct b (applied g (may_define (and_parameter ps p)))
    go shape.Nameless x = refl
    go g (inl x) = absurd (cc)
    go g (inr x) = ap (λ z. st.Direct b (applied g z)) x.0
