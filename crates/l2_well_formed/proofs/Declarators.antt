-- The states of a declarator.
use Rattle.std.proofs.Common.{◌≡◌, ◌⊎◌, inl, inr, refl, ap, sym, ◌∙◌, subst, ℕ, Bool, true, false, cond, ◌||◌, List, [], ◌∷◌}
use Rattle.l2_syntax.specs.declared.token.Mark.TheVariants as mark
use Rattle.l2_syntax.specs.declared.token.TokenKind.TheVariants as kind
use Rattle.l2_grammar.specs.declared.states.Sort.{Sort}
use Rattle.l2_grammar.specs.declared.states.Sort.TheVariants as sort
use Rattle.l2_grammar.specs.declared.states.Naming.{Naming}
use Rattle.l2_grammar.specs.declared.states.Naming.TheVariants as naming
use Rattle.l2_grammar.specs.declared.states.Shape.{Shape}
use Rattle.l2_grammar.specs.declared.states.Shape.TheVariants as shape
use Rattle.l2_grammar.specs.declared.states.State.{State}
use Rattle.l2_grammar.specs.declared.states.State.TheVariants as st
use Rattle.l2_grammar.specs.declared.states.Outcome.TheVariants as outcome
use Rattle.l2_grammar.specs.Marks.{is}
use Rattle.l2_grammar.specs.Networks.{on_token, starred}
use Rattle.l2_grammar.specs.Nesting.{is_declarator, grouped, stands, on_child, opens, outcome as outcome_of}
use Rattle.l2_grammar.specs.Trees.{Tree, child, sort as sort_of, state as state_of, Fits}
use Rattle.l2_tree.specs.declared.expression.Pointer.{Pointer}
use Rattle.l2_tree.specs.declared.expression.Pointer.TheVariants as pointer
use Rattle.l2_tree.specs.Trees.{DeclaratorTree, Declarator, CoreTree, Absent, Named, Group, SuffixTree, Array, ArrayOf, Parameters, SuffixTrees, no_suffixes, and_suffix, ParameterTrees, no_parameters, and_parameter}
use Rattle.l2_tree.specs.Spelling.{mark_at, pointers_onto, core_onto, parameters_onto, suffix_onto, suffixes_onto, run_declarator}
use Rattle.l2_well_formed.specs.Expressions.{is_empty}
use Rattle.l2_well_formed.specs.WellFormed.{FormedDeclarator}
use Rattle.l2_well_formed.proofs.Steps.{no_none, then_state}
use Rattle.l2_well_formed.proofs.Shapes.{has_pointers, shape_of}

-- behind pointers alone, and whether there are any
abbrev pub Starring : State → Bool → Type 0
Starring st.Fresh b = b ≡ false
Starring st.Stars b = b ≡ true
Starring st.StarsConst b = b ≡ true
Starring q b = ⊥

-- behind a core and what follows it
abbrev pub At : State → Bool → Shape → Type 0
At st.Fresh b h = (b ≡ false) × (h ≡ shape.Nameless)
At st.Stars b h = (b ≡ true) × (h ≡ shape.Nameless)
At st.StarsConst b h = (b ≡ true) × (h ≡ shape.Nameless)
At (st.Direct c g) b h = (c ≡ b) × (g ≡ h)
At q b h = ⊥

pub starring_at : (q : State) (b : Bool) → Starring q b → At q b shape.Nameless
starring_at st.Fresh b i = (i, refl)
starring_at st.Stars b i = (i, refl)
starring_at st.StarsConst b i = (i, refl)
starring_at q b i = absurd i

star_state : (s : Sort) (q : State) (b : Bool) → is_declarator s ≡ true → Starring q b → on_token s q (kind.Mark mark.Star) ≡ st.Stars
unfolding on_token is
star_state (sort.Declarator n) st.Fresh b d i = refl
star_state (sort.Enclosed n) st.Fresh b d i = refl
star_state s st.Fresh b d i = absurd (cc)
star_state s st.Stars b d i = refl
star_state s st.StarsConst b d i = refl
star_state s q b d i = absurd i

const_state : (s : Sort) → on_token s st.Stars (kind.Mark mark.Const) ≡ st.StarsConst
unfolding on_token is
const_state s = refl

or_true : (b : Bool) → true ≡ (b || true)
or_true true = refl
or_true false = refl

or_false : (b : Bool) → b ≡ (b || false)
or_false true = refl
or_false false = refl

pub pointers_state : (r : Tree) (ps : List Pointer) (b : Bool) → is_declarator (sort_of r) ≡ true → Starring (state_of r) b → Starring (state_of (pointers_onto r ps)) (b || has_pointers ps)
pointers_state r [] b d i = subst (Starring (state_of r)) (or_false b) i
pointers_state r (pointer.Plain p ∷ ps) b d i =
    let e = star_state (sort_of r) (state_of r) b d i in
    subst (Starring (state_of (pointers_onto (mark_at r mark.Star p) ps))) (or_true b) (pointers_state (mark_at r mark.Star p) ps true d (subst (λ q. Starring q true) (sym e) refl))
pointers_state r (pointer.Const p c ∷ ps) b d i =
    let e = then_state (mark_at r mark.Star p) (kind.Mark mark.Const) c st.StarsConst (star_state (sort_of r) (state_of r) b d i) (const_state (sort_of r)) in
    subst (Starring (state_of (pointers_onto (mark_at (mark_at r mark.Star p) mark.Const c) ps))) (or_true b) (pointers_state (mark_at (mark_at r mark.Star p) mark.Const c) ps true d (subst (λ q. Starring q true) (sym e) refl))

pub name_state : (s : Sort) (q : State) (b : Bool) (n : ℕ) → is_declarator s ≡ true → Starring q b → At (on_token s q (kind.Word n)) b shape.NameOnly
unfolding on_token is
name_state (sort.Declarator m) st.Fresh b n d i = (sym i, refl)
name_state (sort.Enclosed m) st.Fresh b n d i = (sym i, refl)
name_state s st.Fresh b n d i = absurd (cc)
name_state s st.Stars b n d i = (sym i, refl)
name_state s st.StarsConst b n d i = (sym i, refl)
name_state s q b n d i = absurd i

pub group_state : (s : Sort) (q : State) (b : Bool) → is_declarator s ≡ true → Starring q b → on_token s q (kind.Mark mark.OpenParenthesis) ≡ st.Group b
unfolding on_token is
group_state (sort.Declarator m) st.Fresh b d i = ap st.Group (sym i)
group_state (sort.Enclosed m) st.Fresh b d i = ap st.Group (sym i)
group_state s st.Fresh b d i = absurd (cc)
group_state s st.Stars b d i = ap st.Group (sym i)
group_state s st.StarsConst b d i = ap st.Group (sym i)
group_state s q b d i = absurd i

pub bracket_state : (s : Sort) (q : State) (b : Bool) (h : Shape) → is_declarator s ≡ true → At q b h → on_token s q (kind.Mark mark.OpenBracket) ≡ st.Size b h
unfolding on_token is
bracket_state (sort.Declarator m) st.Fresh b h d i = ap (λ c. st.Size c shape.Nameless) (sym i.0) ∙ ap (st.Size b) (sym i.1)
bracket_state (sort.Enclosed m) st.Fresh b h d i = ap (λ c. st.Size c shape.Nameless) (sym i.0) ∙ ap (st.Size b) (sym i.1)
bracket_state s st.Fresh b h d i = absurd (cc)
bracket_state s st.Stars b h d i = ap (λ c. st.Size c shape.Nameless) (sym i.0) ∙ ap (st.Size b) (sym i.1)
bracket_state s st.StarsConst b h d i = ap (λ c. st.Size c shape.Nameless) (sym i.0) ∙ ap (st.Size b) (sym i.1)
bracket_state s (st.Direct c g) b h d i = ap (λ z. st.Size z g) i.0 ∙ ap (st.Size b) i.1
bracket_state s q b h d i = absurd i

-- behind the `(` of parameters
abbrev pub Opened : State → Bool → Shape → Type 0
Opened (st.Parameters c g) b h = (c ≡ b) × (g ≡ h)
Opened (st.Group c) b h = (c ≡ b) × (shape.Nameless ≡ h)
Opened q b h = ⊥

pub parenthesis_state : (s : Sort) (q : State) (b : Bool) (h : Shape) → is_declarator s ≡ true → At q b h → Opened (on_token s q (kind.Mark mark.OpenParenthesis)) b h
unfolding on_token is
parenthesis_state (sort.Declarator m) st.Fresh b h d i = (sym i.0, sym i.1)
parenthesis_state (sort.Enclosed m) st.Fresh b h d i = (sym i.0, sym i.1)
parenthesis_state s st.Fresh b h d i = absurd (cc)
parenthesis_state s st.Stars b h d i = (sym i.0, sym i.1)
parenthesis_state s st.StarsConst b h d i = (sym i.0, sym i.1)
parenthesis_state s (st.Direct c g) b h d i = i
parenthesis_state s q b h d i = absurd i

-- ---- a whole declarator

pub record Declares (d : DeclaratorTree) (r : Tree) : Type 0 where
  pub formed : is_empty d ≡ false → FormedDeclarator d
  pub whole : (state_of r ≡ st.Fresh) ⊎ (outcome_of (state_of r) ≡ outcome.Declares (shape_of d))

starred_nameless : (b : Bool) → outcome.Declares shape.Nameless ≡ outcome.Declares (starred b shape.Nameless)
starred_nameless true = refl
starred_nameless false = refl

pub at_outcome : (q : State) (b : Bool) (h : Shape) → At q b h → (q ≡ st.Fresh) ⊎ (outcome_of q ≡ outcome.Declares (starred b h))
unfolding outcome_of
at_outcome st.Fresh b h i = inl refl
at_outcome st.Stars b h i = inr (starred_nameless b ∙ ap (λ z. outcome.Declares (starred b z)) (sym i.1))
at_outcome st.StarsConst b h i = inr (starred_nameless b ∙ ap (λ z. outcome.Declares (starred b z)) (sym i.1))
at_outcome (st.Direct c g) b h i = inr (ap (λ z. outcome.Declares (starred z g)) i.0 ∙ ap (λ z. outcome.Declares (starred b z)) i.1)
at_outcome q b h i = absurd i

not_empty : (z : Sort) (d : DeclaratorTree) (h : Shape) → outcome_of (state_of (run_declarator z d)) ≡ outcome.Declares h → is_empty d ≡ false
unfolding outcome_of
not_empty z (Declarator [] Absent no_suffixes) h e = absurd (cc)
not_empty z d h e = refl

pub record DeclaratorPut (q : State) (d : DeclaratorTree) (a b : Tree) : Type 0 where
  pub formed : FormedDeclarator d
  pub state : state_of (child a b) ≡ on_child (sort_of a) q (outcome.Declares (shape_of d))

pub declarator : (a : Tree) (q : State) (d : DeclaratorTree) → ((z : Sort) → is_declarator z ≡ true → Fits (run_declarator z d) → Declares d (run_declarator z d)) → state_of a ≡ q → is_declarator (opens (sort_of a) q) ≡ true →
    on_child (sort_of a) q outcome.Unfinished ≡ st.None → Fits (child a (run_declarator (opens (sort_of a) (state_of a)) d)) → DeclaratorPut q d a (run_declarator (opens (sort_of a) (state_of a)) d)
unfolding outcome_of
declarator a q d h j f u g = go i.whole
  where
    z : Sort
    z = opens (sort_of a) (state_of a)

    i : Declares d (run_declarator z d)
    i = h z (ap (λ y. is_declarator (opens (sort_of a) y)) j ∙ f) g.1

    go : (state_of (run_declarator z d) ≡ st.Fresh) ⊎ (outcome_of (state_of (run_declarator z d)) ≡ outcome.Declares (shape_of d)) → DeclaratorPut q d a (run_declarator z d)
    go (inl e) = absurd (no_none (sort_of a) (subst (λ y. stands (sort_of a) y ≡ true) (ap (λ y. on_child (sort_of a) y (outcome_of (state_of (run_declarator z d)))) j ∙ ap (λ y. on_child (sort_of a) q (outcome_of y)) e ∙ u) g.3))
    go (inr e) = record { formed = i.formed (not_empty z d (shape_of d) e); state = ap (λ y. on_child (sort_of a) y (outcome_of (state_of (run_declarator z d)))) j ∙ ap (on_child (sort_of a) q) e }

-- ---- in brackets, and parameters

pub pointers_sort : (r : Tree) (ps : List Pointer) → sort_of (pointers_onto r ps) ≡ sort_of r
pointers_sort r [] = refl
pointers_sort r (pointer.Plain p ∷ ps) = pointers_sort (mark_at r mark.Star p) ps
pointers_sort r (pointer.Const p c ∷ ps) = pointers_sort (mark_at (mark_at r mark.Star p) mark.Const c) ps

pub core_sort : (r : Tree) (c : CoreTree) → sort_of (core_onto r c) ≡ sort_of r
core_sort r Absent = refl
core_sort r (Named n p) = refl
core_sort r (Group p d) = refl

pub parameters_sort : (r : Tree) (ps : ParameterTrees) → sort_of (parameters_onto r ps) ≡ sort_of r
parameters_sort r no_parameters = refl
parameters_sort r (and_parameter no_parameters p) = refl
parameters_sort r (and_parameter (and_parameter ps q) p) = parameters_sort r (and_parameter ps q)

pub suffix_sort : (r : Tree) (x : SuffixTree) → sort_of (suffix_onto r x) ≡ sort_of r
suffix_sort r (Array p) = refl
suffix_sort r (ArrayOf p e) = refl
suffix_sort r (Parameters p ps) = parameters_sort (mark_at r mark.OpenParenthesis p) ps

pub suffixes_sort : (r : Tree) (xs : SuffixTrees) → sort_of (suffixes_onto r xs) ≡ sort_of r
suffixes_sort r no_suffixes = refl
suffixes_sort r (and_suffix xs x) = suffix_sort (suffixes_onto r xs) x ∙ suffixes_sort r xs

pub parameters_before : (r : Tree) (ps : ParameterTrees) → Fits (parameters_onto r ps) → Fits r
parameters_before r no_parameters f = f
parameters_before r (and_parameter no_parameters p) f = f.0
parameters_before r (and_parameter (and_parameter ps q) p) f = parameters_before r (and_parameter ps q) f.0.0

pub suffix_before : (r : Tree) (x : SuffixTree) → Fits (suffix_onto r x) → Fits r
suffix_before r (Array p) f = f.0.0
suffix_before r (ArrayOf p e) f = f.0.0.0
suffix_before r (Parameters p ps) f = (parameters_before (mark_at r mark.OpenParenthesis p) ps f.0).0

pub suffixes_before : (r : Tree) (xs : SuffixTrees) → Fits (suffixes_onto r xs) → Fits r
suffixes_before r no_suffixes f = f
suffixes_before r (and_suffix xs x) f = suffixes_before r xs (suffix_before (suffixes_onto r xs) x f)

pub pointers_before : (r : Tree) (ps : List Pointer) → Fits (pointers_onto r ps) → Fits r
pointers_before r [] f = f
pointers_before r (pointer.Plain p ∷ ps) f = (pointers_before (mark_at r mark.Star p) ps f).0
pointers_before r (pointer.Const p c ∷ ps) f = (pointers_before (mark_at (mark_at r mark.Star p) mark.Const c) ps f).0.0

pub grouped_declarator : (n : Naming) → is_declarator (grouped n) ≡ true
grouped_declarator naming.Named = refl
grouped_declarator n = refl

-- where the name is as it must be
pub named_state : (s : Sort) (b : Bool) (q : State) → stands s (cond b q st.None) ≡ true → (b ≡ true) × (cond b q st.None ≡ q)
named_state s true q h = (refl, refl)
named_state s false q h = absurd (no_none s h)
