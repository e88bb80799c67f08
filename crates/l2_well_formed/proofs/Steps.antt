-- How a construct goes on behind an expression, and with one in it.
use Rattle.std.proofs.Common.{◌≡◌, ◌≤◌, refl, ap, sym, ◌∙◌, subst, ℕ, Bool, true, false, cond, not, ◌&&◌, leb}
use Rattle.std.proofs.lemmas.Bool.{leb-true}
use Rattle.l2_syntax.specs.declared.place.Place.{Place}
use Rattle.l2_syntax.specs.declared.token.Mark.TheVariants as mark
use Rattle.l2_syntax.specs.declared.token.TokenKind.{TokenKind}
use Rattle.l2_grammar.specs.declared.states.Sort.{Sort}
use Rattle.l2_grammar.specs.declared.states.State.{State}
use Rattle.l2_grammar.specs.declared.states.State.TheVariants as st
use Rattle.l2_grammar.specs.declared.states.Outcome.TheVariants as outcome
use Rattle.l2_grammar.specs.Marks.{is}
use Rattle.l2_grammar.specs.Networks.{on_token, continued, wants_left}
use Rattle.l2_grammar.specs.Nesting.{values, value_at, least, is_item, stands, on_child, opens, outcome as outcome_of}
use Rattle.l2_grammar.specs.Trees.{Tree, begin, token, child, sort as sort_of, state as state_of, Fits}
use Rattle.l2_grammar.proofs.Tokens.{none_stands}
use Rattle.l2_grammar.proofs.Bools.{no, both}
use Rattle.l2_tree.specs.Trees.{ExprTree}
use Rattle.l2_tree.specs.Spelling.{behind, run_expr}
use Rattle.l2_well_formed.specs.Expressions.{level}
use Rattle.l2_well_formed.specs.WellFormed.{FormedExpr}

pub no_none : (s : Sort) → stands s st.None ≡ true → ⊥
no_none s h = no h (none_stands s)

-- behind a token, where the state before it is known
pub then_state : (r : Tree) {q : State} (k : TokenKind) (p : Place) (x : State) → state_of r ≡ q → on_token (sort_of r) q k ≡ x → state_of (behind r k p) ≡ x
then_state r k p x e f = ap (λ z. on_token (sort_of r) z k) e ∙ f

-- a whole expression of this level
abbrev pub Whole : State → ℕ → Type 0
Whole (st.Have l) n = l ≡ n
Whole st.Word n = n ≡ 16
Whole q n = ⊥

-- the construct's last part may stand
pub last_stands : (r : Tree) (n : ℕ) → Fits r → Whole (state_of r) n → stands (sort_of r) (state_of r) ≡ true
last_stands (begin s) n f i = absurd i
last_stands (token a t) n f i = f.1
last_stands (child a b) n f i = f.3

-- ---- a token behind an operand

goes_on_have : (s : Sort) (l n : ℕ) (k : TokenKind) → l ≡ n → stands s (on_token s (st.Have l) k) ≡ true → (wants_left k ≤ n) × (on_token s (st.Have l) k ≡ continued k)
unfolding on_token
goes_on_have s l n k e h = go (leb (wants_left k) l) refl h
  where
    go : (b : Bool) → leb (wants_left k) l ≡ b → stands s (cond b (continued k) st.None) ≡ true → (wants_left k ≤ n) × (cond (leb (wants_left k) l) (continued k) st.None ≡ continued k)
    go true f g = (subst (λ z. wants_left k ≤ z) e (leb-true (wants_left k) l f), ap (λ b. cond b (continued k) st.None) f)
    go false f g = absurd (no_none s g)

goes_on_word : (s : Sort) (n : ℕ) (k : TokenKind) → n ≡ 16 → is mark.Colon k ≡ false → leb (wants_left k) 16 ≡ true → (wants_left k ≤ n) × (on_token s st.Word k ≡ continued k)
unfolding on_token
goes_on_word s n k e f g = (subst (λ z. wants_left k ≤ z) (sym e) (leb-true (wants_left k) 16 g), ap (λ b. cond b st.Body (continued k)) f)

-- the operand holds together as the token wants, and the state is the token's
pub goes_on : (r : Tree) (n : ℕ) (k : TokenKind) → is mark.Colon k ≡ false → leb (wants_left k) 16 ≡ true → Whole (state_of r) n → stands (sort_of r) (on_token (sort_of r) (state_of r) k) ≡ true →
    (wants_left k ≤ n) × (on_token (sort_of r) (state_of r) k ≡ continued k)
goes_on r n k f g i h = go (state_of r) i h
  where
    go : (q : State) → Whole q n → stands (sort_of r) (on_token (sort_of r) q k) ≡ true → (wants_left k ≤ n) × (on_token (sort_of r) q k ≡ continued k)
    go (st.Have l) j e = goes_on_have (sort_of r) l n k j e
    go st.Word j e = goes_on_word (sort_of r) n k j f g
    go q j e = absurd j

-- ---- an expression in a construct

-- where an expression stands that is no statement
abbrev pub operands : Sort → Bool
operands s = values s && not (is_item s)

pub record Done (e : ExprTree) (r : Tree) : Type 0 where
  pub formed : FormedExpr e
  pub whole : Whole (state_of r) (level e)

pub record Put (q : State) (e : ExprTree) (a : Tree) (b : Tree) : Type 0 where
  pub least : least (opens (sort_of a) q) ≤ level e
  pub formed : FormedExpr e
  pub state : state_of (child a b) ≡ on_child (sort_of a) q outcome.Value

least_of : (s : Sort) (l n : ℕ) → l ≡ n → stands s (st.Have l) ≡ true → least s ≤ n
unfolding stands
least_of s l n e h = subst (λ z. least s ≤ z) e (leb-true (least s) l (both (values s) (leb (least s) l) (both (value_at l s) (leb l 16) h).0).1)

no_word : (s : Sort) → operands s ≡ true → stands s st.Word ≡ true → ⊥
unfolding stands
no_word s f h = go (is_item s) h (both (values s) (not (is_item s)) f).1
  where
    go : (b : Bool) → b ≡ true → not b ≡ true → ⊥
    go true e g = absurd (cc)
    go false e g = absurd (cc)

value_of : (s : Sort) (q : State) (n : ℕ) → operands s ≡ true → stands s q ≡ true → Whole q n → (least s ≤ n) × (outcome_of q ≡ outcome.Value)
unfolding outcome_of
value_of s (st.Have l) n f h i = (least_of s l n i h, refl)
value_of s st.Word n f h i = absurd (no_word s f h)
value_of s q n f h i = absurd i

pub put : (a : Tree) (q : State) (e : ExprTree) → Done e (run_expr (opens (sort_of a) (state_of a)) e) → state_of a ≡ q → operands (opens (sort_of a) q) ≡ true → Fits (child a (run_expr (opens (sort_of a) (state_of a)) e)) →
    Put q e a (run_expr (opens (sort_of a) (state_of a)) e)
put a q e i j f g =
    let z = opens (sort_of a) (state_of a) in let r = run_expr z e in let k : operands z ≡ true = ap (λ y. operands (opens (sort_of a) y)) j ∙ f in
    let v = value_of (sort_of r) (state_of r) (level e) (ap operands (sym g.2) ∙ k) (last_stands r (level e) g.1 i.whole) i.whole in
    record { least = subst (λ y. least y ≤ level e) (sym g.2 ∙ ap (opens (sort_of a)) j) v.0; formed = i.formed; state = ap (λ y. on_child (sort_of a) y (outcome_of (state_of r))) j ∙ ap (on_child (sort_of a) q) v.1 }

pub operand : (a : Tree) (q : State) (e : ExprTree) → ((z : Sort) → values z ≡ true → Fits (run_expr z e) → Done e (run_expr z e)) → state_of a ≡ q → operands (opens (sort_of a) q) ≡ true →
    Fits (child a (run_expr (opens (sort_of a) (state_of a)) e)) → Put q e a (run_expr (opens (sort_of a) (state_of a)) e)
operand a q e h j f g =
    let z = opens (sort_of a) (state_of a) in
    put a q e (h z (both (values z) (not (is_item z)) (ap (λ y. operands (opens (sort_of a) y)) j ∙ f)).0 g.1) j f g
