-- How expressions, structs and enums begin.
use Rattle.std.proofs.Common.{◌≡◌, ◌≤◌, refl, sym, ◌∙◌, subst, ℕ, ℤ, Bool, true, false, cond, leb, Option, None, Some}
use Rattle.l2_syntax.specs.declared.place.Place.{Place}
use Rattle.l2_syntax.specs.declared.token.Scalar.{Scalar}
use Rattle.l2_syntax.specs.declared.token.Mark.TheVariants as mark
use Rattle.l2_syntax.specs.declared.token.TokenKind.{TokenKind}
use Rattle.l2_syntax.specs.declared.token.TokenKind.TheVariants as kind
use Rattle.l2_grammar.specs.declared.states.Items.TheVariants as items
use Rattle.l2_grammar.specs.declared.states.Sort.{Sort}
use Rattle.l2_grammar.specs.declared.states.Sort.TheVariants as sort
use Rattle.l2_grammar.specs.declared.states.Storage.{Storage}
use Rattle.l2_grammar.specs.declared.states.Storage.TheVariants as storage
use Rattle.l2_grammar.specs.declared.states.Named.TheVariants as named
use Rattle.l2_grammar.specs.declared.states.Right.TheVariants as right
use Rattle.l2_grammar.specs.declared.states.State.{State}
use Rattle.l2_grammar.specs.declared.states.State.TheVariants as st
use Rattle.l2_grammar.specs.declared.states.Outcome.{Outcome}
use Rattle.l2_grammar.specs.Marks.{is}
use Rattle.l2_grammar.specs.Networks.{on_token, cast_in}
use Rattle.l2_grammar.specs.Nesting.{values, takes_type, stands, on_child, opens}
use Rattle.l2_grammar.specs.Trees.{Tree, sort as sort_of, state as state_of, Fits}
use Rattle.l2_tree.specs.declared.operators.UnaryOperator.{UnaryOperator}
use Rattle.l2_tree.specs.declared.operators.UnaryOperator.TheVariants as unary
use Rattle.l2_tree.specs.declared.operators.UpdateOperator.{UpdateOperator}
use Rattle.l2_tree.specs.declared.operators.UpdateOperator.TheVariants as update
use Rattle.l2_tree.specs.declared.expression.Tag.{Tag}
use Rattle.l2_tree.specs.Spelling.{mark_at, tag_onto, unary_mark, update_mark}
use Rattle.l2_well_formed.proofs.Steps.{no_none, Whole, goes_on, operands}
use Rattle.l2_well_formed.proofs.Tokens.{Follows}
use Rattle.l2_well_formed.proofs.Counts.{then_state}

-- ---- expressions

pub name_whole : (s : Sort) (n : ℕ) → values s ≡ true → Whole (on_token s st.Fresh (kind.Word n)) 16
unfolding on_token is
name_whole sort.ForFirst n v = refl
name_whole (sort.Item items.Lone) n v = refl
name_whole (sort.Item b) n v = refl
name_whole (sort.Operand l) n v = refl
name_whole sort.Inside n v = refl
name_whole sort.SizeofOperand n v = refl
name_whole sort.Initialiser n v = refl
name_whole s n v = absurd (cc)

pub number_whole : (s : Sort) (z : ℤ) (y : Scalar) → values s ≡ true → Whole (on_token s st.Fresh (kind.Number z y)) 16
unfolding on_token is
number_whole sort.ForFirst z y v = refl
number_whole (sort.Item items.Lone) z y v = refl
number_whole (sort.Item b) z y v = refl
number_whole (sort.Operand l) z y v = refl
number_whole sort.Inside z y v = refl
number_whole sort.SizeofOperand z y v = refl
number_whole sort.Initialiser z y v = refl
number_whole s z y v = absurd (cc)

pub text_whole : (s : Sort) → values s ≡ true → Whole (on_token s st.Fresh kind.Text) 16
unfolding on_token is
text_whole sort.ForFirst v = refl
text_whole (sort.Item items.Lone) v = refl
text_whole (sort.Item b) v = refl
text_whole (sort.Operand l) v = refl
text_whole sort.Inside v = refl
text_whole sort.SizeofOperand v = refl
text_whole sort.Initialiser v = refl
text_whole s v = absurd (cc)

pub sizeof_state : (s : Sort) → values s ≡ true → on_token s st.Fresh (kind.Mark mark.Sizeof) ≡ st.Sizing
unfolding on_token is
sizeof_state sort.ForFirst v = refl
sizeof_state (sort.Item items.Lone) v = refl
sizeof_state (sort.Item b) v = refl
sizeof_state (sort.Operand l) v = refl
sizeof_state sort.Inside v = refl
sizeof_state sort.SizeofOperand v = refl
sizeof_state sort.Initialiser v = refl
sizeof_state s v = absurd (cc)

pub unary_state : (s : Sort) (o : UnaryOperator) → values s ≡ true → on_token s st.Fresh (kind.Mark (unary_mark o)) ≡ st.Right right.Prefix
unfolding on_token is
unary_state sort.ForFirst unary.Address v = refl
unary_state sort.ForFirst o v = refl
unary_state (sort.Item items.Lone) unary.Address v = refl
unary_state (sort.Item items.Lone) o v = refl
unary_state (sort.Item b) unary.Address v = refl
unary_state (sort.Item b) o v = refl
unary_state (sort.Operand l) unary.Address v = refl
unary_state (sort.Operand l) o v = refl
unary_state sort.Inside unary.Address v = refl
unary_state sort.Inside o v = refl
unary_state sort.SizeofOperand unary.Address v = refl
unary_state sort.SizeofOperand o v = refl
unary_state sort.Initialiser unary.Address v = refl
unary_state sort.Initialiser o v = refl
unary_state s o v = absurd (cc)

pub update_state : (s : Sort) (o : UpdateOperator) → values s ≡ true → on_token s st.Fresh (kind.Mark (update_mark o)) ≡ st.Right right.Update
unfolding on_token is
update_state sort.ForFirst update.Increment v = refl
update_state sort.ForFirst o v = refl
update_state (sort.Item items.Lone) update.Increment v = refl
update_state (sort.Item items.Lone) o v = refl
update_state (sort.Item b) update.Increment v = refl
update_state (sort.Item b) o v = refl
update_state (sort.Operand l) update.Increment v = refl
update_state (sort.Operand l) o v = refl
update_state sort.Inside update.Increment v = refl
update_state sort.Inside o v = refl
update_state sort.SizeofOperand update.Increment v = refl
update_state sort.SizeofOperand o v = refl
update_state sort.Initialiser update.Increment v = refl
update_state sort.Initialiser o v = refl
update_state s o v = absurd (cc)

pub after_have : (r : Tree) (l : ℕ) → state_of r ≡ st.Have l → Whole (state_of r) l
after_have r l e = subst (λ q. Whole q l) (sym e) refl

pub follow : (r : Tree) (n : ℕ) (k : TokenKind) (m : ℕ) (q : State) → Follows k m q → Whole (state_of r) n → stands (sort_of r) (on_token (sort_of r) (state_of r) k) ≡ true → (m ≤ n) × (on_token (sort_of r) (state_of r) k ≡ q)
follow r n k m q i w h = let x = goes_on r n k i.colon i.most w h in (subst (λ z. z ≤ n) i.wants x.0, x.1 ∙ i.state)

pub paren_operands : (s : Sort) → operands (opens s st.Paren) ≡ true
unfolding opens
paren_operands s = go (takes_type s)
  where
    go : (b : Bool) → operands (cond b sort.Inside (sort.Operand 1)) ≡ true
    go true = refl
    go false = refl

-- behind `( type )`, where an expression follows
pub cast_right : (s : Sort) (q : State) (o : Outcome) → q ≡ cast_in s → stands s (on_child s q o) ≡ true → q ≡ st.Right right.Cast
unfolding on_child
cast_right sort.SizeofOperand q o e h = absurd (no_none sort.SizeofOperand (subst (λ z. stands sort.SizeofOperand (on_child sort.SizeofOperand z o) ≡ true) e h))
cast_right s q o e h = e

-- ---- structs and enums

struct_open : (s : Sort) (q : State) → stands s (on_token s q (kind.Mark mark.Struct)) ≡ true → (w : Storage) × (on_token s q (kind.Mark mark.Struct) ≡ st.StructWord w)
unfolding on_token is
struct_open sort.Unit st.Fresh h = absurd (no_none sort.Unit h)
struct_open (sort.Item items.Lone) st.Fresh h = (storage.Automatic, refl)
struct_open (sort.Item b) st.Fresh h = (storage.Automatic, refl)
struct_open (sort.Declarator n) st.Fresh h = absurd (no_none (sort.Declarator n) h)
struct_open s st.Fresh h = (storage.Automatic, refl)
struct_open s (st.Have l) h = go (leb 0 l) h
  where
    go : (b : Bool) → stands s (cond b st.None st.None) ≡ true → (w : Storage) × (cond (leb 0 l) st.None st.None ≡ st.StructWord w)
    go true g = absurd (no_none s g)
    go false g = absurd (no_none s g)
struct_open s (st.BeforeType w) h = (w, refl)
struct_open s (st.Typed w (named.Number b l c)) h = absurd (no_none s h)
struct_open s (st.Typed w y) h = absurd (no_none s h)
struct_open s q h = absurd (no_none s h)

enum_open : (s : Sort) (q : State) → stands s (on_token s q (kind.Mark mark.Enum)) ≡ true → (w : Storage) × (on_token s q (kind.Mark mark.Enum) ≡ st.EnumWord w)
unfolding on_token is
enum_open sort.Unit st.Fresh h = absurd (no_none sort.Unit h)
enum_open (sort.Item items.Lone) st.Fresh h = (storage.Automatic, refl)
enum_open (sort.Item b) st.Fresh h = (storage.Automatic, refl)
enum_open (sort.Declarator n) st.Fresh h = absurd (no_none (sort.Declarator n) h)
enum_open s st.Fresh h = (storage.Automatic, refl)
enum_open s (st.Have l) h = go (leb 0 l) h
  where
    go : (b : Bool) → stands s (cond b st.None st.None) ≡ true → (w : Storage) × (cond (leb 0 l) st.None st.None ≡ st.EnumWord w)
    go true g = absurd (no_none s g)
    go false g = absurd (no_none s g)
enum_open s (st.BeforeType w) h = (w, refl)
enum_open s (st.Typed w (named.Number b l c)) h = absurd (no_none s h)
enum_open s (st.Typed w y) h = absurd (no_none s h)
enum_open s q h = absurd (no_none s h)

pub struct_base : (r : Tree) (p : Place) (t : Option Tag) (q : Place) → Fits (mark_at (tag_onto (mark_at r mark.Struct p) t) mark.OpenBrace q) → (w : Storage) × (state_of (mark_at (tag_onto (mark_at r mark.Struct p) t) mark.OpenBrace q) ≡ st.Members w)
unfolding on_token is
struct_base r p None q f = let x = struct_open (sort_of r) (state_of r) f.0.1 in (x.0, then_state (mark_at r mark.Struct p) (kind.Mark mark.OpenBrace) q (st.Members x.0) x.1 refl)
struct_base r p (Some t) q f = let x = struct_open (sort_of r) (state_of r) f.0.0.1 in
    (x.0, then_state (tag_onto (mark_at r mark.Struct p) (Some t)) (kind.Mark mark.OpenBrace) q (st.Members x.0) (then_state (mark_at r mark.Struct p) (kind.Word t.name) t.place (st.Typed x.0 named.StructTag) x.1 refl) refl)

pub enum_base : (r : Tree) (p : Place) (t : Option Tag) (q : Place) → Fits (mark_at (tag_onto (mark_at r mark.Enum p) t) mark.OpenBrace q) → (w : Storage) × (state_of (mark_at (tag_onto (mark_at r mark.Enum p) t) mark.OpenBrace q) ≡ st.Enumerators w)
unfolding on_token is
enum_base r p None q f = let x = enum_open (sort_of r) (state_of r) f.0.1 in (x.0, then_state (mark_at r mark.Enum p) (kind.Mark mark.OpenBrace) q (st.Enumerators x.0) x.1 refl)
enum_base r p (Some t) q f = let x = enum_open (sort_of r) (state_of r) f.0.0.1 in
    (x.0, then_state (tag_onto (mark_at r mark.Enum p) (Some t)) (kind.Mark mark.OpenBrace) q (st.Enumerators x.0) (then_state (mark_at r mark.Enum p) (kind.Word t.name) t.place (st.Typed x.0 named.EnumTag) x.1 refl) refl)
