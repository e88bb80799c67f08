-- The state behind specifiers says which words they are.
use Rattle.std.proofs.Common.{◌≡◌, ◌⊎◌, inl, inr, refl, ◌∙◌, ap, sym, subst, ℕ, Bool, true, false, cond, leb, ◌&&◌, ◌||◌, None, Some}
use Rattle.l2_syntax.specs.declared.place.Place.{Place}
use Rattle.l2_syntax.specs.declared.token.Mark.{Mark}
use Rattle.l2_syntax.specs.declared.token.Mark.TheVariants as mark
use Rattle.l2_syntax.specs.declared.token.TokenKind.{TokenKind}
use Rattle.l2_syntax.specs.declared.token.TokenKind.TheVariants as kind
use Rattle.l2_grammar.specs.declared.states.Items.{Items}
use Rattle.l2_grammar.specs.declared.states.Items.TheVariants as items
use Rattle.l2_grammar.specs.declared.states.Sort.{Sort}
use Rattle.l2_grammar.specs.declared.states.Sort.TheVariants as sort
use Rattle.l2_grammar.specs.declared.states.Storage.{Storage}
use Rattle.l2_grammar.specs.declared.states.Storage.TheVariants as storage
use Rattle.l2_grammar.specs.declared.states.Length.{Length}
use Rattle.l2_grammar.specs.declared.states.Length.TheVariants as length
use Rattle.l2_grammar.specs.declared.states.Core.{Core}
use Rattle.l2_grammar.specs.declared.states.Core.TheVariants as core
use Rattle.l2_grammar.specs.declared.states.Named.{Named}
use Rattle.l2_grammar.specs.declared.states.Named.TheVariants as named
use Rattle.l2_grammar.specs.declared.states.State.{State}
use Rattle.l2_grammar.specs.declared.states.State.TheVariants as st
use Rattle.l2_grammar.specs.declared.states.Outcome.{Outcome}
use Rattle.l2_grammar.specs.declared.states.Outcome.TheVariants as outcome
use Rattle.l2_grammar.specs.Marks.{is}
use Rattle.l2_grammar.specs.Networks.{on_token, specifier, after_type, begun, begun_item, begun_item_in, begun_external, begun_declarator, begun_enclosed, on_end, begun_as}
use Rattle.l2_grammar.specs.Nesting.{stands, on_child, opens, behind_declaration, behind_value, outcome as outcome_of}
use Rattle.l2_grammar.specs.Trees.{Tree, begin, sort as sort_of, state as state_of, Fits}
use Rattle.l2_grammar.proofs.Tokens.{none_stands}
use Rattle.l2_grammar.proofs.Bools.{no}
use Rattle.l2_tree.specs.declared.operators.SpecifierWord.{SpecifierWord}
use Rattle.l2_tree.specs.declared.operators.SpecifierWord.TheVariants as word
use Rattle.l2_tree.specs.Trees.{SpecifierTree, Word, TypeName, Struct, StructBody, Enum, EnumBody, SpecifierTrees, first_specifier, and_specifier, DeclarationTrees, no_declarations, and_declaration, EnumeratorTree, Plain, Valued, EnumeratorTrees, first_enumerator, and_enumerator}
use Rattle.l2_tree.specs.Spelling.{nowhere, behind, run_expr, declaration_onto, word_mark, tag_onto, mark_at, closed, comma_if, members_onto, enumerator_onto, enumerators_onto, specifier_onto, specifiers_onto}
use Rattle.l2_tree.specs.Build.{is_specifier_mark, is_specifier}
use Rattle.l2_tree_laws.specs.Specifiers.{Tally, nothing, with_word, with_specifier, tally, is_other, is_number, names_type}

pub no_none : (s : Sort) → stands s st.None ≡ true → ⊥
no_none s h = no h (none_stands s)

-- ---- what states say

abbrev pub signs_of : Bool → ℕ
signs_of true = 1
signs_of b = 0

abbrev pub stored_words : Storage → ℕ
stored_words storage.Stored = 1
stored_words w = 0

abbrev pub shorts_of : Length → ℕ
shorts_of length.Short = 1
shorts_of l = 0

abbrev pub longs_of : Length → ℕ
longs_of length.Long = 1
longs_of length.LongLong = 2
longs_of l = 0

abbrev pub ints_of : Core → ℕ
ints_of core.Int = 1
ints_of c = 0

abbrev pub chars_of : Core → ℕ
chars_of core.Char = 1
chars_of c = 0

abbrev pub storage_only : Storage → Tally
storage_only w = record { storage = stored_words w; signs = 0; shorts = 0; longs = 0; ints = 0; chars = 0; others = 0 }

abbrev pub type_tally : Storage → Named → Tally
type_tally w (named.Number b l c) = record { storage = stored_words w; signs = signs_of b; shorts = shorts_of l; longs = longs_of l; ints = ints_of c; chars = chars_of c; others = 0 }
type_tally w y = record { storage = stored_words w; signs = 0; shorts = 0; longs = 0; ints = 0; chars = 0; others = 1 }

-- words that one number may have
abbrev pub possible : Named → Bool
possible (named.Number true length.NoLength core.NoCore) = true
possible (named.Number false length.NoLength core.NoCore) = false
possible (named.Number b length.NoLength c) = true
possible (named.Number b l core.Char) = false
possible y = true

abbrev pub Said : State → Tally → Type 0
Said (st.BeforeType w) t = t ≡ storage_only w
Said (st.Typed w y) t = (t ≡ type_tally w y) × (possible y ≡ true)
Said q t = ⊥

type_is_one : (w : Storage) (y : Named) → possible y ≡ true → (is_other (type_tally w y) || is_number (type_tally w y)) ≡ true
type_is_one w (named.Number true length.NoLength core.NoCore) f = refl
type_is_one w (named.Number true length.NoLength core.Int) f = refl
type_is_one w (named.Number true length.NoLength core.Char) f = refl
type_is_one w (named.Number true length.Short core.NoCore) f = refl
type_is_one w (named.Number true length.Short core.Int) f = refl
type_is_one w (named.Number true length.Short core.Char) f = absurd (cc)
type_is_one w (named.Number true length.Long core.NoCore) f = refl
type_is_one w (named.Number true length.Long core.Int) f = refl
type_is_one w (named.Number true length.Long core.Char) f = absurd (cc)
type_is_one w (named.Number true length.LongLong core.NoCore) f = refl
type_is_one w (named.Number true length.LongLong core.Int) f = refl
type_is_one w (named.Number true length.LongLong core.Char) f = absurd (cc)
type_is_one w (named.Number false length.NoLength core.NoCore) f = absurd (cc)
type_is_one w (named.Number false length.NoLength core.Int) f = refl
type_is_one w (named.Number false length.NoLength core.Char) f = refl
type_is_one w (named.Number false length.Short core.NoCore) f = refl
type_is_one w (named.Number false length.Short core.Int) f = refl
type_is_one w (named.Number false length.Short core.Char) f = absurd (cc)
type_is_one w (named.Number false length.Long core.NoCore) f = refl
type_is_one w (named.Number false length.Long core.Int) f = refl
type_is_one w (named.Number false length.Long core.Char) f = absurd (cc)
type_is_one w (named.Number false length.LongLong core.NoCore) f = refl
type_is_one w (named.Number false length.LongLong core.Int) f = refl
type_is_one w (named.Number false length.LongLong core.Char) f = absurd (cc)
type_is_one w y f = refl

one_storage : (w : Storage) → leb (stored_words w) 1 ≡ true
one_storage storage.Automatic = refl
one_storage w = refl

pub names_one : (w : Storage) (y : Named) (t : Tally) → t ≡ type_tally w y → possible y ≡ true → names_type t ≡ true
names_one w y t e f = ap names_type e ∙ ap (λ b. b && (is_other (type_tally w y) || is_number (type_tally w y))) (storage_same y) ∙ ap (λ b. leb (stored_words w) 1 && b) (type_is_one w y f) ∙ both (one_storage w)
  where
    storage_same : (z : Named) → leb (type_tally w z).storage 1 ≡ leb (stored_words w) 1
    storage_same (named.Number b l c) = refl
    storage_same z = refl

    both : {b : Bool} → b ≡ true → (b && true) ≡ true
    both i = ap (λ b. b && true) i

-- ---- words

word_before : (s : Sort) (w : Storage) (v : SpecifierWord) (t : Tally) → t ≡ storage_only w → stands s (specifier w (kind.Mark (word_mark v))) ≡ true → Said (specifier w (kind.Mark (word_mark v))) (with_word v t)
word_before s storage.Automatic word.Static t e h = ap (with_word word.Static) e
word_before s w word.Static t e h = absurd (no_none s h)
word_before s storage.Automatic word.Extern t e h = ap (with_word word.Extern) e
word_before s w word.Extern t e h = absurd (no_none s h)
word_before s w word.Const t e h = ap (with_word word.Const) e
word_before s w word.Signed t e h = (ap (with_word word.Signed) e, refl)
word_before s w word.Unsigned t e h = (ap (with_word word.Unsigned) e, refl)
word_before s w word.Bool t e h = (ap (with_word word.Bool) e, refl)
word_before s w word.Char t e h = (ap (with_word word.Char) e, refl)
word_before s w word.Short t e h = (ap (with_word word.Short) e, refl)
word_before s w word.Int t e h = (ap (with_word word.Int) e, refl)
word_before s w word.Long t e h = (ap (with_word word.Long) e, refl)
word_before s w word.Void t e h = (ap (with_word word.Void) e, refl)

word_typed : (s : Sort) (w : Storage) (y : Named) (v : SpecifierWord) (t : Tally) → t ≡ type_tally w y → possible y ≡ true → stands s (after_type s w y (kind.Mark (word_mark v))) ≡ true → Said (after_type s w y (kind.Mark (word_mark v))) (with_word v t)
unfolding is
word_typed s storage.Automatic (named.Number b l c) word.Static t e f h = (ap (with_word word.Static) e, f)
word_typed s storage.Automatic named.Nothing word.Static t e f h = (ap (with_word word.Static) e, f)
word_typed s storage.Automatic named.Other word.Static t e f h = (ap (with_word word.Static) e, f)
word_typed s storage.Automatic named.StructTag word.Static t e f h = (ap (with_word word.Static) e, f)
word_typed s storage.Automatic named.EnumTag word.Static t e f h = (ap (with_word word.Static) e, f)
word_typed s storage.Automatic named.Tagged word.Static t e f h = (ap (with_word word.Static) e, f)
word_typed s storage.Automatic (named.Number b l c) word.Extern t e f h = (ap (with_word word.Extern) e, f)
word_typed s storage.Automatic named.Nothing word.Extern t e f h = (ap (with_word word.Extern) e, f)
word_typed s storage.Automatic named.Other word.Extern t e f h = (ap (with_word word.Extern) e, f)
word_typed s storage.Automatic named.StructTag word.Extern t e f h = (ap (with_word word.Extern) e, f)
word_typed s storage.Automatic named.EnumTag word.Extern t e f h = (ap (with_word word.Extern) e, f)
word_typed s storage.Automatic named.Tagged word.Extern t e f h = (ap (with_word word.Extern) e, f)
word_typed s w (named.Number b l c) word.Const t e f h = (ap (with_word word.Const) e, f)
word_typed s w named.Nothing word.Const t e f h = (ap (with_word word.Const) e, f)
word_typed s w named.Other word.Const t e f h = (ap (with_word word.Const) e, f)
word_typed s w named.StructTag word.Const t e f h = (ap (with_word word.Const) e, f)
word_typed s w named.EnumTag word.Const t e f h = (ap (with_word word.Const) e, f)
word_typed s w named.Tagged word.Const t e f h = (ap (with_word word.Const) e, f)
word_typed s w (named.Number false length.NoLength core.Int) word.Signed t e f h = (ap (with_word word.Signed) e, refl)
word_typed s w (named.Number false length.NoLength core.Char) word.Signed t e f h = (ap (with_word word.Signed) e, refl)
word_typed s w (named.Number false length.Short core.NoCore) word.Signed t e f h = (ap (with_word word.Signed) e, refl)
word_typed s w (named.Number false length.Short core.Int) word.Signed t e f h = (ap (with_word word.Signed) e, refl)
word_typed s w (named.Number false length.Long core.NoCore) word.Signed t e f h = (ap (with_word word.Signed) e, refl)
word_typed s w (named.Number false length.Long core.Int) word.Signed t e f h = (ap (with_word word.Signed) e, refl)
word_typed s w (named.Number false length.LongLong core.NoCore) word.Signed t e f h = (ap (with_word word.Signed) e, refl)
word_typed s w (named.Number false length.LongLong core.Int) word.Signed t e f h = (ap (with_word word.Signed) e, refl)
word_typed s w (named.Number false length.NoLength core.Int) word.Unsigned t e f h = (ap (with_word word.Unsigned) e, refl)
word_typed s w (named.Number false length.NoLength core.Char) word.Unsigned t e f h = (ap (with_word word.Unsigned) e, refl)
word_typed s w (named.Number false length.Short core.NoCore) word.Unsigned t e f h = (ap (with_word word.Unsigned) e, refl)
word_typed s w (named.Number false length.Short core.Int) word.Unsigned t e f h = (ap (with_word word.Unsigned) e, refl)
word_typed s w (named.Number false length.Long core.NoCore) word.Unsigned t e f h = (ap (with_word word.Unsigned) e, refl)
word_typed s w (named.Number false length.Long core.Int) word.Unsigned t e f h = (ap (with_word word.Unsigned) e, refl)
word_typed s w (named.Number false length.LongLong core.NoCore) word.Unsigned t e f h = (ap (with_word word.Unsigned) e, refl)
word_typed s w (named.Number false length.LongLong core.Int) word.Unsigned t e f h = (ap (with_word word.Unsigned) e, refl)
word_typed s w (named.Number true length.NoLength core.NoCore) word.Char t e f h = (ap (with_word word.Char) e, refl)
word_typed s w (named.Number true length.NoLength core.NoCore) word.Short t e f h = (ap (with_word word.Short) e, refl)
word_typed s w (named.Number true length.NoLength core.Int) word.Short t e f h = (ap (with_word word.Short) e, refl)
word_typed s w (named.Number false length.NoLength core.Int) word.Short t e f h = (ap (with_word word.Short) e, refl)
word_typed s w (named.Number true length.NoLength core.NoCore) word.Int t e f h = (ap (with_word word.Int) e, refl)
word_typed s w (named.Number true length.Short core.NoCore) word.Int t e f h = (ap (with_word word.Int) e, refl)
word_typed s w (named.Number true length.Long core.NoCore) word.Int t e f h = (ap (with_word word.Int) e, refl)
word_typed s w (named.Number true length.LongLong core.NoCore) word.Int t e f h = (ap (with_word word.Int) e, refl)
word_typed s w (named.Number false length.Short core.NoCore) word.Int t e f h = (ap (with_word word.Int) e, refl)
word_typed s w (named.Number false length.Long core.NoCore) word.Int t e f h = (ap (with_word word.Int) e, refl)
word_typed s w (named.Number false length.LongLong core.NoCore) word.Int t e f h = (ap (with_word word.Int) e, refl)
word_typed s w (named.Number true length.NoLength core.NoCore) word.Long t e f h = (ap (with_word word.Long) e, refl)
word_typed s w (named.Number true length.NoLength core.Int) word.Long t e f h = (ap (with_word word.Long) e, refl)
word_typed s w (named.Number true length.Long core.NoCore) word.Long t e f h = (ap (with_word word.Long) e, refl)
word_typed s w (named.Number true length.Long core.Int) word.Long t e f h = (ap (with_word word.Long) e, refl)
word_typed s w (named.Number false length.NoLength core.Int) word.Long t e f h = (ap (with_word word.Long) e, refl)
word_typed s w (named.Number false length.Long core.NoCore) word.Long t e f h = (ap (with_word word.Long) e, refl)
word_typed s w (named.Number false length.Long core.Int) word.Long t e f h = (ap (with_word word.Long) e, refl)
word_typed s w (named.Number false length.NoLength core.NoCore) v t e f h = absurd (cc)
word_typed s w (named.Number true length.Short core.Char) v t e f h = absurd (cc)
word_typed s w (named.Number false length.Short core.Char) v t e f h = absurd (cc)
word_typed s w (named.Number true length.Long core.Char) v t e f h = absurd (cc)
word_typed s w (named.Number false length.Long core.Char) v t e f h = absurd (cc)
word_typed s w (named.Number true length.LongLong core.Char) v t e f h = absurd (cc)
word_typed s w (named.Number false length.LongLong core.Char) v t e f h = absurd (cc)
word_typed s w y v t e f h = absurd (no_none s h)

word_said : (s : Sort) (q : State) (v : SpecifierWord) (t : Tally) → Said q t → stands s (on_token s q (kind.Mark (word_mark v))) ≡ true → Said (on_token s q (kind.Mark (word_mark v))) (with_word v t)
unfolding on_token
word_said s (st.BeforeType w) v t i h = word_before s w v t i h
word_said s (st.Typed w y) v t i h = word_typed s w y v t i.0 i.1 h
word_said s q v t i h = absurd i

name_said : (s : Sort) (q : State) (n : ℕ) (p : Place) (t : Tally) → Said q t → stands s (on_token s q (kind.TypeName n)) ≡ true → Said (on_token s q (kind.TypeName n)) (with_specifier (TypeName n p) t)
unfolding on_token is
name_said s (st.BeforeType w) n p t i h = (ap (with_specifier (TypeName n p)) i, refl)
name_said s (st.Typed w (named.Number b l c)) n p t i h = absurd (no_none s h)
name_said s (st.Typed w y) n p t i h = absurd (no_none s h)
name_said s q n p t i h = absurd i

-- ---- structs and enums

-- behind the word of a tag, where words of storage alone stand before it
abbrev Tagging : (Storage → State) → Sort → State → Mark → Tally → Type 0
Tagging f s q m t = (w : Storage) × (on_token s q (kind.Mark m) ≡ f w) × (t ≡ storage_only w)

struct_state : (s : Sort) (q : State) (t : Tally) → Said q t → stands s (on_token s q (kind.Mark mark.Struct)) ≡ true → Tagging (λ w. st.StructWord w) s q mark.Struct t
unfolding on_token is
struct_state s (st.BeforeType w) t i h = (w, refl, i)
struct_state s (st.Typed w (named.Number b l c)) t i h = absurd (no_none s h)
struct_state s (st.Typed w y) t i h = absurd (no_none s h)
struct_state s q t i h = absurd i

enum_state : (s : Sort) (q : State) (t : Tally) → Said q t → stands s (on_token s q (kind.Mark mark.Enum)) ≡ true → Tagging (λ w. st.EnumWord w) s q mark.Enum t
unfolding on_token is
enum_state s (st.BeforeType w) t i h = (w, refl, i)
enum_state s (st.Typed w (named.Number b l c)) t i h = absurd (no_none s h)
enum_state s (st.Typed w y) t i h = absurd (no_none s h)
enum_state s q t i h = absurd i

-- behind a token, where the state is known
pub then_state : (r : Tree) {q : State} (k : TokenKind) (p : Place) (x : State) → state_of r ≡ q → on_token (sort_of r) q k ≡ x → state_of (behind r k p) ≡ x
then_state r k p x e f = ap (λ z. on_token (sort_of r) z k) e ∙ f

member_state : (s : Sort) (w : Storage) (o : Outcome) → stands s (behind_declaration (st.Members w) o) ≡ true → behind_declaration (st.Members w) o ≡ st.Members w
member_state s w outcome.Declaration h = refl
member_state s w o h = absurd (no_none s h)

pub members_state : (r : Tree) (w : Storage) (ds : DeclarationTrees) → state_of r ≡ st.Members w → Fits (members_onto r ds) → state_of (members_onto r ds) ≡ st.Members w
unfolding on_child
members_state r w no_declarations e f = e
members_state r w (and_declaration ds d) e f =
    let i = members_state r w ds e f.0 in let o = outcome_of (state_of (declaration_onto (begin (opens (sort_of (members_onto r ds)) (state_of (members_onto r ds)))) d)) in
    ap (λ z. on_child (sort_of (members_onto r ds)) z o) i
    ∙ member_state (sort_of (members_onto r ds)) w o (subst (λ z. stands (sort_of (members_onto r ds)) (on_child (sort_of (members_onto r ds)) z o) ≡ true) i f.3)

value_state : (s : Sort) (w : Storage) (o : Outcome) → stands s (behind_value (st.EnumValueClose w) o) ≡ true → behind_value (st.EnumValueClose w) o ≡ st.EnumValueClose w
value_state s w outcome.Value h = refl
value_state s w o h = absurd (no_none s h)

-- where an enumerator comes, and behind one
abbrev pub AtName : State → Storage → Type 0
AtName q w = (q ≡ st.Enumerators w) ⊎ (q ≡ st.EnumComma w)

abbrev pub Behind : State → Storage → Type 0
Behind q w = (q ≡ st.Enumerator w) ⊎ (q ≡ st.EnumValueClose w)

pub named_state : (r : Tree) (w : Storage) (n : ℕ) (p : Place) → AtName (state_of r) w → state_of (behind r (kind.Word n) p) ≡ st.Enumerator w
unfolding on_token is
named_state r w n p (inl e) = then_state r (kind.Word n) p (st.Enumerator w) e refl
named_state r w n p (inr e) = then_state r (kind.Word n) p (st.Enumerator w) e refl

pub enumerator_state : (r : Tree) (w : Storage) (e : EnumeratorTree) → AtName (state_of r) w → Fits (enumerator_onto r e) → Behind (state_of (enumerator_onto r e)) w
unfolding on_token on_child is
enumerator_state r w (Plain n p) i f = inl (named_state r w n p i)
enumerator_state r w (Valued n p q e) i f =
    let a = mark_at (behind r (kind.Word n) p) mark.Equal q in
    let j : state_of a ≡ st.EnumValue w = then_state (behind r (kind.Word n) p) (kind.Mark mark.Equal) q (st.EnumValue w) (named_state r w n p i) refl in
    let o = outcome_of (state_of (run_expr (opens (sort_of a) (state_of a)) e)) in
    inr (ap (λ z. on_child (sort_of a) z o) j ∙ value_state (sort_of a) w o (subst (λ z. stands (sort_of a) (on_child (sort_of a) z o) ≡ true) j f.3))

pub comma_state : (r : Tree) (w : Storage) → Behind (state_of r) w → state_of (closed r mark.Comma) ≡ st.EnumComma w
unfolding on_token is
comma_state r w (inl e) = then_state r (kind.Mark mark.Comma) nowhere (st.EnumComma w) e refl
comma_state r w (inr e) = then_state r (kind.Mark mark.Comma) nowhere (st.EnumComma w) e refl

pub enumerator_before : (r : Tree) (x : EnumeratorTree) → Fits (enumerator_onto r x) → Fits r
enumerator_before r (Plain n p) f = f.0
enumerator_before r (Valued n p q v) f = f.0.0.0

pub enumerators_state : (r : Tree) (w : Storage) (es : EnumeratorTrees) → state_of r ≡ st.Enumerators w → Fits (enumerators_onto r es) → Behind (state_of (enumerators_onto r es)) w
enumerators_state r w (first_enumerator e) i f = enumerator_state r w e (inl i) f
enumerators_state r w (and_enumerator es e) i f = enumerator_state (closed (enumerators_onto r es) mark.Comma) w e (inr (comma_state (enumerators_onto r es) w (enumerators_state r w es i (enumerator_before (closed (enumerators_onto r es) mark.Comma) e f).0))) f

pub brace_state : (r : Tree) (w : Storage) (b : Bool) → Behind (state_of r) w → state_of (closed (comma_if b r) mark.CloseBrace) ≡ st.Typed w named.Tagged
unfolding on_token is
brace_state r w true i = then_state (closed r mark.Comma) (kind.Mark mark.CloseBrace) nowhere (st.Typed w named.Tagged) (comma_state r w i) refl
brace_state r w false (inl e) = then_state r (kind.Mark mark.CloseBrace) nowhere (st.Typed w named.Tagged) e refl
brace_state r w false (inr e) = then_state r (kind.Mark mark.CloseBrace) nowhere (st.Typed w named.Tagged) e refl

-- ---- specifiers

-- a specifier's first token does to a construct what it does in this state
pub record Ready (r : Tree) (t : Tally) : Type 0 where
  pub state : State
  pub said : Said state t
  pub same : (k : TokenKind) → is_specifier k ≡ true → stands (sort_of r) (on_token (sort_of r) (state_of r) k) ≡ true → on_token (sort_of r) (state_of r) k ≡ on_token (sort_of r) state k

said_ready : (r : Tree) (t : Tally) → Said (state_of r) t → Ready r t
said_ready r t i = record { state = state_of r; said = i; same = λ k e h. refl }

tagged_said : (r : Tree) (w : Storage) (y : Named) (x : SpecifierTree) (t : Tally) → state_of r ≡ st.Typed w y → type_tally w y ≡ with_specifier x (storage_only w) → possible y ≡ true → t ≡ storage_only w → Said (state_of r) (with_specifier x t)
tagged_said r w y x t e g f i = subst (λ z. Said z (with_specifier x t)) (sym e) (ap (with_specifier x) i ∙ sym g, f)

word_is : (v : SpecifierWord) → is_specifier (kind.Mark (word_mark v)) ≡ true
word_is word.Static = refl
word_is v = refl

-- behind `struct`, with its storage
pub struct_begins : (r : Tree) (p : Place) (t : Tally) → Ready r t → stands (sort_of r) (on_token (sort_of r) (state_of r) (kind.Mark mark.Struct)) ≡ true → (w : Storage) × (state_of (mark_at r mark.Struct p) ≡ st.StructWord w) × (t ≡ storage_only w)
struct_begins r p t i h =
    let e = i.same (kind.Mark mark.Struct) refl h in let x = struct_state (sort_of r) i.state t i.said (subst (λ z. stands (sort_of r) z ≡ true) e h) in
    (x.0, e ∙ x.1, x.2)

pub enum_begins : (r : Tree) (p : Place) (t : Tally) → Ready r t → stands (sort_of r) (on_token (sort_of r) (state_of r) (kind.Mark mark.Enum)) ≡ true → (w : Storage) × (state_of (mark_at r mark.Enum p) ≡ st.EnumWord w) × (t ≡ storage_only w)
enum_begins r p t i h =
    let e = i.same (kind.Mark mark.Enum) refl h in let x = enum_state (sort_of r) i.state t i.said (subst (λ z. stands (sort_of r) z ≡ true) e h) in
    (x.0, e ∙ x.1, x.2)

-- in front of a construct's last members or enumerators
pub members_before : (r : Tree) (ds : DeclarationTrees) → Fits (members_onto r ds) → Fits r
members_before r no_declarations f = f
members_before r (and_declaration ds d) f = members_before r ds f.0

pub enumerators_before : (r : Tree) (es : EnumeratorTrees) → Fits (enumerators_onto r es) → Fits r
enumerators_before r (first_enumerator e) f = enumerator_before r e f
enumerators_before r (and_enumerator es e) f = enumerators_before r es (enumerator_before (closed (enumerators_onto r es) mark.Comma) e f).0

pub comma_before : (r : Tree) (b : Bool) → Fits (comma_if b r) → Fits r
comma_before r true f = f.0
comma_before r false f = f

specifier_said : (x : SpecifierTree) (r : Tree) (t : Tally) → Ready r t → Fits (specifier_onto r x) → Said (state_of (specifier_onto r x)) (with_specifier x t)
unfolding on_token is
specifier_said (Word v p) r t i f =
    let e = i.same (kind.Mark (word_mark v)) (word_is v) f.1 in
    subst (λ z. Said z (with_word v t)) (sym e) (word_said (sort_of r) i.state v t i.said (subst (λ z. stands (sort_of r) z ≡ true) e f.1))
specifier_said (TypeName n p) r t i f =
    let e = i.same (kind.TypeName n) refl f.1 in
    subst (λ z. Said z (with_specifier (TypeName n p) t)) (sym e) (name_said (sort_of r) i.state n p t i.said (subst (λ z. stands (sort_of r) z ≡ true) e f.1))
specifier_said (Struct p g) r t i f =
    let x = struct_begins r p t i f.0.1 in
    tagged_said (tag_onto (mark_at r mark.Struct p) (Some g)) x.0 named.StructTag (Struct p g) t (then_state (mark_at r mark.Struct p) (kind.Word g.name) g.place (st.Typed x.0 named.StructTag) x.1 refl) refl refl x.2
specifier_said (StructBody p None q ds) r t i f =
    let x = struct_begins r p t i (members_before (mark_at (mark_at r mark.Struct p) mark.OpenBrace q) ds f.0).0.1 in
    tagged_said (specifier_onto r (StructBody p None q ds)) x.0 named.Tagged (StructBody p None q ds) t
    (then_state (members_onto (mark_at (mark_at r mark.Struct p) mark.OpenBrace q) ds) (kind.Mark mark.CloseBrace) nowhere (st.Typed x.0 named.Tagged) (members_state (mark_at (mark_at r mark.Struct p) mark.OpenBrace q) x.0 ds (then_state (mark_at r mark.Struct p) (kind.Mark mark.OpenBrace) q (st.Members x.0) x.1 refl) f.0) refl) refl refl x.2
specifier_said (StructBody p (Some g) q ds) r t i f =
    let x = struct_begins r p t i (members_before (mark_at (tag_onto (mark_at r mark.Struct p) (Some g)) mark.OpenBrace q) ds f.0).0.0.1 in
    tagged_said (specifier_onto r (StructBody p (Some g) q ds)) x.0 named.Tagged (StructBody p (Some g) q ds) t
    (then_state (members_onto (mark_at (tag_onto (mark_at r mark.Struct p) (Some g)) mark.OpenBrace q) ds) (kind.Mark mark.CloseBrace) nowhere (st.Typed x.0 named.Tagged) (members_state (mark_at (tag_onto (mark_at r mark.Struct p) (Some g)) mark.OpenBrace q) x.0 ds
    (then_state (tag_onto (mark_at r mark.Struct p) (Some g)) (kind.Mark mark.OpenBrace) q (st.Members x.0) (then_state (mark_at r mark.Struct p) (kind.Word g.name) g.place (st.Typed x.0 named.StructTag) x.1 refl) refl) f.0) refl) refl refl x.2
specifier_said (Enum p g) r t i f =
    let x = enum_begins r p t i f.0.1 in
    tagged_said (tag_onto (mark_at r mark.Enum p) (Some g)) x.0 named.EnumTag (Enum p g) t (then_state (mark_at r mark.Enum p) (kind.Word g.name) g.place (st.Typed x.0 named.EnumTag) x.1 refl) refl refl x.2
specifier_said (EnumBody p None q es b) r t i f =
    let base = mark_at (mark_at r mark.Enum p) mark.OpenBrace q in let g = comma_before (enumerators_onto base es) b f.0 in
    let x = enum_begins r p t i (enumerators_before base es g).0.1 in
    tagged_said (specifier_onto r (EnumBody p None q es b)) x.0 named.Tagged (EnumBody p None q es b) t
    (brace_state (enumerators_onto base es) x.0 b (enumerators_state base x.0 es (then_state (mark_at r mark.Enum p) (kind.Mark mark.OpenBrace) q (st.Enumerators x.0) x.1 refl) g)) refl refl x.2
specifier_said (EnumBody p (Some y) q es b) r t i f =
    let base = mark_at (tag_onto (mark_at r mark.Enum p) (Some y)) mark.OpenBrace q in let g = comma_before (enumerators_onto base es) b f.0 in
    let x = enum_begins r p t i (enumerators_before base es g).0.0.1 in
    tagged_said (specifier_onto r (EnumBody p (Some y) q es b)) x.0 named.Tagged (EnumBody p (Some y) q es b) t
    (brace_state (enumerators_onto base es) x.0 b (enumerators_state base x.0 es (then_state (tag_onto (mark_at r mark.Enum p) (Some y)) (kind.Mark mark.OpenBrace) q (st.Enumerators x.0) (then_state (mark_at r mark.Enum p) (kind.Word y.name) y.place (st.Typed x.0 named.EnumTag) x.1 refl) refl) g)) refl refl x.2

pub specifier_before : (r : Tree) (x : SpecifierTree) → Fits (specifier_onto r x) → Fits r
specifier_before r (Word v p) f = f.0
specifier_before r (TypeName n p) f = f.0
specifier_before r (Struct p g) f = f.0.0
specifier_before r (StructBody p None q ds) f = (members_before (mark_at (mark_at r mark.Struct p) mark.OpenBrace q) ds f.0).0.0
specifier_before r (StructBody p (Some g) q ds) f = (members_before (mark_at (tag_onto (mark_at r mark.Struct p) (Some g)) mark.OpenBrace q) ds f.0).0.0.0
specifier_before r (Enum p g) f = f.0.0
specifier_before r (EnumBody p None q es b) f = (enumerators_before (mark_at (mark_at r mark.Enum p) mark.OpenBrace q) es (comma_before (enumerators_onto (mark_at (mark_at r mark.Enum p) mark.OpenBrace q) es) b f.0)).0.0
specifier_before r (EnumBody p (Some y) q es b) f = (enumerators_before (mark_at (tag_onto (mark_at r mark.Enum p) (Some y)) mark.OpenBrace q) es (comma_before (enumerators_onto (mark_at (tag_onto (mark_at r mark.Enum p) (Some y)) mark.OpenBrace q) es) b f.0)).0.0.0

pub specifiers_said : (xs : SpecifierTrees) (r : Tree) → Ready r nothing → Fits (specifiers_onto r xs) → Said (state_of (specifiers_onto r xs)) (tally xs)
specifiers_said (first_specifier x) r i f = specifier_said x r nothing i f
specifiers_said (and_specifier xs x) r i f = specifier_said x (specifiers_onto r xs) (tally xs) (said_ready (specifiers_onto r xs) (tally xs) (specifiers_said xs r i (specifier_before (specifiers_onto r xs) x f))) f

-- ---- at the beginning

begun_mark : (m : Mark) → is_specifier_mark m ≡ true → begun (kind.Mark m) ≡ specifier storage.Automatic (kind.Mark m)
begun_mark mark.Arrow e = refl
begun_mark m e = cc

begun_same : (k : TokenKind) → is_specifier k ≡ true → begun k ≡ specifier storage.Automatic k
begun_same (kind.TypeName n) e = refl
begun_same (kind.Mark m) e = begun_mark m e
begun_same k e = absurd (cc)

item_mark : (m : Mark) → is_specifier_mark m ≡ true → begun_item (kind.Mark m) ≡ begun (kind.Mark m)
item_mark mark.Arrow e = refl
item_mark m e = cc

item_same : (k : TokenKind) → is_specifier k ≡ true → begun_item k ≡ begun k
item_same (kind.Mark m) e = item_mark m e
item_same (kind.Word n) e = absurd (cc)
item_same k e = refl

else_mark : (m : Mark) → is_specifier_mark m ≡ true → begun_item_in items.BehindElse (kind.Mark m) ≡ begun_item (kind.Mark m)
else_mark mark.Arrow e = refl
else_mark m e = cc

item_in_same : (b : Items) (k : TokenKind) → is_specifier k ≡ true → begun_item_in b k ≡ begun_item k
item_in_same items.BehindElse (kind.Mark m) e = else_mark m e
item_in_same items.BehindElse k e = refl
item_in_same b k e = refl

external_mark : (m : Mark) → is_specifier_mark m ≡ true → begun_external (kind.Mark m) ≡ specifier storage.Automatic (kind.Mark m)
external_mark mark.Arrow e = refl
external_mark m e = cc

external_same : (k : TokenKind) → is_specifier k ≡ true → begun_external k ≡ specifier storage.Automatic k
external_same (kind.Mark m) e = external_mark m e
external_same k e = refl

no_declarator_mark : (m : Mark) → is_specifier_mark m ≡ true → begun_declarator false (kind.Mark m) ≡ st.None
no_declarator_mark mark.Arrow e = refl
no_declarator_mark m e = cc

no_declarator : (k : TokenKind) → is_specifier k ≡ true → begun_declarator false k ≡ st.None
no_declarator (kind.Mark m) e = no_declarator_mark m e
no_declarator (kind.Word n) e = absurd (cc)
no_declarator k e = refl

enclosed_mark : (m : Mark) → is_specifier_mark m ≡ true → begun_enclosed (kind.Mark m) ≡ specifier storage.Automatic (kind.Mark m)
enclosed_mark mark.Arrow e = refl
enclosed_mark m e = cc

enclosed_same : (k : TokenKind) → is_specifier k ≡ true → begun_enclosed k ≡ specifier storage.Automatic k
enclosed_same (kind.Mark m) e = enclosed_mark m e
enclosed_same (kind.Word n) e = absurd (cc)
enclosed_same k e = refl

brace_mark : (m : Mark) → is_specifier_mark m ≡ true → is mark.OpenBrace (kind.Mark m) ≡ false
unfolding is
brace_mark mark.Arrow e = refl
brace_mark m e = cc

no_brace : (k : TokenKind) → is_specifier k ≡ true → is mark.OpenBrace k ≡ false
unfolding is
no_brace (kind.Mark m) e = brace_mark m e
no_brace k e = refl

end_same : (k : TokenKind) → is_specifier k ≡ true → on_end k ≡ st.None
end_same kind.End e = absurd (cc)
end_same k e = refl

fresh_same : (s : Sort) (k : TokenKind) → is_specifier k ≡ true → stands s (begun_as s k) ≡ true → begun_as s k ≡ specifier storage.Automatic k
fresh_same sort.Unit k e h = absurd (no_none sort.Unit (subst (λ z. stands sort.Unit z ≡ true) (end_same k e) h))
fresh_same sort.External k e h = external_same k e
fresh_same (sort.Item b) k e h = item_in_same b k e ∙ item_same k e ∙ begun_same k e
fresh_same sort.Member k e h = refl
fresh_same sort.Parameter k e h = refl
fresh_same (sort.Declarator n) k e h = absurd (no_none (sort.Declarator n) (subst (λ z. stands (sort.Declarator n) z ≡ true) (no_declarator k e) h))
fresh_same (sort.Enclosed n) k e h = enclosed_same k e
fresh_same sort.Initialiser k e h = ap (λ b. cond b st.Braces (begun k)) (no_brace k e) ∙ begun_same k e
fresh_same s k e h = begun_same k e

pub fresh_ready : (s : Sort) → Ready (begin s) nothing
unfolding on_token
fresh_ready s = record { state = st.BeforeType storage.Automatic; said = refl; same = λ k e h. fresh_same s k e h }
