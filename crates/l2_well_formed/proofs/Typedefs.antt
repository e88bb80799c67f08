-- Behind `typedef` no other word of storage stands.
use Rattle.std.proofs.Common.{◌≡◌, refl, ap, sym, ◌∙◌, ℕ, Bool, true, false, Option, None, Some}
use Rattle.l2_syntax.specs.declared.place.Place.{Place}
use Rattle.l2_syntax.specs.declared.token.Mark.TheVariants as mark
use Rattle.l2_syntax.specs.declared.token.TokenKind.TheVariants as kind
use Rattle.l2_grammar.specs.declared.states.Sort.{Sort}
use Rattle.l2_grammar.specs.declared.states.Storage.{Storage}
use Rattle.l2_grammar.specs.declared.states.Storage.TheVariants as storage
use Rattle.l2_grammar.specs.declared.states.Length.{Length}
use Rattle.l2_grammar.specs.declared.states.Length.TheVariants as length
use Rattle.l2_grammar.specs.declared.states.Core.{Core}
use Rattle.l2_grammar.specs.declared.states.Core.TheVariants as core
use Rattle.l2_grammar.specs.declared.states.Named.{Named}
use Rattle.l2_grammar.specs.declared.states.Named.TheVariants as named
use Rattle.l2_grammar.specs.declared.states.State.{State}
use Rattle.l2_grammar.specs.declared.states.State.TheVariants as st
use Rattle.l2_grammar.specs.Marks.{is}
use Rattle.l2_grammar.specs.Networks.{add_sign, add_core, add_short, add_long, on_token}
use Rattle.l2_grammar.specs.Nesting.{stands}
use Rattle.l2_grammar.specs.Trees.{Tree, sort as sort_of, state as state_of, Fits}
use Rattle.l2_tree.specs.declared.operators.SpecifierWord.{SpecifierWord}
use Rattle.l2_tree.specs.declared.operators.SpecifierWord.TheVariants as word
use Rattle.l2_tree.specs.declared.expression.Tag.{Tag}
use Rattle.l2_tree.specs.Trees.{SpecifierTree, Word, TypeName, Struct, StructBody, Enum, EnumBody, SpecifierTrees, first_specifier, and_specifier}
use Rattle.l2_tree.specs.Spelling.{nowhere, word_mark, tag_onto, mark_at, members_onto, enumerators_onto, specifier_onto, specifiers_onto}
use Rattle.l2_well_formed.proofs.Steps.{no_none}
use Rattle.l2_well_formed.proofs.Counts.{then_state, members_state, members_before, enumerators_before, comma_before, specifier_before, enumerators_state, brace_state}
use Rattle.l2_well_formed.proofs.Declarations.{Typing}

-- behind `typedef` and perhaps more specifiers
abbrev pub held : State → Bool
held (st.BeforeType storage.Typedef) = true
held (st.Typed storage.Typedef y) = true
held q = false

sign_held : (s : Sort) (b : Bool) (l : Length) (c : Core) → stands s (add_sign storage.Typedef b l c) ≡ true → held (add_sign storage.Typedef b l c) ≡ true
sign_held s true l c h = absurd (no_none s h)
sign_held s false l c h = refl

core_held : (s : Sort) (b : Bool) (l : Length) (c d : Core) → stands s (add_core storage.Typedef b l c d) ≡ true → held (add_core storage.Typedef b l c d) ≡ true
core_held s b l core.NoCore core.Int h = refl
core_held s b length.NoLength core.NoCore core.Char h = refl
core_held s b length.Short core.NoCore core.Char h = absurd (no_none s h)
core_held s b length.Long core.NoCore core.Char h = absurd (no_none s h)
core_held s b length.LongLong core.NoCore core.Char h = absurd (no_none s h)
core_held s b length.NoLength c d h = absurd (no_none s h)
core_held s b l c d h = absurd (no_none s h)

short_held : (s : Sort) (b : Bool) (l : Length) (c : Core) → stands s (add_short storage.Typedef b l c) ≡ true → held (add_short storage.Typedef b l c) ≡ true
short_held s b length.NoLength core.NoCore h = refl
short_held s b length.NoLength core.Int h = refl
short_held s b l c h = absurd (no_none s h)

long_held : (s : Sort) (b : Bool) (l : Length) (c : Core) → stands s (add_long storage.Typedef b l c) ≡ true → held (add_long storage.Typedef b l c) ≡ true
long_held s b length.NoLength core.NoCore h = refl
long_held s b length.NoLength core.Int h = refl
long_held s b length.Long c h = refl
long_held s b l c h = absurd (no_none s h)

word_held : (s : Sort) (q : State) (v : SpecifierWord) → held q ≡ true → stands s (on_token s q (kind.Mark (word_mark v))) ≡ true → held (on_token s q (kind.Mark (word_mark v))) ≡ true
unfolding on_token is
word_held s (st.BeforeType storage.Typedef) word.Static e h = absurd (no_none s h)
word_held s (st.BeforeType storage.Typedef) word.Extern e h = absurd (no_none s h)
word_held s (st.BeforeType storage.Typedef) v e h = refl
word_held s (st.Typed storage.Typedef y) word.Const e h = refl
word_held s (st.Typed storage.Typedef y) word.Static e h = absurd (no_none s h)
word_held s (st.Typed storage.Typedef y) word.Extern e h = absurd (no_none s h)
word_held s (st.Typed storage.Typedef (named.Number b l c)) word.Signed e h = sign_held s b l c h
word_held s (st.Typed storage.Typedef (named.Number b l c)) word.Unsigned e h = sign_held s b l c h
word_held s (st.Typed storage.Typedef (named.Number b l c)) word.Char e h = core_held s b l c core.Char h
word_held s (st.Typed storage.Typedef (named.Number b l c)) word.Int e h = core_held s b l c core.Int h
word_held s (st.Typed storage.Typedef (named.Number b l c)) word.Short e h = short_held s b l c h
word_held s (st.Typed storage.Typedef (named.Number b l c)) word.Long e h = long_held s b l c h
word_held s (st.Typed storage.Typedef (named.Number b l c)) word.Bool e h = absurd (no_none s h)
word_held s (st.Typed storage.Typedef (named.Number b l c)) word.Void e h = absurd (no_none s h)
word_held s (st.Typed storage.Typedef y) v e h = absurd (no_none s h)
word_held s q v e h = absurd (cc)

name_held : (s : Sort) (q : State) (n : ℕ) → held q ≡ true → stands s (on_token s q (kind.TypeName n)) ≡ true → held (on_token s q (kind.TypeName n)) ≡ true
unfolding on_token is
name_held s (st.BeforeType storage.Typedef) n e h = refl
name_held s (st.Typed storage.Typedef (named.Number b l c)) n e h = absurd (no_none s h)
name_held s (st.Typed storage.Typedef y) n e h = absurd (no_none s h)
name_held s q n e h = absurd (cc)

struct_held : (s : Sort) (q : State) → held q ≡ true → stands s (on_token s q (kind.Mark mark.Struct)) ≡ true → on_token s q (kind.Mark mark.Struct) ≡ st.StructWord storage.Typedef
unfolding on_token is
struct_held s (st.BeforeType storage.Typedef) e h = refl
struct_held s (st.Typed storage.Typedef (named.Number b l c)) e h = absurd (no_none s h)
struct_held s (st.Typed storage.Typedef y) e h = absurd (no_none s h)
struct_held s q e h = absurd (cc)

enum_held : (s : Sort) (q : State) → held q ≡ true → stands s (on_token s q (kind.Mark mark.Enum)) ≡ true → on_token s q (kind.Mark mark.Enum) ≡ st.EnumWord storage.Typedef
unfolding on_token is
enum_held s (st.BeforeType storage.Typedef) e h = refl
enum_held s (st.Typed storage.Typedef (named.Number b l c)) e h = absurd (no_none s h)
enum_held s (st.Typed storage.Typedef y) e h = absurd (no_none s h)
enum_held s q e h = absurd (cc)

struct_body : (r : Tree) (p : Place) (t : Option Tag) (q : Place) → held (state_of r) ≡ true → Fits (mark_at (tag_onto (mark_at r mark.Struct p) t) mark.OpenBrace q) → state_of (mark_at (tag_onto (mark_at r mark.Struct p) t) mark.OpenBrace q) ≡ st.Members storage.Typedef
unfolding on_token is
struct_body r p None q i f = then_state (mark_at r mark.Struct p) (kind.Mark mark.OpenBrace) q (st.Members storage.Typedef) (struct_held (sort_of r) (state_of r) i f.0.1) refl
struct_body r p (Some t) q i f =
    then_state (tag_onto (mark_at r mark.Struct p) (Some t)) (kind.Mark mark.OpenBrace) q (st.Members storage.Typedef) (then_state (mark_at r mark.Struct p) (kind.Word t.name) t.place (st.Typed storage.Typedef named.StructTag) (struct_held (sort_of r) (state_of r) i f.0.0.1) refl) refl

enum_body : (r : Tree) (p : Place) (t : Option Tag) (q : Place) → held (state_of r) ≡ true → Fits (mark_at (tag_onto (mark_at r mark.Enum p) t) mark.OpenBrace q) → state_of (mark_at (tag_onto (mark_at r mark.Enum p) t) mark.OpenBrace q) ≡ st.Enumerators storage.Typedef
unfolding on_token is
enum_body r p None q i f = then_state (mark_at r mark.Enum p) (kind.Mark mark.OpenBrace) q (st.Enumerators storage.Typedef) (enum_held (sort_of r) (state_of r) i f.0.1) refl
enum_body r p (Some t) q i f =
    then_state (tag_onto (mark_at r mark.Enum p) (Some t)) (kind.Mark mark.OpenBrace) q (st.Enumerators storage.Typedef) (then_state (mark_at r mark.Enum p) (kind.Word t.name) t.place (st.Typed storage.Typedef named.EnumTag) (enum_held (sort_of r) (state_of r) i f.0.0.1) refl) refl

specifier_held : (x : SpecifierTree) (r : Tree) → held (state_of r) ≡ true → Fits (specifier_onto r x) → held (state_of (specifier_onto r x)) ≡ true
unfolding on_token is
specifier_held (Word v p) r i f = word_held (sort_of r) (state_of r) v i f.1
specifier_held (TypeName n p) r i f = name_held (sort_of r) (state_of r) n i f.1
specifier_held (Struct p t) r i f = ap held (then_state (mark_at r mark.Struct p) (kind.Word t.name) t.place (st.Typed storage.Typedef named.StructTag) (struct_held (sort_of r) (state_of r) i f.0.1) refl)
specifier_held (StructBody p t q ds) r i f =
    let base = mark_at (tag_onto (mark_at r mark.Struct p) t) mark.OpenBrace q in
    ap held (then_state (members_onto base ds) (kind.Mark mark.CloseBrace) nowhere (st.Typed storage.Typedef named.Tagged) (members_state base storage.Typedef ds (struct_body r p t q i (members_before base ds f.0)) f.0) refl)
specifier_held (Enum p t) r i f = ap held (then_state (mark_at r mark.Enum p) (kind.Word t.name) t.place (st.Typed storage.Typedef named.EnumTag) (enum_held (sort_of r) (state_of r) i f.0.1) refl)
specifier_held (EnumBody p t q es b) r i f =
    let base = mark_at (tag_onto (mark_at r mark.Enum p) t) mark.OpenBrace q in let g = comma_before (enumerators_onto base es) b f.0 in
    ap held (brace_state (enumerators_onto base es) storage.Typedef b (enumerators_state base storage.Typedef es (enum_body r p t q i (enumerators_before base es g)) g))

specifiers_held : (xs : SpecifierTrees) (r : Tree) → held (state_of r) ≡ true → Fits (specifiers_onto r xs) → held (state_of (specifiers_onto r xs)) ≡ true
specifiers_held (first_specifier x) r i f = specifier_held x r i f
specifiers_held (and_specifier xs x) r i f = specifier_held x (specifiers_onto r xs) (specifiers_held xs r i (specifier_before (specifiers_onto r xs) x f)) f

is_it : (w : Storage) (y : Named) → held (st.Typed w y) ≡ true → w ≡ storage.Typedef
is_it storage.Typedef y e = refl
is_it w y e = absurd (cc)

pub typedef_words : (r : Tree) (xs : SpecifierTrees) (t : Typing r xs) → held (state_of r) ≡ true → t.words ≡ storage.Typedef
typedef_words r xs t i = is_it t.words t.name (sym (ap held t.state) ∙ specifiers_held xs r i t.fits)
