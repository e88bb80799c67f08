-- What the state behind specifiers says of them.
use Rattle.std.proofs.Common.{◌≡◌, refl, ap, sym, ◌∙◌, subst, ℕ, Bool, true, false, cond, leb, Option, None, Some, is_none}
use Rattle.l2_syntax.specs.declared.place.Place.{Place}
use Rattle.l2_syntax.specs.declared.token.Mark.TheVariants as mark
use Rattle.l2_syntax.specs.declared.token.TokenKind.TheVariants as kind
use Rattle.l2_grammar.specs.declared.states.Items.TheVariants as items
use Rattle.l2_grammar.specs.declared.states.Sort.{Sort}
use Rattle.l2_grammar.specs.declared.states.Sort.TheVariants as sort
use Rattle.l2_grammar.specs.declared.states.Storage.{Storage}
use Rattle.l2_grammar.specs.declared.states.Storage.TheVariants as storage
use Rattle.l2_grammar.specs.declared.states.Length.{Length}
use Rattle.l2_grammar.specs.declared.states.Core.{Core}
use Rattle.l2_grammar.specs.declared.states.Length.TheVariants as length
use Rattle.l2_grammar.specs.declared.states.Core.TheVariants as core
use Rattle.l2_grammar.specs.declared.states.Named.{Named}
use Rattle.l2_grammar.specs.declared.states.Named.TheVariants as named
use Rattle.l2_grammar.specs.declared.states.State.{State}
use Rattle.l2_grammar.specs.declared.states.State.TheVariants as st
use Rattle.l2_grammar.specs.Marks.{is}
use Rattle.l2_grammar.specs.Networks.{store, add_sign, add_core, add_short, add_long, on_token, begun_as, closed as closed_name}
use Rattle.l2_grammar.specs.Nesting.{is_nothing}
use Rattle.l2_grammar.specs.Trees.{Tree, sort as sort_of, state as state_of, Fits}
use Rattle.l2_tree.specs.declared.operators.SpecifierWord.{SpecifierWord}
use Rattle.l2_tree.specs.declared.operators.SpecifierWord.TheVariants as word
use Rattle.l2_tree.specs.Trees.{SpecifierTree, Word, TypeName, Struct, StructBody, Enum, EnumBody, SpecifierTrees, first_specifier, and_specifier}
use Rattle.l2_tree.specs.Build.{some_or}
use Rattle.l2_tree.specs.Spelling.{word_mark, mark_at, specifier_onto, specifiers_onto}
use Rattle.l2_tree_laws.specs.Specifiers.{nothing, tally, names_type, is_zero, Base, void, tagged, other, other_of}
use Rattle.l2_tree_laws.proofs.Types.{other_found}
use Rattle.l2_well_formed.proofs.Counts.{Said, stored_words, type_tally, possible, names_one, Ready, specifiers_said}
use Rattle.l2_well_formed.specs.Expressions.{is_void_base}

-- ---- one type, and its storage

no_false : false ≡ true → ⊥
no_false e = cc

no_true : true ≡ false → ⊥
no_true e = cc

abbrev pub is_typed : State → Bool
is_typed (st.Typed w y) = true
is_typed q = false

pub record Told (w : Storage) (xs : SpecifierTrees) : Type 0 where
  pub one : names_type (tally xs) ≡ true
  pub stores : (tally xs).storage ≡ stored_words w

pub told : (r : Tree) (xs : SpecifierTrees) (w : Storage) (y : Named) → Ready r nothing → Fits (specifiers_onto r xs) → state_of (specifiers_onto r xs) ≡ st.Typed w y → Told w xs
told r xs w y i f e = go (subst (λ q. Said q (tally xs)) e (specifiers_said xs r i f))
  where
    same : (z : Named) → (type_tally w z).storage ≡ stored_words w
    same (named.Number b l c) = refl
    same z = refl

    go : (tally xs ≡ type_tally w y) × (possible y ≡ true) → Told w xs
    go x = record { one = names_one w y (tally xs) x.0 x.1; stores = ap (λ z. z.storage) x.0 ∙ same y }

-- ---- what a token makes of any state

-- where it is behind a type, the type is like this
abbrev makes : (Named → Bool) → State → Bool
makes p (st.Typed w y) = p y
makes p q = true

abbrev is_other : Named → Bool
is_other named.Other = true
is_other y = false

abbrev is_number : Named → Bool
is_number (named.Number b l c) = true
is_number y = false

abbrev is_tag : Named → Bool
is_tag named.StructTag = true
is_tag named.EnumTag = true
is_tag named.Tagged = true
is_tag y = false

none_makes : (p : Named → Bool) (b : Bool) (q : State) → makes p q ≡ true → makes p (cond b q st.None) ≡ true
none_makes p true q i = i
none_makes p false q i = refl

void_makes : (s : Sort) (q : State) → makes is_nothing (on_token s q (kind.Mark mark.Void)) ≡ true
unfolding on_token is
void_makes (sort.Item items.Lone) st.Fresh = refl
void_makes s st.Fresh = refl
void_makes s (st.Have l) = none_makes is_nothing (leb 0 l) st.None refl
void_makes s (st.Typed w (named.Number b l c)) = refl
void_makes s (st.Typed w y) = refl
void_makes s q = refl

bool_makes : (s : Sort) (q : State) → makes is_other (on_token s q (kind.Mark mark.Bool)) ≡ true
unfolding on_token is
bool_makes (sort.Item items.Lone) st.Fresh = refl
bool_makes s st.Fresh = refl
bool_makes s (st.Have l) = none_makes is_other (leb 0 l) st.None refl
bool_makes s (st.Typed w (named.Number b l c)) = refl
bool_makes s (st.Typed w y) = refl
bool_makes s q = refl

name_makes : (s : Sort) (q : State) (n : ℕ) → makes is_other (on_token s q (kind.TypeName n)) ≡ true
unfolding on_token is
name_makes (sort.Item items.Lone) st.Fresh n = refl
name_makes s st.Fresh n = refl
name_makes s (st.Have l) n = none_makes is_other (leb 0 l) st.None refl
name_makes s (st.Typed w (named.Number b l c)) n = refl
name_makes s (st.Typed w y) n = refl
name_makes s q n = refl

tag_makes : (s : Sort) (q : State) (n : ℕ) → makes is_tag (on_token s q (kind.Word n)) ≡ true
unfolding on_token is
tag_makes (sort.Item items.Lone) st.Fresh n = refl
tag_makes s st.Fresh n = refl
tag_makes s (st.Have l) n = none_makes is_tag (leb 0 l) st.None refl
tag_makes s (st.Typed w (named.Number b l c)) n = refl
tag_makes s (st.Typed w y) n = refl
tag_makes s q n = refl

brace_makes : (s : Sort) (q : State) → makes is_tag (on_token s q (kind.Mark mark.CloseBrace)) ≡ true
unfolding on_token is
brace_makes (sort.Item items.Lone) st.Fresh = refl
brace_makes s st.Fresh = refl
brace_makes s (st.Have l) = none_makes is_tag (leb 0 l) st.None refl
brace_makes s (st.Typed w (named.Number b l c)) = refl
brace_makes s (st.Typed w y) = refl
brace_makes s q = refl

abbrev is_number_word : SpecifierWord → Bool
is_number_word word.Static = false
is_number_word word.Extern = false
is_number_word word.Const = false
is_number_word word.Bool = false
is_number_word word.Void = false
is_number_word v = true

fresh_number : (s : Sort) (v : SpecifierWord) → is_number_word v ≡ true → makes is_number (begun_as s (kind.Mark (word_mark v))) ≡ true
unfolding is
fresh_number s word.Static e = absurd (cc)
fresh_number s word.Extern e = absurd (cc)
fresh_number s word.Const e = absurd (cc)
fresh_number s word.Bool e = absurd (cc)
fresh_number s word.Void e = absurd (cc)
fresh_number (sort.Item items.Lone) v e = refl
fresh_number s v e = refl

sign_number : (w : Storage) (b : Bool) (l : Length) (c : Core) → makes is_number (add_sign w b l c) ≡ true
sign_number w true l c = refl
sign_number w false l c = refl

core_number : (w : Storage) (b : Bool) (l : Length) (c d : Core) → makes is_number (add_core w b l c d) ≡ true
core_number w b length.NoLength core.NoCore core.Int = refl
core_number w b length.Short core.NoCore core.Int = refl
core_number w b length.Long core.NoCore core.Int = refl
core_number w b length.LongLong core.NoCore core.Int = refl
core_number w b l c d = refl

short_number : (w : Storage) (b : Bool) (l : Length) (c : Core) → makes is_number (add_short w b l c) ≡ true
short_number w b length.NoLength core.NoCore = refl
short_number w b l c = refl

long_number : (w : Storage) (b : Bool) (l : Length) (c : Core) → makes is_number (add_long w b l c) ≡ true
long_number w b length.NoLength core.NoCore = refl
long_number w b l c = refl

number_makes : (s : Sort) (q : State) (v : SpecifierWord) → is_number_word v ≡ true → makes is_number (on_token s q (kind.Mark (word_mark v))) ≡ true
unfolding on_token is
number_makes s q word.Static e = absurd (cc)
number_makes s q word.Extern e = absurd (cc)
number_makes s q word.Const e = absurd (cc)
number_makes s q word.Bool e = absurd (cc)
number_makes s q word.Void e = absurd (cc)
number_makes s st.Fresh v e = fresh_number s v e
number_makes s (st.Have l) v e = none_makes is_number (leb 0 l) st.None refl
number_makes s (st.Typed w (named.Number b l c)) word.Signed e = sign_number w b l c
number_makes s (st.Typed w (named.Number b l c)) word.Unsigned e = sign_number w b l c
number_makes s (st.Typed w (named.Number b l c)) word.Char e = core_number w b l c core.Char
number_makes s (st.Typed w (named.Number b l c)) word.Int e = core_number w b l c core.Int
number_makes s (st.Typed w (named.Number b l c)) word.Short e = short_number w b l c
number_makes s (st.Typed w (named.Number b l c)) word.Long e = long_number w b l c
number_makes s q v e = refl

-- ---- a word that names no type

abbrev is_plain : SpecifierWord → Bool
is_plain word.Static = true
is_plain word.Extern = true
is_plain word.Const = true
is_plain v = false

abbrev nothing_is : Named → Bool
nothing_is y = false

stored_makes : (w : Storage) → makes nothing_is (store st.BeforeType w) ≡ true
stored_makes storage.Automatic = refl
stored_makes w = refl

plain_makes : (s : Sort) (q : State) (v : SpecifierWord) → is_plain v ≡ true → is_typed q ≡ false → makes nothing_is (on_token s q (kind.Mark (word_mark v))) ≡ true
unfolding on_token is
plain_makes s q word.Signed e f = absurd (cc)
plain_makes s q word.Unsigned e f = absurd (cc)
plain_makes s q word.Bool e f = absurd (cc)
plain_makes s q word.Char e f = absurd (cc)
plain_makes s q word.Short e f = absurd (cc)
plain_makes s q word.Int e f = absurd (cc)
plain_makes s q word.Long e f = absurd (cc)
plain_makes s q word.Void e f = absurd (cc)
plain_makes s (st.Typed w y) v e f = absurd (cc)
plain_makes (sort.Item items.Lone) st.Fresh v e f = refl
plain_makes s st.Fresh v e f = refl
plain_makes s (st.Have l) v e f = none_makes nothing_is (leb 0 l) st.None refl
plain_makes s (st.BeforeType w) word.Const e f = refl
plain_makes s (st.BeforeType w) v e f = stored_makes w
plain_makes s q v e f = refl

plain_before : (s : Sort) (v : SpecifierWord) (w w' : Storage) (y y' : Named) → is_plain v ≡ true → on_token s (st.Typed w' y') (kind.Mark (word_mark v)) ≡ st.Typed w y → closed_name y' ≡ y
unfolding on_token
plain_before s word.Const w w' y y' e f = cc
plain_before s word.Static w storage.Automatic y y' e f = cc
plain_before s word.Static w w' y y' e f = absurd (cc)
plain_before s word.Extern w storage.Automatic y y' e f = cc
plain_before s word.Extern w w' y y' e f = absurd (cc)
plain_before s v w w' y y' e f = absurd (cc)

-- ---- which type it is

-- the state behind a type says so of the type that a specifier names by itself
abbrev pub Kind : Named → Option Base → Type 0
Kind named.Nothing o = is_void_base o ≡ true
Kind named.Other o = is_void_base o ≡ false
Kind named.StructTag o = (x : SpecifierTree) × (o ≡ Some (tagged x))
Kind named.EnumTag o = (x : SpecifierTree) × (o ≡ Some (tagged x))
Kind named.Tagged o = (x : SpecifierTree) × (o ≡ Some (tagged x))
Kind y o = Unit {0}

closed_kind : (y : Named) (o : Option Base) → Kind y o → Kind (closed_name y) o
closed_kind named.StructTag o i = i
closed_kind y o i = i

by_nothing : (y : Named) → is_nothing y ≡ true → Kind y (Some void)
by_nothing named.Nothing e = refl
by_nothing y e = absurd (cc)

by_other : (y : Named) (o : Option Base) → is_void_base o ≡ false → is_other y ≡ true → Kind y o
by_other named.Other o f e = f
by_other y o f e = absurd (cc)

by_number : (y : Named) (o : Option Base) → is_number y ≡ true → Kind y o
by_number (named.Number b l c) o e = tt
by_number y o e = absurd (cc)

by_tag : (y : Named) (x : SpecifierTree) → is_tag y ≡ true → Kind y (Some (tagged x))
by_tag named.StructTag x e = (x, refl)
by_tag named.EnumTag x e = (x, refl)
by_tag named.Tagged x e = (x, refl)
by_tag y x e = absurd (cc)

-- a state that is behind a type
made : (p : Named → Bool) (q : State) (w : Storage) (y : Named) → makes p q ≡ true → q ≡ st.Typed w y → p y ≡ true
made p q w y e f = sym (ap (makes p) f) ∙ e

plain_kind : (s : Sort) (q : State) (v : SpecifierWord) (o : Option Base) → is_plain v ≡ true → ((w : Storage) (y : Named) → q ≡ st.Typed w y → Kind y o) → (w : Storage) (y : Named) → on_token s q (kind.Mark (word_mark v)) ≡ st.Typed w y → Kind y o
plain_kind s (st.Typed w' y') v o f i w y e = subst (λ z. Kind z o) (plain_before s v w w' y y' f e) (closed_kind y' o (i w' y' refl))
plain_kind s q v o f i w y e = absurd (no_false (made nothing_is (on_token s q (kind.Mark (word_mark v))) w y (plain_makes s q v f refl) e))

word_kind : (s : Sort) (q : State) (v : SpecifierWord) (o : Option Base) (p : Place) → ((w : Storage) (y : Named) → q ≡ st.Typed w y → Kind y o) → (w : Storage) (y : Named) → on_token s q (kind.Mark (word_mark v)) ≡ st.Typed w y →
    Kind y (some_or (other (Word v p)) (λ b. Some b) o)
word_kind s q word.Void o p i w y e = by_nothing y (made is_nothing (on_token s q (kind.Mark mark.Void)) w y (void_makes s q) e)
word_kind s q word.Bool o p i w y e = by_other y _ refl (made is_other (on_token s q (kind.Mark mark.Bool)) w y (bool_makes s q) e)
word_kind s q word.Const o p i w y e = plain_kind s q word.Const o refl i w y e
word_kind s q word.Static o p i w y e = plain_kind s q word.Static o refl i w y e
word_kind s q word.Extern o p i w y e = plain_kind s q word.Extern o refl i w y e
word_kind s q v o p i w y e = by_number y _ (made is_number (on_token s q (kind.Mark (word_mark v))) w y (number_makes s q v refl) e)

specifier_kind : (r : Tree) (x : SpecifierTree) (o : Option Base) → ((w : Storage) (y : Named) → state_of r ≡ st.Typed w y → Kind y o) → (w : Storage) (y : Named) → state_of (specifier_onto r x) ≡ st.Typed w y → Kind y (some_or (other x) (λ b. Some b) o)
specifier_kind r (Word v p) o i w y e = word_kind (sort_of r) (state_of r) v o p i w y e
specifier_kind r (TypeName n p) o i w y e = by_other y _ refl (made is_other _ w y (name_makes (sort_of r) (state_of r) n) e)
specifier_kind r (Struct p t) o i w y e = by_tag y _ (made is_tag _ w y (tag_makes (sort_of r) (state_of (mark_at r mark.Struct p)) t.name) e)
specifier_kind r (StructBody p t q ds) o i w y e = by_tag y _ (made is_tag _ w y (brace_makes _ _) e)
specifier_kind r (Enum p t) o i w y e = by_tag y _ (made is_tag _ w y (tag_makes (sort_of r) (state_of (mark_at r mark.Enum p)) t.name) e)
specifier_kind r (EnumBody p t q es b) o i w y e = by_tag y _ (made is_tag _ w y (brace_makes _ _) e)

first_kind : (r : Tree) (x : SpecifierTree) → is_typed (state_of r) ≡ false → (w : Storage) (y : Named) → state_of (specifier_onto r x) ≡ st.Typed w y → Kind y (other x)
first_kind r x f w y e = go (other x) (specifier_kind r x None (λ v z g. absurd (no_true (sym (ap is_typed g) ∙ f))) w y e)
  where
    go : (o : Option Base) → Kind y (some_or o (λ b. Some b) None) → Kind y o
    go None k = k
    go (Some b) k = k

-- the type that specifiers name, where they stand behind no type
pub kinds : (r : Tree) (xs : SpecifierTrees) → is_typed (state_of r) ≡ false → (w : Storage) (y : Named) → state_of (specifiers_onto r xs) ≡ st.Typed w y → Kind y (other_of xs)
kinds r (first_specifier x) f w y e = first_kind r x f w y e
kinds r (and_specifier xs x) f w y e = specifier_kind (specifiers_onto r xs) x (other_of xs) (λ v z g. kinds r xs f v z g) w y e

-- `void`, where no other type is named
pub void_told : (r : Tree) (xs : SpecifierTrees) (w : Storage) (y : Named) → Ready r nothing → is_typed (state_of r) ≡ false → Fits (specifiers_onto r xs) → state_of (specifiers_onto r xs) ≡ st.Typed w y → is_nothing y ≡ is_void_base (other_of xs)
void_told r xs w y i d f e = go y (kinds r xs d w y e) (subst (λ q. Said q (tally xs)) e (specifiers_said xs r i f))
  where
    none_void : (o : Option Base) → is_none o ≡ true → false ≡ is_void_base o
    none_void None g = refl
    none_void (Some b) g = absurd (cc)

    tag_void : (o : Option Base) (x : SpecifierTree) → o ≡ Some (tagged x) → false ≡ is_void_base o
    tag_void o x g = sym (ap is_void_base g)

    go : (y : Named) → Kind y (other_of xs) → (tally xs ≡ type_tally w y) × (possible y ≡ true) → is_nothing y ≡ is_void_base (other_of xs)
    go (named.Number b l c) k x = none_void (other_of xs) (other_found xs ∙ ap (λ z. is_zero z.others) x.0)
    go named.Nothing k x = sym k
    go named.Other k x = sym k
    go named.StructTag k x = tag_void (other_of xs) k.0 k.1
    go named.EnumTag k x = tag_void (other_of xs) k.0 k.1
    go named.Tagged k x = tag_void (other_of xs) k.0 k.1
