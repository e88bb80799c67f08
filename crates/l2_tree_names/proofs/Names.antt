-- A declarator's name is the first word of its tokens.
use Rattle.std.proofs.Common.{◌≡◌, inl, inr, refl, ap, sym, ◌∙◌, Bool, true, false, cond, ◌&&◌, ◌||◌, Option, None, Some, List, [], ◌∷◌, ◌++◌, append_assoc}
use Rattle.l2_syntax.specs.declared.place.Place.{Place}
use Rattle.l2_syntax.specs.declared.token.Mark.TheVariants as mark
use Rattle.l2_syntax.specs.declared.token.TokenKind.{TokenKind}
use Rattle.l2_syntax.specs.declared.token.TokenKind.TheVariants as kind
use Rattle.l2_grammar.specs.declared.states.Sort.{Sort}
use Rattle.l2_grammar.specs.Marks.{is}
use Rattle.l2_grammar.specs.Trees.{Seen, Tree, begin, token, child, spell, sort as sort_of, state as state_of}
use Rattle.l2_grammar.specs.Nesting.{opens}
use Rattle.l2_grammar.specs.Law.{Spells}
use Rattle.l2_tree.specs.declared.operators.SpecifierWord.{SpecifierWord}
use Rattle.l2_tree.specs.declared.operators.SpecifierWord.TheVariants as a_word
use Rattle.l2_tree.specs.declared.expression.Tag.{Tag}
use Rattle.l2_tree.specs.declared.expression.Pointer.{Pointer}
use Rattle.l2_tree.specs.declared.expression.Pointer.TheVariants as pointer
use Rattle.l2_tree.specs.Trees.{SpecifierTree, Word, TypeName, Struct, StructBody, Enum, EnumBody, SpecifierTrees, first_specifier, and_specifier, DeclarationTrees, no_declarations, and_declaration, EnumeratorTree, Plain, Valued, EnumeratorTrees, first_enumerator, and_enumerator, ParameterTree, Bare, Declared, ParameterTrees, no_parameters, and_parameter, DeclaratorTree, Declarator, CoreTree, Absent, Named, Group, SuffixTree, Array, ArrayOf, Parameters, SuffixTrees, no_suffixes, and_suffix, ExternalTree}
use Rattle.l2_tree.specs.Spelling.{nowhere, word_mark, comma_if, mark_at, tag_onto, specifier_onto, specifiers_onto, members_onto, enumerator_onto, enumerators_onto, run_parameter, parameters_onto, pointers_onto, core_onto, suffix_onto, suffixes_onto, run_declarator, run_unit}
use Rattle.l2_tree_names.specs.declared.declarators.DeclaredName.{DeclaredName}
use Rattle.l2_tree_names.specs.Declarators.{name_of, core_name, word, as_name, first_word, StandsIn}

-- ---- specifiers begin with no `*`, `(` or word

pub record Quiet (k : TokenKind) : Type 0 where
  pub star : is mark.Star k ≡ false
  pub bracket : is mark.OpenParenthesis k ≡ false
  pub plain : (p : Place) → as_name k p ≡ None

quiet_word : (w : SpecifierWord) → Quiet (kind.Mark (word_mark w))
unfolding is
quiet_word a_word.Static = record { star = refl; bracket = refl; plain = λ p. refl }
quiet_word w = record { star = refl; bracket = refl; plain = λ p. refl }

quiet_name : (n : _) → Quiet (kind.TypeName n)
unfolding is
quiet_name n = record { star = refl; bracket = refl; plain = λ p. refl }

quiet_struct : Quiet (kind.Mark mark.Struct)
unfolding is
quiet_struct = record { star = refl; bracket = refl; plain = λ p. refl }

quiet_enum : Quiet (kind.Mark mark.Enum)
unfolding is
quiet_enum = record { star = refl; bracket = refl; plain = λ p. refl }

-- a construct that begins so
pub record Starts (r : Tree) : Type 0 where
  pub starts : (m : List Seen) → (t : Seen) × (ts : List Seen) × (spell r m ≡ t ∷ ts) × Quiet t.kind

by_first : {s : Sort} {t : Seen} → Quiet t.kind → Starts (token (begin s) t)
by_first {t = t} q = record { starts = λ m. (t, m, refl, q) }

by_token : {r : Tree} {t : Seen} → Starts r → Starts (token r t)
by_token {t = t} i = record { starts = λ m. i.starts (t ∷ m) }

by_child : {r b : Tree} → Starts r → Starts (child r b)
by_child {b = b} i = record { starts = λ m. i.starts (spell b m) }

by_comma : {r : Tree} (b : Bool) → Starts r → Starts (comma_if b r)
by_comma true i = by_token i
by_comma false i = i

tag_starts : {r : Tree} (t : Option Tag) → Starts r → Starts (tag_onto r t)
tag_starts None i = i
tag_starts (Some t) i = by_token i

members_start : {r : Tree} (ds : DeclarationTrees) → Starts r → Starts (members_onto r ds)
members_start no_declarations i = i
members_start (and_declaration ds d) i = by_child (members_start ds i)

enumerator_starts : {r : Tree} (e : EnumeratorTree) → Starts r → Starts (enumerator_onto r e)
enumerator_starts (Plain n q) i = by_token i
enumerator_starts (Valued n q o e) i = by_child (by_token (by_token i))

enumerators_start : {r : Tree} (es : EnumeratorTrees) → Starts r → Starts (enumerators_onto r es)
enumerators_start (first_enumerator e) i = enumerator_starts e i
enumerators_start (and_enumerator es e) i = enumerator_starts e (by_token (enumerators_start es i))

specifier_starts : {r : Tree} (x : SpecifierTree) → Starts r → Starts (specifier_onto r x)
specifier_starts (Word w q) i = by_token i
specifier_starts (TypeName n q) i = by_token i
specifier_starts (Struct q t) i = by_token (by_token i)
specifier_starts (StructBody q t o ds) i = by_token (members_start ds (by_token (tag_starts t (by_token i))))
specifier_starts (Enum q t) i = by_token (by_token i)
specifier_starts (EnumBody q t o es b) i = by_token (by_comma b (enumerators_start es (by_token (tag_starts t (by_token i)))))

first_starts : (s : Sort) (x : SpecifierTree) → Starts (specifier_onto (begin s) x)
first_starts s (Word w q) = by_first (quiet_word w)
first_starts s (TypeName n q) = by_first (quiet_name n)
first_starts s (Struct q t) = by_token (by_first quiet_struct)
first_starts s (StructBody q t o ds) = by_token (members_start ds (by_token (tag_starts t (by_first quiet_struct))))
first_starts s (Enum q t) = by_token (by_first quiet_enum)
first_starts s (EnumBody q t o es b) = by_token (by_comma b (enumerators_start es (by_token (tag_starts t (by_first quiet_enum)))))

type_starts : (s : Sort) (xs : SpecifierTrees) → Starts (specifiers_onto (begin s) xs)
type_starts s (first_specifier x) = first_starts s x
type_starts s (and_specifier xs x) = specifier_starts x (type_starts s xs)

parameter_starts : (s : Sort) (t : ParameterTree) → Starts (run_parameter s t)
parameter_starts s (Bare xs) = type_starts s xs
parameter_starts s (Declared xs d) = by_child (type_starts s xs)

quiet_none : (t : Seen) (ts : List Seen) → Quiet t.kind → first_word false (t ∷ ts) ≡ None
quiet_none t ts q = go (is mark.Star t.kind) (is mark.OpenParenthesis t.kind) (is mark.Const t.kind) q.star q.bracket
  where
    go : (a b c : Bool) → a ≡ false → b ≡ false → cond a (first_word true ts) (cond (b || c && false) (first_word false ts) (as_name t.kind t.at)) ≡ None
    go true b c e f = absurd (cc)
    go a true c e f = absurd (cc)
    go false false true e f = q.plain t.at
    go false false false e f = q.plain t.at

starts_none : {r : Tree} (m : List Seen) → Starts r → first_word false (spell r m) ≡ None
starts_none m i = let x = i.starts m in ap (first_word false) x.2 ∙ quiet_none x.0 x.1 x.3

-- ---- what tokens begin with

-- the first word of these tokens, whatever stands before them
pub record Gives (m : List Seen) (x : Option DeclaredName) : Type 0 where
  pub gives : (b : Bool) → first_word b m ≡ x

abbrev stars : List Pointer → List Seen → List Seen
stars [] m = m
stars (pointer.Plain p ∷ ps) m = (record { kind = kind.Mark mark.Star; at = p }) ∷ stars ps m
stars (pointer.Const p q ∷ ps) m = (record { kind = kind.Mark mark.Star; at = p }) ∷ (record { kind = kind.Mark mark.Const; at = q }) ∷ stars ps m

pointers_spell : (r : Tree) (ps : List Pointer) (m : List Seen) → spell (pointers_onto r ps) m ≡ spell r (stars ps m)
pointers_spell r [] m = refl
pointers_spell r (pointer.Plain p ∷ ps) m = pointers_spell (mark_at r mark.Star p) ps m
pointers_spell r (pointer.Const p q ∷ ps) m = pointers_spell (mark_at (mark_at r mark.Star p) mark.Const q) ps m

stars_give : (ps : List Pointer) {m : List Seen} {x : Option DeclaredName} → Gives m x → Gives (stars ps m) x
unfolding is
stars_give [] i = i
stars_give (pointer.Plain p ∷ ps) i = record { gives = λ b. (stars_give ps i).gives true }
stars_give (pointer.Const p q ∷ ps) i = record { gives = λ b. (stars_give ps i).gives false }

abbrev close : Seen
close = record { kind = kind.Mark mark.CloseParenthesis; at = nowhere }

-- ---- parameters and lengths

parameters_none : (ps : ParameterTrees) (r : Tree) (m : List Seen) → first_word false m ≡ None → (k : List Seen) × (spell (parameters_onto r ps) m ≡ spell r k) × (first_word false k ≡ None)
unfolding is
parameters_none no_parameters r m e = (m, refl, e)
parameters_none (and_parameter no_parameters p) r m e = (spell (run_parameter (opens (sort_of r) (state_of r)) p) m, refl, starts_none m (parameter_starts (opens (sort_of r) (state_of r)) p))
parameters_none (and_parameter (and_parameter ps q) p) r m e = parameters_none (and_parameter ps q) r _ refl

suffix_none : (x : SuffixTree) (r : Tree) (m : List Seen) → (k : List Seen) × (spell (suffix_onto r x) m ≡ spell r k) × Gives k None
unfolding is
suffix_none (Array p) r m = (_, refl, record { gives = λ b. refl })
suffix_none (ArrayOf p e) r m = (_, refl, record { gives = λ b. refl })
suffix_none (Parameters p ps) r m =
    let x = parameters_none ps (mark_at r mark.OpenParenthesis p) (close ∷ m) refl in
    ((record { kind = kind.Mark mark.OpenParenthesis; at = p }) ∷ x.0, x.1, record { gives = λ b. x.2 })

suffixes_none : (xs : SuffixTrees) (r : Tree) (m : List Seen) → Gives m None → (k : List Seen) × (spell (suffixes_onto r xs) m ≡ spell r k) × Gives k None
suffixes_none no_suffixes r m i = (m, refl, i)
suffixes_none (and_suffix xs x) r m i =
    let y = suffix_none x (suffixes_onto r xs) m in let z = suffixes_none xs r y.0 y.2 in
    (z.0, y.1 ∙ z.1, z.2)

-- ---- names

moved : {k l : List Seen} {x : Option DeclaredName} → k ≡ l → Gives l x → Gives k x
moved e i = record { gives = λ b. ap (first_word b) e ∙ i.gives b }

mutual
  unfolding is

  given : (d : DeclaratorTree) (s : Sort) (m : List Seen) → Gives m None → Gives (spell (run_declarator s d) m) (name_of d)
  given (Declarator ps c xs) s m i =
      let x = suffixes_none xs (core_onto (pointers_onto (begin s) ps) c) m i in let y = core_given c (pointers_onto (begin s) ps) x.0 x.2 in
      moved (x.1 ∙ y.1 ∙ pointers_spell (begin s) ps y.0) (stars_give ps y.2)

  core_given : (c : CoreTree) (r : Tree) (m : List Seen) → Gives m None → (k : List Seen) × (spell (core_onto r c) m ≡ spell r k) × Gives k (core_name c)
  core_given Absent r m i = (m, refl, i)
  core_given (Named n p) r m i = (_, refl, record { gives = λ b. refl })
  core_given (Group p d) r m i =
      let a = mark_at r mark.OpenParenthesis p in let x = given d (opens (sort_of a) (state_of a)) (close ∷ m) (record { gives = λ b. refl }) in
      (_, refl, record { gives = λ b. x.gives false })

pub name_first : (s : Sort) (d : DeclaratorTree) → name_of d ≡ first_word false (spell (run_declarator s d) [])
name_first s d = sym ((given d s [] (record { gives = λ b. refl })).gives false)

-- ---- in a unit

spell_append : (r : Tree) (m : List Seen) → spell r m ≡ spell r [] ++ m
spell_append (begin s) m = refl
spell_append (token a t) m = spell_append a (t ∷ m) ∙ sym (append_assoc (spell a []) (t ∷ []) m) ∙ ap (λ z. z ++ m) (sym (spell_append a (t ∷ [])))
spell_append (child a b) m =
    spell_append a (spell b m) ∙ ap (λ z. spell a [] ++ z) (spell_append b m) ∙ sym (append_assoc (spell a []) (spell b []) m) ∙ ap (λ z. z ++ m) (sym (spell_append a (spell b [])))

word_among : (b : Bool) (ts : List Seen) (n : DeclaredName) → first_word b ts ≡ Some n → (front : List Seen) × (rest : List Seen) × (ts ≡ front ++ (word n ∷ rest))
word_among b [] n e = absurd (cc)
word_among b (t ∷ ts) n e = go (λ c f. word_among c ts n f) (is mark.Star t.kind) (is mark.OpenParenthesis t.kind || is mark.Const t.kind && b) e
  where
    Among : List Seen → Type 0
    Among us = (front : List Seen) × (rest : List Seen) × (us ≡ front ++ (word n ∷ rest))

    later : Among ts → Among (t ∷ ts)
    later x = (t ∷ x.0, x.1, ap (λ z. t ∷ z) x.2)

    named : (k : TokenKind) (p : Place) → as_name k p ≡ Some n → record { kind = k; at = p } ≡ word n
    named (kind.Word i) p f = let g : record { name = i; place = p } ≡ n = cc in ap word g
    named k p f = absurd (cc)

    go : ((c : Bool) → first_word c ts ≡ Some n → Among ts) → (c d : Bool) → cond c (first_word true ts) (cond d (first_word false ts) (as_name t.kind t.at)) ≡ Some n → Among (t ∷ ts)
    go h true d f = later (h true f)
    go h false true f = later (h false f)
    go h false false f = ([], ts, ap (λ z. z ∷ ts) (named t.kind t.at f))

inside : (b r : Tree) → StandsIn b r → (m : List Seen) → (front : List Seen) × (rest : List Seen) × (spell r m ≡ front ++ (spell b [] ++ rest))
inside b (begin s) i m = absurd i
inside b (token a t) i m = inside b a i (t ∷ m)
inside b (child a c) (inl i) m = inside b a i (spell c m)
inside b (child a c) (inr (inl e)) m = (spell a [], m, spell_append a (spell c m) ∙ ap (λ z. spell a [] ++ z) (spell_append c m ∙ ap (λ z. spell z [] ++ m) (sym e)))
inside b (child a c) (inr (inr i)) m =
    let x = inside b c i m in
    (spell a [] ++ x.0, x.1, spell_append a (spell c m) ∙ ap (λ z. spell a [] ++ z) x.2 ∙ sym (append_assoc (spell a []) x.0 (spell b [] ++ x.1)))

pub name_token : (ts : List Seen) (xs : List ExternalTree) (s : Sort) (d : DeclaratorTree) (n : DeclaredName) → Spells ts (run_unit xs) → StandsIn (run_declarator s d) (run_unit xs) → name_of d ≡ Some n →
    (front : List Seen) × (rest : List Seen) × (ts ≡ front ++ (word n ∷ rest))
name_token ts xs s d n h i e =
    let x = inside (run_declarator s d) (run_unit xs) i [] in let y = word_among false (spell (run_declarator s d) []) n (sym (name_first s d) ∙ e) in
    (x.0 ++ y.0, y.1 ++ x.1, sym h.spelled ∙ x.2 ∙ ap (λ z. x.0 ++ (z ++ x.1)) y.2 ∙ ap (λ z. x.0 ++ z) (append_assoc y.0 (word n ∷ y.1) x.1) ∙ sym (append_assoc x.0 y.0 (word n ∷ (y.1 ++ x.1))))
