-- How reading goes on behind each part of specifiers, of a declarator, of an initialiser and of a declaration.
use Rattle.std.proofs.Common.{◌≡◌, refl, ◌∙◌, ap, sym, ℕ, Bool, true, false, cond, ◌&&◌, ◌||◌, not, List, [], ◌∷◌, ◌++◌, Option, None, Some}
use Rattle.std.proofs.lemmas.List.{append_assoc}
use Rattle.l2_syntax.specs.declared.place.Place.{Place}
use Rattle.l2_syntax.specs.declared.token.Mark.TheVariants as mark
use Rattle.l2_syntax.specs.declared.token.TokenKind.{TokenKind}
use Rattle.l2_syntax.specs.declared.token.TokenKind.TheVariants as kind
use Rattle.l2_grammar.specs.Marks.{is}
use Rattle.l2_grammar.specs.Trees.{Tree}
use Rattle.l2_tree.specs.declared.operators.SpecifierWord.{SpecifierWord}
use Rattle.l2_tree.specs.declared.expression.Tag.{Tag}
use Rattle.l2_tree.specs.declared.expression.Pointer.{Pointer}
use Rattle.l2_tree.specs.declared.expression.Pointer.TheVariants as pointer
use Rattle.l2_tree.specs.Trees.{ExprTree, SpecifierTree, Word, Struct, StructBody, Enum, EnumBody, SpecifierTrees, Plain, Valued, EnumeratorTrees, ParameterTree, ParameterTrees, no_parameters, and_parameter, DeclaratorTree, Declarator, CoreTree, Absent, Named, Group, Array, ArrayOf, Parameters, SuffixTrees, no_suffixes, and_suffix, InitialiserTree, Braced, InitialiserTrees, first_initialiser, and_initialiser, DeclarationTrees, no_declarations}
use Rattle.l2_tree.specs.Spelling.{nowhere, word_mark, pointer_onto, pointers_onto}
use Rattle.l2_tree.specs.Build.{Part, leaf, node, built, parts_of, and_then, only, heads, simple_of, expr_of, add_specifier, specifiers, members, enumerators, add_enumerator, behind_enumerator, pointers, group, suffixes, behind_parameter, declarator_of, declarator_behind, parameter_of, initialiser_of, behind_item}
use Rattle.l2_tree_laws.proofs.Runs.{RunsIf}
use Rattle.l2_tree_laws.proofs.Firsts.{typed_parameter, untyped_declarator}
use Rattle.l2_tree_laws.proofs.BackMarks.{simple_word}
use Rattle.l2_tree_laws.proofs.BackSteps.{Whole}

-- with what stands there
pub with : {A B : Type 0} {g : List Part → Option A} {r : Tree} {x : A} (f : A → Option B) → Whole g r x → and_then (g (parts_of r)) f ≡ f x
with f j = ap (λ x. and_then x f) j.is_whole

-- ---- specifiers

word_is : (o : Option SpecifierTrees) (p : Place) (m : List Part) (k : TokenKind) (x : SpecifierTree) → simple_of k p ≡ Some x → specifiers o (leaf k p ∷ m) ≡ specifiers (Some (add_specifier o x)) m
word_is o p m k x e = rw e refl

pub word_goes : (o : Option SpecifierTrees) (w : SpecifierWord) (p : Place) (m : List Part) → specifiers o (leaf (kind.Mark (word_mark w)) p ∷ m) ≡ specifiers (Some (add_specifier o (Word w p))) m
word_goes o w p m = word_is o p m (kind.Mark (word_mark w)) (Word w p) (simple_word w p)

pub struct_goes : (o : Option SpecifierTrees) (p : Place) (t : Tag) (m : List Part) → heads mark.OpenBrace m ≡ false →
    specifiers o (leaf (kind.Mark mark.Struct) p ∷ leaf (kind.Word t.name) t.place ∷ m) ≡ specifiers (Some (add_specifier o (Struct p t))) m
unfolding is
struct_goes o p t m e = rw e refl

pub struct_body_goes : (o : Option SpecifierTrees) (p : Place) (t : Tag) (q : Place) (m : List Part) →
    specifiers o (leaf (kind.Mark mark.Struct) p ∷ leaf (kind.Word t.name) t.place ∷ leaf (kind.Mark mark.OpenBrace) q ∷ m) ≡ members (λ ds. add_specifier o (StructBody p (Some t) q ds)) no_declarations m
unfolding is
struct_body_goes o p t q m = refl

pub plain_struct_goes : (o : Option SpecifierTrees) (p q : Place) (m : List Part) →
    specifiers o (leaf (kind.Mark mark.Struct) p ∷ leaf (kind.Mark mark.OpenBrace) q ∷ m) ≡ members (λ ds. add_specifier o (StructBody p None q ds)) no_declarations m
unfolding is
plain_struct_goes o p q m = refl

pub members_end : (f : DeclarationTrees → SpecifierTrees) (ds : DeclarationTrees) (m : List Part) → members f ds (leaf (kind.Mark mark.CloseBrace) nowhere ∷ m) ≡ specifiers (Some (f ds)) m
unfolding is
members_end f ds m = refl

pub enum_goes : (o : Option SpecifierTrees) (p : Place) (t : Tag) (m : List Part) → heads mark.OpenBrace m ≡ false →
    specifiers o (leaf (kind.Mark mark.Enum) p ∷ leaf (kind.Word t.name) t.place ∷ m) ≡ specifiers (Some (add_specifier o (Enum p t))) m
unfolding is
enum_goes o p t m e = rw e refl

pub enum_body_goes : (o : Option SpecifierTrees) (p : Place) (t : Tag) (q : Place) (m : List Part) →
    specifiers o (leaf (kind.Mark mark.Enum) p ∷ leaf (kind.Word t.name) t.place ∷ leaf (kind.Mark mark.OpenBrace) q ∷ m) ≡ enumerators (λ es b. add_specifier o (EnumBody p (Some t) q es b)) None m
unfolding is
enum_body_goes o p t q m = refl

pub plain_enum_goes : (o : Option SpecifierTrees) (p q : Place) (m : List Part) →
    specifiers o (leaf (kind.Mark mark.Enum) p ∷ leaf (kind.Mark mark.OpenBrace) q ∷ m) ≡ enumerators (λ es b. add_specifier o (EnumBody p None q es b)) None m
unfolding is
plain_enum_goes o p q m = refl

pub plain_enumerator_goes : (f : EnumeratorTrees → Bool → SpecifierTrees) (o : Option EnumeratorTrees) (n : ℕ) (p : Place) (m : List Part) → heads mark.Equal m ≡ false →
    enumerators f o (leaf (kind.Word n) p ∷ m) ≡ behind_enumerator f (add_enumerator o (Plain n p)) m
plain_enumerator_goes f o n p m e = rw e refl

pub valued_goes : {r : Tree} {e : ExprTree} (f : EnumeratorTrees → Bool → SpecifierTrees) (o : Option EnumeratorTrees) (n : ℕ) (p q : Place) → Whole expr_of r e → (m : List Part) →
    enumerators f o (leaf (kind.Word n) p ∷ leaf (kind.Mark mark.Equal) q ∷ node (built (parts_of r)) ∷ m) ≡ behind_enumerator f (add_enumerator o (Valued n p q e)) m
unfolding is
valued_goes f o n p q j m = with (λ e. behind_enumerator f (add_enumerator o (Valued n p q e)) m) j

pub enumerator_comma : (f : EnumeratorTrees → Bool → SpecifierTrees) (es : EnumeratorTrees) (m : List Part) → heads mark.CloseBrace m ≡ false →
    behind_enumerator f es (leaf (kind.Mark mark.Comma) nowhere ∷ m) ≡ enumerators f (Some es) m
unfolding is
enumerator_comma f es m e = rw e refl

pub enumerators_end : (f : EnumeratorTrees → Bool → SpecifierTrees) (es : EnumeratorTrees) (m : List Part) → behind_enumerator f es (leaf (kind.Mark mark.CloseBrace) nowhere ∷ m) ≡ specifiers (Some (f es false)) m
unfolding is
enumerators_end f es m = refl

pub enumerators_last : (f : EnumeratorTrees → Bool → SpecifierTrees) (es : EnumeratorTrees) (m : List Part) →
    behind_enumerator f es (leaf (kind.Mark mark.Comma) nowhere ∷ leaf (kind.Mark mark.CloseBrace) nowhere ∷ m) ≡ specifiers (Some (f es true)) m
unfolding is
enumerators_last f es m = refl

-- ---- declarators

-- behind pointers
abbrev pub pointed : List Pointer × List Part → Option DeclaratorTree
pointed x = declarator_behind x.0 x.1

plain_pointer_goes : (qs : List Pointer) (p : Place) (m : List Part) → heads mark.Const m ≡ false → pointed (pointers qs (leaf (kind.Mark mark.Star) p ∷ m)) ≡ pointed (pointers (qs ++ (pointer.Plain p ∷ [])) m)
unfolding is
plain_pointer_goes qs p m e = rw e refl

pub pointers_go : {r : Tree} (qs ps : List Pointer) → RunsIf (heads mark.Const) declarator_of r (λ m. pointed (pointers qs m)) → RunsIf (heads mark.Const) declarator_of (pointers_onto r ps) (λ m. pointed (pointers (qs ++ ps) m))
unfolding is
pointers_go {r = r} qs [] i = record { goes = λ m d. i.goes m d ∙ ap (λ x. pointed (pointers x m)) (sym (nil_right qs)) }
  where
    nil_right : (xs : List Pointer) → xs ++ [] ≡ xs
    nil_right [] = refl
    nil_right (x ∷ xs) = ap (λ y. x ∷ y) (nil_right xs)
pointers_go qs (pointer.Plain p ∷ ps) i =
    let step : RunsIf (heads mark.Const) declarator_of (pointer_onto _ (pointer.Plain p)) (λ m. pointed (pointers (qs ++ (pointer.Plain p ∷ [])) m)) =
    record { goes = λ m d. i.goes (leaf (kind.Mark mark.Star) p ∷ m) refl ∙ plain_pointer_goes qs p m d } in
    let more = pointers_go (qs ++ (pointer.Plain p ∷ [])) ps step in
    record { goes = λ m d. more.goes m d ∙ ap (λ x. pointed (pointers x m)) (append_assoc qs (pointer.Plain p ∷ []) ps) }
pointers_go qs (pointer.Const p q ∷ ps) i =
    let step : RunsIf (heads mark.Const) declarator_of (pointer_onto _ (pointer.Const p q)) (λ m. pointed (pointers (qs ++ (pointer.Const p q ∷ [])) m)) =
    record { goes = λ m d. i.goes (leaf (kind.Mark mark.Star) p ∷ leaf (kind.Mark mark.Const) q ∷ m) refl } in
    let more = pointers_go (qs ++ (pointer.Const p q ∷ [])) ps step in
    record { goes = λ m d. more.goes m d ∙ ap (λ x. pointed (pointers x m)) (append_assoc qs (pointer.Const p q ∷ []) ps) }

-- behind the core and these suffixes
abbrev pub suffixed : List Pointer → CoreTree → SuffixTrees → List Part → Option DeclaratorTree
suffixed qs c xs m = and_then (suffixes xs m) (λ ys. Some (Declarator qs c ys))

-- whether no suffix stands next
abbrev pub no_suffix_next : List Part → Bool
no_suffix_next [] = false
no_suffix_next (leaf k p ∷ leaf l q ∷ m) = not (is mark.OpenBracket k || is mark.OpenParenthesis k)
no_suffix_next (leaf k p ∷ node c ∷ m) = not (is mark.OpenBracket k || (is mark.OpenParenthesis k && c.typed))
no_suffix_next m = true

pub named_goes : (qs : List Pointer) (n : ℕ) (p : Place) (m : List Part) → pointed (pointers qs (leaf (kind.Word n) p ∷ m)) ≡ suffixed qs (Named n p) no_suffixes m
unfolding is
named_goes qs n p m = refl

pub group_goes : {r : Tree} {d : DeclaratorTree} (qs : List Pointer) (p : Place) → Whole declarator_of r d → (m : List Part) →
    pointed (pointers qs (leaf (kind.Mark mark.OpenParenthesis) p ∷ node (built (parts_of r)) ∷ leaf (kind.Mark mark.CloseParenthesis) nowhere ∷ m)) ≡ suffixed qs (Group p d) no_suffixes m
unfolding is
group_goes {r = r} {d = d} qs p j m =
    rw (untyped_declarator (parts_of r) d j.is_whole) rw j.is_whole refl

bracket_next : (qs : List Pointer) (p : Place) (m : List Part) → pointed (pointers qs (leaf (kind.Mark mark.OpenBracket) p ∷ m)) ≡ suffixed qs Absent no_suffixes (leaf (kind.Mark mark.OpenBracket) p ∷ m)
unfolding is
bracket_next qs p [] = refl
bracket_next qs p (leaf k q ∷ m) = refl
bracket_next qs p (node c ∷ m) = refl

absent_before : (qs : List Pointer) (m : List Part) → no_suffix_next m ≡ false → pointed (pointers qs m) ≡ suffixed qs Absent no_suffixes m
unfolding is
absent_before qs [] e = refl
absent_before qs (leaf (kind.Mark mark.OpenBracket) p ∷ m) e = bracket_next qs p m
absent_before qs (leaf (kind.Mark mark.OpenParenthesis) p ∷ leaf l q ∷ m) e = refl
absent_before qs (leaf (kind.Mark mark.OpenParenthesis) p ∷ node c ∷ m) e = go c.typed e
  where
    go : (b : Bool) → not b ≡ false → and_then (cond (not b) (group p c m) (Some (Absent, leaf (kind.Mark mark.OpenParenthesis) p ∷ node c ∷ m))) (λ x. and_then (suffixes no_suffixes x.1) (λ xs. Some (Declarator qs x.0 xs)))
        ≡ suffixed qs Absent no_suffixes (leaf (kind.Mark mark.OpenParenthesis) p ∷ node c ∷ m)
    go true f = refl
    go false f = absurd (cc)
absent_before qs (leaf (kind.Mark k) p ∷ leaf l q ∷ m) e = absurd (cc)
absent_before qs (leaf (kind.Mark k) p ∷ node c ∷ m) e = absurd (cc)
absent_before qs (leaf k p ∷ leaf l q ∷ m) e = absurd (cc)
absent_before qs (leaf k p ∷ node c ∷ m) e = absurd (cc)
absent_before qs m e = absurd (cc)

pub absent_goes : {r : Tree} (qs : List Pointer) → RunsIf (heads mark.Const) declarator_of r (λ m. pointed (pointers qs m)) → RunsIf no_suffix_next declarator_of r (suffixed qs Absent no_suffixes)
unfolding is
absent_goes qs i = record { goes = λ m d. i.goes m (no_const m d) ∙ absent_before qs m d }
  where
    no_const : (m : List Part) → no_suffix_next m ≡ false → heads mark.Const m ≡ false
    no_const [] e = refl
    no_const (leaf (kind.Mark mark.Const) p ∷ leaf l q ∷ m) e = absurd (cc)
    no_const (leaf (kind.Mark mark.Const) p ∷ node c ∷ m) e = absurd (cc)
    no_const (leaf (kind.Mark mark.Const) p ∷ []) e = absurd (cc)
    no_const (leaf (kind.Mark k) p ∷ m) e = refl
    no_const m e = refl

pub array_goes : (qs : List Pointer) (c : CoreTree) (xs : SuffixTrees) (p : Place) (m : List Part) →
    suffixed qs c xs (leaf (kind.Mark mark.OpenBracket) p ∷ leaf (kind.Mark mark.CloseBracket) nowhere ∷ m) ≡ suffixed qs c (and_suffix xs (Array p)) m
unfolding is
array_goes qs c xs p m = refl

pub array_of_goes : {r : Tree} {e : ExprTree} (qs : List Pointer) (c : CoreTree) (xs : SuffixTrees) (p : Place) → Whole expr_of r e → (m : List Part) →
    suffixed qs c xs (leaf (kind.Mark mark.OpenBracket) p ∷ node (built (parts_of r)) ∷ leaf (kind.Mark mark.CloseBracket) nowhere ∷ m) ≡ suffixed qs c (and_suffix xs (ArrayOf p e)) m
unfolding is
array_of_goes qs c xs p j m = rw j.is_whole refl

-- behind the `(` and these parameters
abbrev pub listed : List Pointer → CoreTree → SuffixTrees → Place → ParameterTrees → List Part → Option DeclaratorTree
listed qs c xs p no_parameters m = suffixed qs c xs (leaf (kind.Mark mark.OpenParenthesis) p ∷ m)
listed qs c xs p (and_parameter ts t) m = and_then (behind_parameter xs p (and_parameter ts t) m) (λ ys. Some (Declarator qs c ys))

pub first_parameter_goes : {r : Tree} {t : ParameterTree} (qs : List Pointer) (c : CoreTree) (xs : SuffixTrees) (p : Place) → Whole parameter_of r t → (m : List Part) →
    listed qs c xs p no_parameters (node (built (parts_of r)) ∷ m) ≡ listed qs c xs p (and_parameter no_parameters t) m
unfolding is
first_parameter_goes qs c xs p j m = rw j.is_whole refl

pub parameter_goes : {r : Tree} {t : ParameterTree} (qs : List Pointer) (c : CoreTree) (xs : SuffixTrees) (p : Place) (ts : ParameterTrees) (u : ParameterTree) → Whole parameter_of r t → (m : List Part) →
    listed qs c xs p (and_parameter ts u) (leaf (kind.Mark mark.Comma) nowhere ∷ node (built (parts_of r)) ∷ m) ≡ listed qs c xs p (and_parameter (and_parameter ts u) t) m
unfolding is
parameter_goes qs c xs p ts u j m = rw j.is_whole refl

pub parameters_end : (qs : List Pointer) (c : CoreTree) (xs : SuffixTrees) (p : Place) (ts : ParameterTrees) (m : List Part) →
    listed qs c xs p ts (leaf (kind.Mark mark.CloseParenthesis) nowhere ∷ m) ≡ suffixed qs c (and_suffix xs (Parameters p ts)) m
unfolding is
parameters_end qs c xs p no_parameters m = refl
parameters_end qs c xs p (and_parameter ts t) m = refl

-- a parameter's node begins no group
pub typed_next : {r : Tree} {t : ParameterTree} (p : Place) → Whole parameter_of r t → (m : List Part) → no_suffix_next (leaf (kind.Mark mark.OpenParenthesis) p ∷ node (built (parts_of r)) ∷ m) ≡ false
unfolding is
typed_next {r = r} {t = t} p j m = rw (typed_parameter (parts_of r) t j.is_whole) refl

-- ---- initialisers

pub item_goes : {r : Tree} {n : InitialiserTree} (p : Place) → Whole initialiser_of r n → (m : List Part) → initialiser_of (leaf (kind.Mark mark.OpenBrace) p ∷ node (built (parts_of r)) ∷ m) ≡ behind_item p (first_initialiser n) m
unfolding is
item_goes p j m = rw j.is_whole refl

pub next_item_goes : {r : Tree} {n : InitialiserTree} (p : Place) (ns : InitialiserTrees) → Whole initialiser_of r n → (m : List Part) →
    behind_item p ns (leaf (kind.Mark mark.Comma) nowhere ∷ node (built (parts_of r)) ∷ m) ≡ behind_item p (and_initialiser ns n) m
unfolding is
next_item_goes p ns j m = rw j.is_whole refl

pub braces_end : (p : Place) (ns : InitialiserTrees) (m : List Part) → behind_item p ns (leaf (kind.Mark mark.CloseBrace) nowhere ∷ m) ≡ only m (Braced p ns false)
unfolding is
braces_end p ns m = refl

pub braces_last : (p : Place) (ns : InitialiserTrees) (m : List Part) → behind_item p ns (leaf (kind.Mark mark.Comma) nowhere ∷ leaf (kind.Mark mark.CloseBrace) nowhere ∷ m) ≡ only m (Braced p ns true)
unfolding is
braces_last p ns m = refl
