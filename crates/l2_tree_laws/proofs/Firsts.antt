-- What a construct begins with says what it is.
use Rattle.std.proofs.Common.{◌≡◌, refl, ◌∙◌, ap, sym, Bool, true, false, cond, ◌&&◌, List, [], ◌∷◌, Option, None, Some}
use Rattle.l2_syntax.specs.declared.place.Place.{Place}
use Rattle.l2_syntax.specs.declared.token.Mark.{Mark}
use Rattle.l2_syntax.specs.declared.token.Mark.TheVariants as mark
use Rattle.l2_syntax.specs.declared.token.TokenKind.{TokenKind}
use Rattle.l2_syntax.specs.declared.token.TokenKind.TheVariants as kind
use Rattle.l2_grammar.specs.Marks.{is}
use Rattle.l2_tree.specs.declared.starts.Opening.{Opening}
use Rattle.l2_tree.specs.Trees.{ExprTree, Parenthesised, SpecifierTrees, ParameterTree, Absent, no_suffixes, DeclaratorTree, Expression}
use Rattle.l2_tree.specs.Build.{Built, Part, leaf, node, and_then, opening_mark, opening_of, is_specifier_mark, is_specifier, specifies, expr_of, opened, cast, brackets, specifiers, parameter_of, parameter_behind, core, suffixes, declarator_of, initialiser_of}

-- ---- options

pub some_of : {A B : Type 0} (o : Option A) (f : A → Option B) (y : B) → and_then o f ≡ Some y → (x : A) × (o ≡ Some x) × (f x ≡ Some y)
some_of None f y e = absurd (cc)
some_of (Some x) f y e = (x, refl, e)

pub not_some : {A : Type 0} {x : A} → None ≡ Some x → ⊥
not_some e = cc

-- ---- first tokens

opens_no_specifier : (m : Mark) (o : Opening) → opening_mark m ≡ Some o → is_specifier_mark m ≡ false
opens_no_specifier mark.OpenBracket o e = refl
opens_no_specifier m o e = cc

opens_plainly : (k : TokenKind) (o : Opening) → opening_of k ≡ Some o → is_specifier k ≡ false
opens_plainly (kind.TypeName n) o e = absurd (not_some e)
opens_plainly (kind.Mark m) o e = opens_no_specifier m o e
opens_plainly k o e = refl

-- an expression begins with no specifier
pub untyped : (ps : List Part) (a : ExprTree) → expr_of ps ≡ Some a → specifies ps ≡ false
untyped [] a e = refl
untyped (node c ∷ ps) a e = refl
untyped (leaf k p ∷ ps) a e = let x = some_of (opening_of k) (λ o. opened o p ps) a e in opens_plainly k x.0 x.1

specified : (k : TokenKind) (p : Place) (ps : List Part) (x : SpecifierTrees × List Part) → specifiers None (leaf k p ∷ ps) ≡ Some x → is_specifier k ≡ true
unfolding is
specified (kind.TypeName n) p ps x e = refl
specified (kind.Mark mark.Struct) p ps x e = refl
specified (kind.Mark mark.Enum) p ps x e = refl
specified (kind.Mark m) p ps x e = cc
specified k p ps x e = absurd (not_some e)

-- specifiers begin with one
pub typed : (ps : List Part) (x : SpecifierTrees × List Part) → specifiers None ps ≡ Some x → specifies ps ≡ true
typed [] x e = absurd (not_some e)
typed (node c ∷ ps) x e = absurd (not_some e)
typed (leaf k p ∷ ps) x e = specified k p ps x e

pub typed_parameter : (ps : List Part) (t : ParameterTree) → parameter_of ps ≡ Some t → specifies ps ≡ true
typed_parameter ps t e = let x = some_of (specifiers None ps) (λ f. parameter_behind f.0 f.1) t e in typed ps x.0 x.1

-- a specifier begins no declarator
no_star_mark : (m : Mark) → is_specifier_mark m ≡ true → is mark.Star (kind.Mark m) ≡ false
unfolding is
no_star_mark mark.Arrow e = refl
no_star_mark m e = cc

no_star : (k : TokenKind) → is_specifier k ≡ true → is mark.Star k ≡ false
unfolding is
no_star (kind.Mark m) e = no_star_mark m e
no_star k e = refl

no_parenthesis_mark : (m : Mark) → is_specifier_mark m ≡ true → is mark.OpenParenthesis (kind.Mark m) ≡ false
unfolding is
no_parenthesis_mark mark.Arrow e = refl
no_parenthesis_mark m e = cc

no_parenthesis : (k : TokenKind) → is_specifier k ≡ true → is mark.OpenParenthesis k ≡ false
unfolding is
no_parenthesis (kind.Mark m) e = no_parenthesis_mark m e
no_parenthesis k e = refl

no_bracket_mark : (m : Mark) → is_specifier_mark m ≡ true → is mark.OpenBracket (kind.Mark m) ≡ false
unfolding is
no_bracket_mark mark.Arrow e = refl
no_bracket_mark m e = cc

no_bracket : (k : TokenKind) → is_specifier k ≡ true → is mark.OpenBracket k ≡ false
unfolding is
no_bracket (kind.Mark m) e = no_bracket_mark m e
no_bracket k e = refl

no_suffix : (k : TokenKind) (p : Place) (ps : List Part) → is_specifier k ≡ true → suffixes no_suffixes (leaf k p ∷ ps) ≡ None
no_suffix k p ps e = rw (no_bracket k e) rw (no_parenthesis k e) refl

no_core : (k : TokenKind) (p : Place) (ps : List Part) → is_specifier k ≡ true → core (leaf k p ∷ ps) ≡ Some (Absent, leaf k p ∷ ps)
no_core (kind.Word n) p ps e = absurd (cc)
no_core k p (node c ∷ ps) e = rw (no_parenthesis k e) refl
no_core k p ps e = refl

pub no_declarator : (ps : List Part) → specifies ps ≡ true → declarator_of ps ≡ None
no_declarator [] e = absurd (cc)
no_declarator (node c ∷ ps) e = absurd (cc)
no_declarator (leaf k p ∷ ps) e = rw (no_star k e) rw (no_core k p ps e) rw (no_suffix k p ps e) refl

pub untyped_declarator : (ps : List Part) (d : DeclaratorTree) → declarator_of ps ≡ Some d → specifies ps ≡ false
untyped_declarator ps d e = go (specifies ps) refl
  where
    go : (b : Bool) → specifies ps ≡ b → b ≡ false
    go false f = refl
    go true f = absurd (not_some (sym (no_declarator ps f) ∙ e))

-- ---- the name of a type in parentheses is no expression

bracketed_none : (k l : TokenKind) (p q : Place) (c : Built) → (is mark.OpenParenthesis k && (is mark.CloseParenthesis l && c.typed)) ≡ true → expr_of (leaf k p ∷ node c ∷ leaf l q ∷ []) ≡ None
unfolding is
bracketed_none (kind.Mark mark.OpenParenthesis) l p q c e = go (is mark.CloseParenthesis l) c.typed e
  where
    go : (b d : Bool) → (b && d) ≡ true → cond b (cond d (cast p c.parameter []) (and_then c.expr (λ a. Some (Parenthesised p a)))) None ≡ None
    go true true f = refl
    go true false f = absurd (cc)
    go false d f = refl
bracketed_none (kind.Mark m) l p q c e = absurd (cc)
bracketed_none k l p q c e = absurd (cc)

pub brackets_none : (ps : List Part) → brackets ps ≡ true → expr_of ps ≡ None
brackets_none (leaf k p ∷ node c ∷ leaf l q ∷ []) e = bracketed_none k l p q c e
brackets_none ps e = absurd (cc)

pub unbracketed : (ps : List Part) (a : ExprTree) → expr_of ps ≡ Some a → brackets ps ≡ false
unbracketed ps a e = go (brackets ps) refl
  where
    go : (b : Bool) → brackets ps ≡ b → b ≡ false
    go false f = refl
    go true f = absurd (not_some (sym (brackets_none ps f) ∙ e))

-- ---- an expression begins no braces

opens_no_brace_mark : (m : Mark) (o : Opening) → opening_mark m ≡ Some o → is mark.OpenBrace (kind.Mark m) ≡ false
unfolding is
opens_no_brace_mark mark.Arrow o e = refl
opens_no_brace_mark m o e = cc

opens_no_brace : (k : TokenKind) (o : Opening) → opening_of k ≡ Some o → is mark.OpenBrace k ≡ false
unfolding is
opens_no_brace (kind.Mark m) o e = opens_no_brace_mark m o e
opens_no_brace k o e = refl

pub initialiser_expr : (ps : List Part) (a : ExprTree) → expr_of ps ≡ Some a → initialiser_of ps ≡ Some (Expression a)
initialiser_expr [] a e = absurd (not_some e)
initialiser_expr (node c ∷ ps) a e = absurd (not_some e)
initialiser_expr (leaf k p ∷ ps) a e =
    let x = some_of (opening_of k) (λ o. opened o p ps) a e in
    rw (opens_no_brace k x.0 x.1) (ap (λ y. and_then y (λ b. Some (Expression b))) e)
