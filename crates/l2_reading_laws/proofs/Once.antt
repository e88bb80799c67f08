-- Reading an expression comes to one end.
use Rattle.std.proofs.Common.{◌≡◌, ◌≤◌, ◌<◌, ◌-◌, ℕ, Option, List, [], ◌∷◌, drop, length, Some, refl, sym, ap, ◌∙◌, arith}
use Rattle.std.proofs.lemmas.List.{length-map, length-drop}
use Rattle.std.proofs.Math.ListN.{drop_of_length-le}
use native.Mathlib.Decide.{ℕ_discrete, dec_lt}
use Rattle.l2_syntax.specs.declared.token.Token.{Token}
use Rattle.l2_syntax.specs.declared.refusal.Rule.{Rule as RefusalRule}
use Rattle.l2_syntax.specs.declared.refusal.Rule.TheVariants as rule
use Rattle.l2_syntax.specs.declared.refusal.Refusal.{Refusal}
use Rattle.l2_grammar.specs.Trees.{Seen, Tree}
use Rattle.l2_grammar.specs.Limits.{Rule, nesting, syntax}
use Rattle.l2_grammar.specs.Expressions.{sort_at, Expressed, Whole, Broken, ExpressionLaw, ExpressionNestingLaw, ExpressionSyntaxLaw}
use Rattle.l2_tree.specs.Spelling.{plain, run_expr}
use Rattle.l2_tree.specs.Build.{expr_of, parts_of}
use Rattle.l2_tree_laws.specs.Law.{ExpressionBackLaw}
use Rattle.l2_parse_unit.specs.Reading.{kept}
use Rattle.l2_parse_expr.specs.Reading.{kept_from, nested, stopped, lexical, ended}
use Rattle.l2_reading_laws.specs.Law.{UniqueExpressionRefusalLaw, ExpressionRefusedLaw, ExpressionReadLaw}

-- ---- the token at which a rest begins

apart : (n i j : ℕ) → n - i ≡ n - j → (i ≡ j → ⊥) → n ≤ i
apart n i j e ne = go (dec_lt i n)
  where
    go : Dec (i < n) → n ≤ i
    go (yes h) = absurd (ne (omega arith))
    go (no h) = omega arith

drop_same : (i j : ℕ) (xs : List Token) → length (drop i xs) ≡ length (drop j xs) → drop i xs ≡ drop j xs
drop_same i j xs e = go (ℕ_discrete i j)
  where
    f : length xs - i ≡ length xs - j
    f = sym (length-drop i xs) ∙ e ∙ length-drop j xs

    go : Dec (i ≡ j) → drop i xs ≡ drop j xs
    go (yes h) = ap (λ k. drop k xs) h
    go (no h) = drop_of_length-le xs (apart (length xs) i j f h) ∙ sym (drop_of_length-le xs (apart (length xs) j i (sym f) (λ k. h (sym k))))

kept_length : (xs : List Token) → length (kept xs) ≡ length xs
kept_length xs = length-map xs (λ t. plain (record { kind = t.kind; at = t.place }))

refused_at : Token → RefusalRule → Refusal
refused_at t q = record { place = t.place; rule = q }

abbrev first_of : Token → List Token → Token
first_of d [] = d
first_of d (t ∷ ts) = t

same_place : (xs : List Token) (i j : ℕ) (t s : Token) (a b : List Token) → drop i xs ≡ t ∷ a → drop j xs ≡ s ∷ b → kept_from i xs ≡ kept_from j xs → t ≡ s
same_place xs i j t s a b e f h =
    let g = drop_same i j xs (sym (kept_length (drop i xs)) ∙ ap length h ∙ kept_length (drop j xs)) in
    ap (first_of t) (sym e ∙ g ∙ f)

not_nothing : {A : Type 0} (xs : List Token) (i : ℕ) (t : Token) (a : List Token) → drop i xs ≡ t ∷ a → kept_from i xs ≡ [] → A
not_nothing xs i t a e f = absurd (go (drop i xs) e f)
  where
    go : (ys : List Token) → ys ≡ t ∷ a → kept ys ≡ [] → ⊥
    go [] g h = cc
    go (y ∷ ys) g h = cc

-- ---- refusals

abbrev rest_of : Expressed → List Seen
rest_of (Whole r ts) = ts
rest_of (Broken q ts) = ts

abbrev is_nesting : Expressed → Rule → Rule
is_nesting (Whole r ts) d = d
is_nesting (Broken q ts) d = q

one_rest : (x : Expressed) (p q : Rule) (a b : List Seen) → x ≡ Broken p a → x ≡ Broken q b → a ≡ b
one_rest x p q a b e f = sym (ap rest_of e) ∙ ap rest_of f

never_both : {A : Type 0} (x : Expressed) (a b : List Seen) → x ≡ Broken nesting a → x ≡ Broken syntax b → A
never_both x a b e f = absurd (cc)

pub once : ExpressionNestingLaw → ExpressionSyntaxLaw → UniqueExpressionRefusalLaw
unfolding refused_at
once deep broken l n r at f g (nested i t a e x) (nested j s b h y) =
    ap (λ z. refused_at z rule.Nesting) (same_place r.list i j t s a b e h (one_rest _ nesting nesting _ _ ((deep l n (kept_from at r.list) (kept_from i r.list)).1 x) ((deep l n (kept_from at r.list) (kept_from j r.list)).1 y)))
once deep broken l n r at f g (nested i t a e x) (stopped j s b h y) = never_both _ _ _ ((deep l n (kept_from at r.list) (kept_from i r.list)).1 x) ((broken l n (kept_from at r.list) (kept_from j r.list)).1 y)
once deep broken l n r at f g (nested i t a e x) (lexical k h y) = never_both _ _ _ ((deep l n (kept_from at r.list) (kept_from i r.list)).1 x) ((broken l n (kept_from at r.list) []).1 y)
once deep broken l n r at f g (nested i t a e x) (ended h y) = never_both _ _ _ ((deep l n (kept_from at r.list) (kept_from i r.list)).1 x) ((broken l n (kept_from at r.list) []).1 y)
once deep broken l n r at f g (stopped i t a e x) (nested j s b h y) = never_both _ _ _ ((deep l n (kept_from at r.list) (kept_from j r.list)).1 y) ((broken l n (kept_from at r.list) (kept_from i r.list)).1 x)
once deep broken l n r at f g (stopped i t a e x) (stopped j s b h y) =
    ap (λ z. refused_at z rule.Syntax) (same_place r.list i j t s a b e h (one_rest _ syntax syntax _ _ ((broken l n (kept_from at r.list) (kept_from i r.list)).1 x) ((broken l n (kept_from at r.list) (kept_from j r.list)).1 y)))
once deep broken l n r at f g (stopped i t a e x) (lexical k h y) = not_nothing r.list i t a e (one_rest _ syntax syntax _ _ ((broken l n (kept_from at r.list) (kept_from i r.list)).1 x) ((broken l n (kept_from at r.list) []).1 y))
once deep broken l n r at f g (stopped i t a e x) (ended h y) = not_nothing r.list i t a e (one_rest _ syntax syntax _ _ ((broken l n (kept_from at r.list) (kept_from i r.list)).1 x) ((broken l n (kept_from at r.list) []).1 y))
once deep broken l n r at f g (lexical k h y) (nested j s b e x) = never_both _ _ _ ((deep l n (kept_from at r.list) (kept_from j r.list)).1 x) ((broken l n (kept_from at r.list) []).1 y)
once deep broken l n r at f g (lexical k h y) (stopped i t a e x) = not_nothing r.list i t a e (one_rest _ syntax syntax _ _ ((broken l n (kept_from at r.list) (kept_from i r.list)).1 x) ((broken l n (kept_from at r.list) []).1 y))
once deep broken l n r at f g (lexical k h y) (lexical m i z) = cc
once deep broken l n r at f g (lexical k h y) (ended i z) = absurd (cc)
once deep broken l n r at f g (ended h y) (nested j s b e x) = never_both _ _ _ ((deep l n (kept_from at r.list) (kept_from j r.list)).1 x) ((broken l n (kept_from at r.list) []).1 y)
once deep broken l n r at f g (ended h y) (stopped i t a e x) = not_nothing r.list i t a e (one_rest _ syntax syntax _ _ ((broken l n (kept_from at r.list) (kept_from i r.list)).1 x) ((broken l n (kept_from at r.list) []).1 y))
once deep broken l n r at f g (ended h y) (lexical m i z) = absurd (cc)
once deep broken l n r at f g (ended h y) (ended i z) = refl

-- ---- what is read

whole_only : {A : Type 0} (x : Expressed) (r : Tree) (a b : List Seen) (q : Rule) → x ≡ Whole r a → x ≡ Broken q b → A
whole_only x r a b q e f = absurd (cc)

pub not_refused : ExpressionLaw → ExpressionNestingLaw → ExpressionSyntaxLaw → ExpressionRefusedLaw
not_refused whole deep broken l n r at e end f x (nested i t a h y) = whole_only _ _ _ _ nesting ((whole l n (kept_from at r.list) (run_expr (sort_at l) e) (kept_from end r.list)).1 x) ((deep l n (kept_from at r.list) (kept_from i r.list)).1 y)
not_refused whole deep broken l n r at e end f x (stopped i t a h y) = whole_only _ _ _ _ syntax ((whole l n (kept_from at r.list) (run_expr (sort_at l) e) (kept_from end r.list)).1 x) ((broken l n (kept_from at r.list) (kept_from i r.list)).1 y)
not_refused whole deep broken l n r at e end f x (lexical k h y) = whole_only _ _ _ _ syntax ((whole l n (kept_from at r.list) (run_expr (sort_at l) e) (kept_from end r.list)).1 x) ((broken l n (kept_from at r.list) []).1 y)
not_refused whole deep broken l n r at e end f x (ended h y) = whole_only _ _ _ _ syntax ((whole l n (kept_from at r.list) (run_expr (sort_at l) e) (kept_from end r.list)).1 x) ((broken l n (kept_from at r.list) []).1 y)

abbrev tree_in : Tree → Expressed → Tree
tree_in d (Whole r ts) = r
tree_in d (Broken q ts) = d

some_same : {A : Type 0} (x : Option A) (a b : A) → x ≡ Some a → x ≡ Some b → a ≡ b
some_same x a b e f = cc

pub read_once : ExpressionLaw → ExpressionBackLaw → ExpressionReadLaw
read_once whole back l n tokens at e d i j x y =
    let f = (whole l n (kept_from at tokens) (run_expr (sort_at l) e) (kept_from i tokens)).1 x in let g = (whole l n (kept_from at tokens) (run_expr (sort_at l) d) (kept_from j tokens)).1 y in
    let h : run_expr (sort_at l) e ≡ run_expr (sort_at l) d = sym (ap (tree_in (run_expr (sort_at l) e)) f) ∙ ap (tree_in (run_expr (sort_at l) e)) g in
    (some_same (expr_of (parts_of (run_expr (sort_at l) e))) e d (back (sort_at l) e) (ap (λ z. expr_of (parts_of z)) h ∙ back (sort_at l) d), sym (ap rest_of f) ∙ ap rest_of g)
