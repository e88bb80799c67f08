-- The last part of a construct.
use Rattle.std.proofs.Common.{◌≡◌, ◌≤◌, ◌<◌, ℕ, ◌+◌, ◌-◌, Bool, true, false, cond, List, [], ◌∷◌, ◌++◌, Some, None, length, take, get_or, refl, ap, sym, ◌∙◌, arith}
use Rattle.std.proofs.lemmas.List.{at_drop_more, take-append-drop, drop_all}
use Rattle.std.specs.declared.vec.Vec.{Vec}
use Rattle.std.specs.declared.alloc.Global.{Global}
use Rattle.l2_syntax.specs.declared.place.Place.{Place}
use Rattle.l2_syntax.specs.declared.token.Mark.TheVariants as mark
use Rattle.l2_syntax.specs.declared.token.TokenKind.{TokenKind}
use Rattle.l2_syntax.specs.declared.token.Token.{Token}
use Rattle.l2_grammar.specs.Marks.{is}
use Rattle.l2_grammar.specs.declared.states.Sort.{Sort}
use Rattle.l2_reader.specs.declared.syntax.Syntax as syntax
use Rattle.l2_reader.specs.declared.syntax.Syntax.{Syntax}
use Rattle.l2_tree.specs.Build.{Part, Built, leaf, node, built, and_then, on_mark, before_semicolon}
use Rattle.l2_build.specs.Parts.{part, parts_of}
use Rattle.l2_build.proofs.Nodes.{construct_part}

before_cons : (q r : Part) (ps : List Part) → before_semicolon (q ∷ r ∷ ps) ≡ and_then (before_semicolon (r ∷ ps)) (λ qs. Some (q ∷ qs))
before_cons (leaf k p) r ps = refl
before_cons (node c) r ps = refl

marked : (b : Bool) (q : Part) (ps : List Part) → and_then (cond b (Some ps) None) (λ qs. Some (q ∷ qs)) ≡ cond b (Some (q ∷ ps)) None
marked true q ps = refl
marked false q ps = refl

last_leaf : (ps : List Part) (k : TokenKind) (p : Place) → before_semicolon (ps ++ (leaf k p ∷ [])) ≡ on_mark mark.Semicolon k (Some ps)
last_leaf [] k p = refl
last_leaf (q ∷ []) k p = before_cons q (leaf k p) [] ∙ marked (is mark.Semicolon k) q []
last_leaf (q ∷ r ∷ ps) k p = before_cons q r (ps ++ (leaf k p ∷ [])) ∙ ap (λ o. and_then o (λ qs. Some (q ∷ qs))) (last_leaf (r ∷ ps) k p) ∙ marked (is mark.Semicolon k) q (r ∷ ps)

last_node : (ps : List Part) (c : Built) → before_semicolon (ps ++ (node c ∷ [])) ≡ None
last_node [] c = refl
last_node (q ∷ []) c = before_cons q (node c) []
last_node (q ∷ r ∷ ps) c = before_cons q r (ps ++ (node c ∷ [])) ∙ ap (λ o. and_then o (λ qs. Some (q ∷ qs))) (last_node (r ∷ ps) c)

parts_more : (xs : List Syntax) (x : Syntax) → parts_of (xs ++ (x ∷ [])) ≡ parts_of xs ++ (part x ∷ [])
parts_more [] x = refl
parts_more (y ∷ xs) x = ap (λ ps. part y ∷ ps) (parts_more xs x)

all_but_last : (xs : List Syntax) (n : ℕ) (x : Syntax) → 1 ≤ length xs → n ≡ length xs - 1 → x ≡ get_or xs n x → parts_of xs ≡ parts_of (take n xs) ++ (part x ∷ [])
all_but_last xs n x h m e =
    let l : n < length xs = omega arith in
    let k : length xs ≤ n + 1 = omega arith in
    ap parts_of (sym (take-append-drop n xs) ∙ at_drop_more (λ ys. take n xs ++ ys) xs n x l ∙ ap (λ ys. take n xs ++ (get_or xs n x ∷ ys)) (drop_all (n + 1) xs k) ∙ ap (λ y. take n xs ++ (y ∷ [])) (sym e))
    ∙ parts_more (take n xs) x

pub ends_token : (xs : List Syntax) (n : ℕ) (x : Syntax) (t : Token) → 1 ≤ length xs → n ≡ length xs - 1 → x ≡ get_or xs n x → x ≡ syntax.Token t → before_semicolon (parts_of xs) ≡ on_mark mark.Semicolon t.kind (Some (parts_of (take n xs)))
ends_token xs n x t h m e d = ap before_semicolon (all_but_last xs n x h m e ∙ ap (λ y. parts_of (take n xs) ++ (part y ∷ [])) d) ∙ last_leaf (parts_of (take n xs)) t.kind t.place

pub ends_construct : (xs : List Syntax) (n : ℕ) (x : Syntax) (s : Sort) (all : Vec Syntax Global) → 1 ≤ length xs → n ≡ length xs - 1 → x ≡ get_or xs n x → x ≡ syntax.Construct s all → before_semicolon (parts_of xs) ≡ None
ends_construct xs n x s all h m e d =
    ap before_semicolon (all_but_last xs n x h m e ∙ ap (λ q. parts_of (take n xs) ++ (q ∷ [])) (construct_part x s all all.items d refl)) ∙ last_node (parts_of (take n xs)) (built (parts_of all.items))

pub ruleset lasts = (ends_token, ends_construct)
