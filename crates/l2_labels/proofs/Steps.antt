-- Lists of items, the last of which is looked at by itself.
use Rattle.std.proofs.Common.{◌≡◌, refl, ap, sym, ◌∙◌, subst, ℕ, ◌≤◌, Bool, true, false, List, [], ◌∷◌, ◌++◌, length, drop}
use Rattle.std.proofs.lemmas.List.{drop_all}
use Rattle.l2_code.specs.declared.action.Action.{Action}
use Rattle.l2_code.specs.declared.code.Item.{Item}
use Rattle.l2_code.specs.Trees.{Node, Do, Block, Loop, Nodes, none, more, tree_of, items_of, join}
use Rattle.l2_code.proofs.Items.{items_of-join}
use Rattle.l2_labels.specs.Labels.{single, at_end, merged, where_last}
use Rattle.l2_labels.specs.Spliced.{singles}

there : (ys : List Item) (x : Item) (last other : Nodes) → where_last (items_of (ys ++ x ∷ [])) last other ≡ other
there [] x last other = refl
there (y ∷ ys) x last other = refl

pub merged_last : (stays : List Bool) (inside : Bool) (xs : List Item) (x : Item) → merged stays inside (items_of (xs ++ x ∷ [])) ≡ join (singles stays (items_of xs)) (at_end stays inside (tree_of x))
merged_last stays inside [] x = refl
merged_last stays inside (y ∷ ys) x =
    there ys x (at_end stays inside (tree_of y)) (more (single stays (tree_of y)) (merged stays inside (items_of (ys ++ x ∷ []))))
    ∙ ap (more (single stays (tree_of y))) (merged_last stays inside ys x)

pub singles_join : (stays : List Bool) (xs ys : Nodes) → singles stays (join xs ys) ≡ join (singles stays xs) (singles stays ys)
singles_join stays none ys = refl
singles_join stays (more x rest) ys = ap (more (single stays x)) (singles_join stays rest ys)

pub items_join : (xs ys : List Item) → items_of (xs ++ ys) ≡ join (items_of xs) (items_of ys)
items_join xs ys = items_of-join xs ys

pub join_step : (xs : Nodes) (x : Node) (ys : Nodes) → join (join xs (more x none)) ys ≡ join xs (more x ys)
join_step none x ys = refl
join_step (more z rest) x ys = ap (more z) (join_step rest x ys)

pub join_end : (xs : Nodes) → join xs none ≡ xs
join_end none = refl
join_end (more x rest) = ap (more x) (join_end rest)

pub loop_step : (stays : List Bool) (all more_of : List Item) (x y : Item) (left rest : List Item) (whole : Nodes) → join (items_of all) (singles stays (items_of left)) ≡ whole
    → more_of ≡ all ++ y ∷ [] → tree_of y ≡ single stays (tree_of x) → left ≡ x ∷ rest → join (items_of more_of) (singles stays (items_of rest)) ≡ whole
loop_step stays all more_of x y left rest whole e a b d =
    ap (λ (zs : List Item). join (items_of zs) (singles stays (items_of rest))) a ∙ ap (λ (z : Nodes). join z (singles stays (items_of rest))) (items_join all (y ∷ []))
    ∙ join_step (items_of all) (tree_of y) (singles stays (items_of rest)) ∙ ap (λ (z : Node). join (items_of all) (more z (singles stays (items_of rest)))) b
    ∙ ap (λ (zs : List Item). join (items_of all) (singles stays (items_of zs))) (sym d) ∙ e

pub finish : (stays : List Bool) (inside : Bool) (items before all result : List Item) (last : Item) → items ≡ before ++ last ∷ [] → items_of all ≡ singles stays (items_of before)
    → items_of result ≡ join (items_of all) (at_end stays inside (tree_of last)) → items_of result ≡ merged stays inside (items_of items)
finish stays inside items before all result last e a b =
    b ∙ ap (λ (z : Nodes). join z (at_end stays inside (tree_of last))) a ∙ sym (merged_last stays inside before last) ∙ ap (λ (zs : List Item). merged stays inside (items_of zs)) (sym e)

-- a last block that ends where the block round it does
pub block_end : (stays : List Bool) (inside : Bool) (old all rest inner : List Item) (around : List Bool) (last : Node) → all ≡ old ++ rest → inside ≡ true → last ≡ Block (items_of inner)
    → around ≡ false ∷ stays → items_of rest ≡ merged around true (items_of inner) → items_of all ≡ join (items_of old) (at_end stays inside last)
block_end stays inside old all rest inner around last a b d e f =
    ap items_of a ∙ items_join old rest ∙ ap (λ (ys : Nodes). join (items_of old) ys) (f ∙ ap (λ (xs : List Bool). merged xs true (items_of inner)) e ∙ (λ j. at_end stays (sym b j) (sym d j)))

-- a last node that stays one
pub one_end : (stays : List Bool) (inside : Bool) (old all : List Item) (x : Item) (last : Node) → all ≡ old ++ x ∷ [] → tree_of x ≡ single stays last
    → at_end stays inside last ≡ more (single stays last) none → items_of all ≡ join (items_of old) (at_end stays inside last)
one_end stays inside old all x last a b d =
    ap items_of a ∙ items_join old (x ∷ []) ∙ ap (λ (ys : Nodes). join (items_of old) ys) (ap (λ (y : Node). more y none) b ∙ sym d)

pub do_stays : (stays : List Bool) (inside : Bool) (last : Node) (a : Action) → last ≡ Do a → at_end stays inside last ≡ more (single stays last) none
do_stays stays inside last a e = subst (λ (x : Node). at_end stays inside x ≡ more (single stays x) none) (sym e) (go inside)
  where
    go : (b : Bool) → at_end stays b (Do a) ≡ more (single stays (Do a)) none
    go true = refl
    go false = refl

pub loop_stays : (stays : List Bool) (inside : Bool) (last : Node) (l : ℕ) (xs : Nodes) → last ≡ Loop l xs → at_end stays inside last ≡ more (single stays last) none
loop_stays stays inside last l xs e = subst (λ (x : Node). at_end stays inside x ≡ more (single stays x) none) (sym e) (go inside)
  where
    go : (b : Bool) → at_end stays b (Loop l xs) ≡ more (single stays (Loop l xs)) none
    go true = refl
    go false = refl

pub block_stays : (stays : List Bool) (inside : Bool) (last : Node) (xs : Nodes) → inside ≡ false → last ≡ Block xs → at_end stays inside last ≡ more (single stays last) none
block_stays stays inside last xs b e = (λ j. at_end stays (b j) (e j)) ∙ ap (λ (x : Node). more (single stays x) none) (sym e)

pub rest_done : (stays : List Bool) (all before : List Item) (i : ℕ) → length before ≤ i → join (items_of all) (singles stays (items_of (drop i before))) ≡ singles stays (items_of before)
    → items_of all ≡ singles stays (items_of before)
rest_done stays all before i h e =
    sym (join_end (items_of all)) ∙ ap (λ (xs : List Item). join (items_of all) (singles stays (items_of xs))) (sym (drop_all i before h)) ∙ e

pub ruleset steps = (items_join, merged_last, join_step, join_end)
