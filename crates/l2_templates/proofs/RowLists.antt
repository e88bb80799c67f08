-- The first forms of a list, and the steps of the loops that gather them.
use Rattle.std.proofs.Common.{◌≡◌, ℕ, zero, suc, Bool, true, false, cond, ◌||◌, List, [], ◌∷◌, ◌++◌, get_or, take, drop, map, refl, sym, ap, ◌∙◌, append_assoc}
use Rattle.std.specs.List.{filter, flat_map, list_any}
use Rattle.l2_templates.specs.declared.form.Form.{Form}
use Rattle.l2_templates.specs.declared.families.Family.{Family}
use Rattle.l2_templates.specs.declared.families.Variable.{Variable}
use Rattle.l2_templates.specs.Domains.{of_one, of_two, pairs, singles, two_signs, with_later}

-- lists with the same first n items go on alike
pub first_alike : {X : Type 0} (n : ℕ) (xs ys more : List X) → take n xs ≡ take n ys → take n (xs ++ more) ≡ take n (ys ++ more)
first_alike zero xs ys more same = none (xs ++ more) ∙ sym (none (ys ++ more))
  where
    none : {X : Type 0} (xs : List X) → take 0 xs ≡ []
    none [] = refl
    none (x ∷ xs) = refl
first_alike (suc n) [] [] more same = refl
first_alike (suc n) [] (y ∷ ys) more same = let no : [] ≡ y ∷ take n ys = same in cc
first_alike (suc n) (x ∷ xs) [] more same = let no : x ∷ take n xs ≡ [] = same in cc
first_alike (suc n) (x ∷ xs) (y ∷ ys) more same =
    let head : x ≡ y = ap (λ l. get_or l 0 x) same in
    let tail : take n xs ≡ take n ys = ap (drop 1) same in
    λ i. head i ∷ first_alike n xs ys more tail i

-- ---- one variable more

pub single_more : (family : Family) (v : Variable) (vs : List Variable) (forms : List Form) → v.modified ≡ true → forms ++ singles family (v ∷ vs) ≡ (forms ++ of_one family v) ++ singles family vs
single_more family v vs forms is =
    ap (λ t. forms ++ flat_map (of_one family) (cond t (v ∷ filter (λ v. v.modified) vs) (filter (λ v. v.modified) vs))) is
    ∙ sym (append_assoc forms (of_one family v) (singles family vs))

pub single_same : (family : Family) (v : Variable) (vs : List Variable) → v.modified ≡ false → singles family (v ∷ vs) ≡ singles family vs
single_same family v vs is = ap (λ t. flat_map (of_one family) (cond t (v ∷ filter (λ v. v.modified) vs) (filter (λ v. v.modified) vs))) is

pub later_more : (family : Family) (v w : Variable) (ws : List Variable) (forms : List Form) → (v.modified || w.modified) ≡ true → forms ++ with_later family v (w ∷ ws) ≡ (forms ++ of_two family v w) ++ with_later family v ws
later_more family v w ws forms is =
    ap (λ t. forms ++ flat_map (of_two family v) (cond t (w ∷ filter (λ w. v.modified || w.modified) ws) (filter (λ w. v.modified || w.modified) ws))) is
    ∙ sym (append_assoc forms (of_two family v w) (with_later family v ws))

pub later_same : (family : Family) (v w : Variable) (ws : List Variable) → (v.modified || w.modified) ≡ false → with_later family v (w ∷ ws) ≡ with_later family v ws
later_same family v w ws is = ap (λ t. flat_map (of_two family v) (cond t (w ∷ filter (λ w. v.modified || w.modified) ws) (filter (λ w. v.modified || w.modified) ws))) is

-- ---- where there are none

neither : (a b : Bool) → (a || b) ≡ false → (a ≡ false) × (b ≡ false)
neither true b is = let no : true ≡ false = is in cc
neither false b is = (refl, is)

none_later : (family : Family) (v : Variable) (ws : List Variable) → v.modified ≡ false → list_any (λ w. w.modified) ws ≡ false → with_later family v ws ≡ []
none_later family v [] first rest = refl
none_later family v (w ∷ ws) first rest =
    let parts = neither w.modified (list_any (λ w. w.modified) ws) rest in
    later_same family v w ws ((λ i. first i || w.modified) ∙ parts.0) ∙ none_later family v ws first parts.1

pub none_modified : (family : Family) (vs : List Variable) → list_any (λ v. v.modified) vs ≡ false → pairs family vs ≡ []
none_modified family [] is = refl
none_modified family (v ∷ vs) is =
    let parts = neither v.modified (list_any (λ v. v.modified) vs) is in
    (λ i. none_later family v vs parts.0 parts.1 i ++ none_modified family vs parts.1 i)

nothing : (family : Family) (v : Variable) (ws : List Variable) → two_signs family ≡ [] → flat_map (of_two family v) ws ≡ []
nothing family v [] is = refl
nothing family v (w ∷ ws) is = (λ i. map (λ signs. record { first = v.number; plus = signs.0; second = w.number; second_plus = signs.1 }) (is i) ++ nothing family v ws is i)

pub no_pairs : (family : Family) (vs : List Variable) → two_signs family ≡ [] → pairs family vs ≡ []
no_pairs family [] is = refl
no_pairs family (v ∷ vs) is = (λ i. nothing family v (filter (λ w. v.modified || w.modified) vs) is i ++ no_pairs family vs is i)
