-- What is too deep by the tokens and trees is what the reader finds too deep.
use Rattle.std.proofs.Common.{◌≡◌, suc, List, [], ◌∷◌, ◌++◌, ◌⊎◌, inl, inr, Bool, true, false, ◌&&◌, ◌||◌, leb, refl, sym, ap, ◌∙◌, subst}
use Rattle.std.proofs.lemmas.Bool.{le-leb, leb-true}
use Rattle.l2_grammar.specs.declared.states.Sort.TheVariants.{Unit as unit}
use Rattle.l2_grammar.specs.Trees.{Seen, Tree, begin, token, child, spell}
use Rattle.l2_grammar.specs.Reader.{Next, Stop, To, step}
use Rattle.l2_grammar.specs.Law.{Spells, Begins}
use Rattle.l2_grammar.specs.Limits.{most, longest, opens_bracket, is_statement, statements, expression_size, exceeds, TooDeep as IsFound}
use Rattle.l2_grammar.specs.Expressions.{brackets_behind}
use Rattle.l2_grammar.proofs.Bools.{both, and}
use Rattle.l2_grammar.proofs.Fed.{walked, walk, after, fed}
use Rattle.l2_grammar.proofs.Kept.{Kept, finish_at}
use Rattle.l2_grammar.proofs.Reading.{begins_good}
use Rattle.l2_grammar.proofs.Walks.{kept_walk, Arrived, arrived_before, walk_last, deep_walk}
use Rattle.l2_parse_unit.specs.Depths.{OpenBehind, TooDeep, bracket, statement, expression}
use Rattle.l2_parse_unit.proofs.Open.{comes_to, opened_behind}

or_true : (a b : Bool) → (a || b) ≡ true → (a ≡ true) ⊎ (b ≡ true)
or_true true b e = inl refl
or_true false b e = inr e

left_true : (a b : Bool) → a ≡ true → (a || b) ≡ true
left_true true b e = refl
left_true false b e = absurd (cc)

right_true : (a b : Bool) → b ≡ true → (a || b) ≡ true
right_true true b e = refl
right_true false b e = e

-- where the reader comes with a token more
stepped : (used : List Seen) (t : Seen) (q r : Tree) (js ks : List Tree) → walk used (begin unit) [] ≡ To q js → walk (used ++ (t ∷ [])) (begin unit) [] ≡ To r ks → step js q t ≡ To r ks
stepped used t q r js ks e h = go (step js q t) (sym (walk_last used t (begin unit) [] q js e) ∙ h)
  where
    go : (n : Next) → walked n (walk []) ≡ To r ks → n ≡ To r ks
    go Stop f = absurd (cc)
    go (To x y) f = f

after_arrived : (u : Tree) (ks : List Tree) → Arrived (after u ks [])
after_arrived (begin s) ks = record { run = begin s; stack = ks; is = refl }
after_arrived (token a t) ks = record { run = token a t; stack = ks; is = refl }
after_arrived (child a c) ks = after_arrived c (a ∷ ks)

arrived_unit : (ts : List Seen) (u : Tree) → Spells ts u → Arrived (walk ts (begin unit) [])
arrived_unit ts u s =
    let a = after_arrived u [] in
    record {
      run = a.run;
      stack = a.stack;
      is = ap (λ x. walk x (begin unit) []) (sym s.spelled) ∙ ap (λ x. walk (spell u []) (begin x) []) (sym s.whole.sorted) ∙ fed u s.whole.fits [] [] ∙ a.is;
    }

-- with the tokens with which some unit begins the reader comes somewhere
arrived : (used : List Seen) → Begins used → Arrived (walk used (begin unit) [])
arrived used b = arrived_before used b.rest (begin unit) [] (arrived_unit (used ++ b.rest) b.unit b.spells)

found_open : (used : List Seen) (t : Seen) (r : Tree) (ks : List Tree) → OpenBehind (used ++ (t ∷ [])) r ks → exceeds (To r ks) ≡ true → IsFound used t
found_open used t r ks o e =
    let w = comes_to (used ++ (t ∷ [])) r ks o in
    let a = arrived_before used (t ∷ []) (begin unit) [] (record { run = r; stack = ks; is = w }) in
    let s = stepped used t a.run r a.stack ks a.is w in
    deep_walk used t 0 (begin unit) [] a.run a.stack a.is ∙ right_true _ _ (ap exceeds s ∙ e)

pub found : (used : List Seen) (t : Seen) → Begins used → TooDeep used t → IsFound used t
found used t b (bracket d) = let a = arrived used b in deep_walk used t 0 (begin unit) [] a.run a.stack a.is ∙ left_true _ _ d
found used t b (statement r ks o s d) = found_open used t r ks o (left_true _ _ (and _ _ s (le-leb most (statements ks) d)))
found used t b (expression r ks o d) = found_open used t r ks o (right_true _ _ (le-leb (suc longest) (expression_size (r ∷ ks)) d))

pub too_deep : (used : List Seen) (t : Seen) → Begins used → IsFound used t → TooDeep used t
too_deep used t b e =
    let a = arrived used b in
    first (or_true _ _ (sym (deep_walk used t 0 (begin unit) [] a.run a.stack a.is) ∙ e)) (step a.stack a.run t) refl a
  where
    begun : (r : Tree) (ks : List Tree) → walk (used ++ (t ∷ [])) (begin unit) [] ≡ To r ks → Begins (used ++ (t ∷ []))
    begun r ks w = begins_there (used ++ (t ∷ [])) r ks w
      where
        begins_there : (ts : List Seen) (r : Tree) (ks : List Tree) → walk ts (begin unit) [] ≡ To r ks → Begins ts
        begins_there ts r ks w =
            let k : Kept unit (λ m. ts ++ m) (To r ks) = subst (λ n. Kept unit (λ m. ts ++ m) n) w (kept_walk unit ts (begin unit) [] begins_good) in
            let o = finish_at ks r k.0 in
            record { unit = o.tree; rest = o.rest; spells = record { whole = o.whole; spelled = o.spells ∙ sym (k.1 o.rest) } }

    exceeding : (r : Tree) (ks : List Tree) → OpenBehind (used ++ (t ∷ [])) r ks → exceeds (To r ks) ≡ true → TooDeep used t
    exceeding r ks o d = go (or_true _ _ d)
      where
        go : ((is_statement r && leb most (statements ks)) ≡ true) ⊎ (leb (suc longest) (expression_size (r ∷ ks)) ≡ true) → TooDeep used t
        go (inl x) = let p = both (is_statement r) (leb most (statements ks)) x in statement r ks o p.0 (leb-true most (statements ks) p.1)
        go (inr x) = expression r ks o (leb-true (suc longest) (expression_size (r ∷ ks)) x)

    first : ((opens_bracket t.kind && leb most (brackets_behind 0 used)) ≡ true) ⊎ (exceeds (step (arrived used b).stack (arrived used b).run t) ≡ true) → (n : Next) → step (arrived used b).stack (arrived used b).run t ≡ n → Arrived (walk used (begin unit) []) → TooDeep used t
    first (inl d) n h a = bracket d
    first (inr d) Stop h a = let x = ap exceeds h in absurd (cc)
    first (inr d) (To r ks) h a =
        let i = (arrived used b).is in
        let w : walk (used ++ (t ∷ [])) (begin unit) [] ≡ To r ks = walk_last used t (begin unit) [] (arrived used b).run (arrived used b).stack i ∙ ap (λ n. walked n (walk [])) h in
        let o = opened_behind used t (begun r ks w) in
        let same : To r ks ≡ To o.run o.stack = sym w ∙ comes_to (used ++ (t ∷ [])) o.run o.stack o.behind in
        exceeding o.run o.stack o.behind (ap exceeds (sym same) ∙ ap exceeds (sym h) ∙ d)
