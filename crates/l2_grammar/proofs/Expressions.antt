-- The reader of one expression reads the longest with which the tokens begin, and is refused as it is said.
use Rattle.std.proofs.Common.{◌≡◌, ◌≤◌, ◌<◌, ℕ, suc, List, [], ◌∷◌, ◌++◌, ◌⊎◌, inl, inr, Bool, true, false, cond, ◌&&◌, ◌||◌, leb, refl, sym, ap, ◌∙◌, subst, append_assoc, append-nil, length, length-append, arith}
use Rattle.l2_syntax.specs.declared.token.TokenKind.TheVariants as kind
use Rattle.l2_grammar.specs.States.{Level, comma_level, assignment_level, conditional_level, fresh, Outcome, value}
use Rattle.l2_grammar.specs.Networks.{on_token}
use Rattle.l2_grammar.specs.Nesting.{outcome, stands, is_unit}
use Rattle.l2_grammar.specs.Trees.{Seen, Tree, begin, token, spell, state}
use Rattle.l2_grammar.specs.Reader.{Next, Stop, To, takes, begins, step}
use Rattle.l2_grammar.specs.Limits.{most, longest, opens_bracket, exceeds, nests, brackets, deep_from, nesting, syntax}
use Rattle.l2_grammar.specs.Expressions.{sort_at, IsExpression, SpellsExpression, BeginsExpression, NoneGoesOn, brackets_behind, DeepBracket, Within, NextDeep, NextShallow, EndsBefore, NestsAt, BreaksAt, close, Expressed, Whole, Broken, is_value, closed, on_further, express, expression}
use Rattle.std.proofs.lemmas.Bool.{le-leb, leb-true, leb-false}
use Rattle.l2_grammar.proofs.Bools.{cond_true, cond_false, no, not_false}
use Rattle.l2_grammar.proofs.Taken.{done}
use Rattle.l2_grammar.proofs.Whole.{seen}
use Rattle.l2_grammar.proofs.Complete.{complete}
use Rattle.l2_grammar.proofs.Fed.{walked, walk, fed}
use Rattle.l2_grammar.proofs.Lengths.{exceeds_length}
use Rattle.l2_grammar.proofs.Kept.{before, Good, Kept, Begun, finish_in}
use Rattle.l2_grammar.proofs.Walks.{none_begins, kept_start, close_next, close_after, Arrived, arrived_before, arrived_closed, walk_last, deep_walk, Shallow, through, AtEnd, reached, ClosedTo, kept_close}

-- what the levels have in common
level_unit : (l : Level) → is_unit (sort_at l) ≡ false
level_unit comma_level = refl
level_unit assignment_level = refl
level_unit conditional_level = refl

level_done : (l : Level) (o : Outcome) → done (sort_at l) o ≡ true → o ≡ value
level_done comma_level value d = refl
level_done comma_level o d = absurd (cc)
level_done assignment_level value d = refl
level_done assignment_level o d = absurd (cc)
level_done conditional_level value d = refl
level_done conditional_level o d = absurd (cc)

abbrev least : Level → Tree
least l = token (begin (sort_at l)) (seen kind.Text)

least_fits : (l : Level) → stands (sort_at l) (state (least l)) ≡ true
unfolding on_token stands
least_fits comma_level = refl
least_fits assignment_level = refl
least_fits conditional_level = refl

least_whole : (l : Level) → outcome (state (least l)) ≡ value
unfolding on_token outcome
least_whole comma_level = refl
least_whole assignment_level = refl
least_whole conditional_level = refl

begins_all : (l : Level) → BeginsExpression l []
begins_all l = record {
  tree = least l;
  rest = seen kind.Text ∷ [];
  spells = record { whole = record { fits = (tt, least_fits l); sorted = refl; whole = least_whole l }; spelled = refl };
}

-- what was read is the beginning of some expression
finish_expression : (l : Level) (r : Tree) → Good (sort_at l) [] r → Begun (IsExpression l) (λ m. spell r m)
finish_expression l r g =
    let c = complete r g.0 (subst (λ s. is_unit s ≡ false) (sym g.2) (level_unit l)) g.1 in
    record {
      tree = c.tree;
      rest = c.rest ++ [];
      whole = record { fits = c.fits; sorted = c.sorted ∙ g.2; whole = level_done l (outcome (state c.tree)) (subst (λ s. done s (outcome (state c.tree)) ≡ true) g.2 c.whole) };
      spells = c.spells [];
    }

begins_kept : (l : Level) (used : List Seen) (r : Tree) (ks : List Tree) → Good (sort_at l) ks r → ((m : List Seen) → used ++ m ≡ before ks (spell r m)) → BeginsExpression l used
begins_kept l used r ks g e =
    let b = finish_in (IsExpression l) (sort_at l) (finish_expression l) ks r g in
    record { tree = b.tree; rest = b.rest; spells = record { whole = b.whole; spelled = b.spells ∙ sym (e b.rest) } }

walk_begins : (l : Level) (used : List Seen) (r : Tree) (ks : List Tree) → walk used (begin (sort_at l)) [] ≡ To r ks → BeginsExpression l used
walk_begins l [] r ks e = begins_all l
walk_begins l (t ∷ ts) r ks e =
    let k : Kept (sort_at l) (λ m. t ∷ (ts ++ m)) (To r ks) = subst (λ n. Kept (sort_at l) (λ m. t ∷ (ts ++ m)) n) e (kept_start (sort_at l) (level_unit l) t ts) in
    begins_kept l (t ∷ ts) r ks k.0 k.1

walk_closes : (l : Level) (used : List Seen) (u : Tree) → SpellsExpression l used u → close_next (walk used (begin (sort_at l)) []) ≡ To u []
walk_closes l used u s =
    ap (λ x. close_next (walk x (begin (sort_at l)) [])) (sym s.spelled)
    ∙ ap (λ x. close_next (walk (spell u []) (begin x) [])) (sym s.whole.sorted)
    ∙ ap close_next (fed u s.whole.fits [] []) ∙ close_after u s.whole.fits []

arrived : (l : Level) (used : List Seen) → BeginsExpression l used → Arrived (walk used (begin (sort_at l)) [])
arrived l used b = arrived_before used b.rest (begin (sort_at l)) [] (arrived_closed _ b.tree (walk_closes l (used ++ b.rest) b.tree b.spells))

closed_start : (l : Level) (used : List Seen) → ClosedTo (sort_at l) used (close_next (walk used (begin (sort_at l)) []))
closed_start l [] = (tt, refl, refl)
closed_start l (t ∷ ts) = go (walk (t ∷ ts) (begin (sort_at l)) []) (kept_start (sort_at l) (level_unit l) t ts)
  where
    go : (n : Next) → Kept (sort_at l) (λ m. t ∷ (ts ++ m)) n → ClosedTo (sort_at l) (t ∷ ts) (close_next n)
    go Stop k = tt
    go (To r ks) k = subst (λ x. ClosedTo (sort_at l) x (close ks r)) (sym (k.1 []) ∙ append-nil (t ∷ ts)) (kept_close (sort_at l) ks r k.0)

closed_walk : (l : Level) (used : List Seen) (r : Tree) (ks : List Tree) → walk used (begin (sort_at l)) [] ≡ To r ks → ClosedTo (sort_at l) used (close ks r)
closed_walk l used r ks w = subst (λ n. ClosedTo (sort_at l) used (close_next n)) w (closed_start l used)

closes_to : (l : Level) (used : List Seen) (u : Tree) (r : Tree) (ks : List Tree) → SpellsExpression l used u → walk used (begin (sort_at l)) [] ≡ To r ks → close ks r ≡ To u []
closes_to l used u r ks s w = sym (ap close_next w) ∙ walk_closes l used u s

whole_closed : (l : Level) (n : Next) (used : List Seen) → ClosedTo (sort_at l) used n → (left : List Seen) (u : Tree) (rest : List Seen) → closed n left ≡ Whole u rest → SpellsExpression l used u × (left ≡ rest)
whole_closed l Stop used c left u rest e = absurd (cc)
whole_closed l (To x js) used c left u rest e = go (outcome (state x)) refl e
  where
    go : (o : Outcome) → outcome (state x) ≡ o → cond (is_value o) (Whole x left) (Broken syntax left) ≡ Whole u rest → SpellsExpression l used u × (left ≡ rest)
    go value q h =
        let same : x ≡ u = cc in
        let s : SpellsExpression l used x = record { whole = record { fits = c.0; sorted = c.1; whole = q }; spelled = c.2 } in
        (subst (λ z. SpellsExpression l used z) same s, cc)
    go o q h = absurd (cc)

not_whole : (l : Level) (n : Next) (used : List Seen) → ClosedTo (sort_at l) used n → (left : List Seen) → ((u : Tree) → SpellsExpression l used u → ⊥) → closed n left ≡ Broken syntax left
not_whole l Stop used c left f = refl
not_whole l (To x js) used c left f = go (outcome (state x)) refl
  where
    go : (o : Outcome) → outcome (state x) ≡ o → cond (is_value o) (Whole x left) (Broken syntax left) ≡ Broken syntax left
    go value q = absurd (f x (record { whole = record { fits = c.0; sorted = c.1; whole = q }; spelled = c.2 }))
    go o q = refl

closed_syntax : (n : Next) (left rest : List Seen) → closed n left ≡ Broken syntax rest → left ≡ rest
closed_syntax Stop left rest e = cc
closed_syntax (To x js) left rest e = go (is_value (outcome (state x))) e
  where
    go : (b : Bool) → cond b (Whole x left) (Broken syntax left) ≡ Broken syntax rest → left ≡ rest
    go true h = absurd (cc)
    go false h = cc

closed_nesting : (n : Next) (left rest : List Seen) → closed n left ≡ Broken nesting rest → ⊥
closed_nesting Stop left rest e = cc
closed_nesting (To x js) left rest e = go (is_value (outcome (state x))) e
  where
    go : (b : Bool) → cond b (Whole x left) (Broken syntax left) ≡ Broken nesting rest → ⊥
    go true h = cc
    go false h = cc

-- what is too deep for the reader is so by the tokens alone
first_false : (a b : Bool) → (a || b) ≡ false → a ≡ false
first_false true b e = absurd (cc)
first_false false b e = refl

or_false : (a : Bool) → a ≡ false → (a || false) ≡ false
or_false true e = absurd (cc)
or_false false e = refl

or_true : (a b : Bool) → (a || b) ≡ true → (a ≡ true) ⊎ (b ≡ true)
or_true true b e = inl refl
or_true false b e = inr e

left_true : (a b : Bool) → a ≡ true → (a || b) ≡ true
left_true true b e = refl
left_true false b e = absurd (cc)

right_true : (a b : Bool) → b ≡ true → (a || b) ≡ true
right_true true b e = refl
right_true false b e = e

walk_length : (l : Level) (used : List Seen) (r : Tree) (ks : List Tree) → walk used (begin (sort_at l)) [] ≡ To r ks → 1 ≤ length used → exceeds (To r ks) ≡ leb (suc longest) (length used)
walk_length l [] r ks w b = absurd (omega (arith, b))
walk_length l (t ∷ ts) r ks w b =
    let k : Kept (sort_at l) (λ m. t ∷ (ts ++ m)) (To r ks) = subst (λ n. Kept (sort_at l) (λ m. t ∷ (ts ++ m)) n) w (kept_start (sort_at l) (level_unit l) t ts) in
    exceeds_length l (level_unit l) (t ∷ ts) r ks k.0 (sym (append-nil (t ∷ ts)) ∙ k.1 [])

-- of a token with which some expression goes on
step_length : (l : Level) (used : List Seen) (t : Seen) (r : Tree) (ks : List Tree) (q : Tree) (js : List Tree) → walk used (begin (sort_at l)) [] ≡ To r ks → step ks r t ≡ To q js → exceeds (To q js) ≡ leb (suc longest) (suc (length used))
step_length l used t r ks q js w h =
    let e : length (used ++ (t ∷ [])) ≡ suc (length used) = let a = length-append used (t ∷ []) in omega arith in
    walk_length l (used ++ (t ∷ [])) q js (walk_last used t (begin (sort_at l)) [] r ks w ∙ ap (λ y. walked y (walk [])) h) (omega arith)
    ∙ ap (λ n. leb (suc longest) n) e

next_deep : (l : Level) (n : ℕ) (used : List Seen) (t : Seen) (ts : List Seen) (r : Tree) (ks : List Tree) → walk used (begin (sort_at l)) [] ≡ To r ks → Within n used → nests (brackets_behind n used) t.kind (step ks r t) ≡ true → NextDeep l n used (t ∷ ts)
next_deep l n used t ts r ks w i d = go (step ks r t) refl (or_true _ _ d)
  where
    go : (y : Next) → step ks r t ≡ y → (DeepBracket n used t) ⊎ (exceeds y ≡ true) → NextDeep l n used (t ∷ ts)
    go y h (inl b) = inl b
    go Stop h (inr b) = absurd (cc)
    go (To q js) h (inr b) =
        let a : leb (suc longest) (suc (length used)) ≡ true = sym (step_length l used t r ks q js w h) ∙ b in
        let c : suc longest ≤ suc (length used) = leb-true (suc longest) (suc (length used)) a in
        let s = i.short in
        inr (omega arith, walk_begins l (used ++ (t ∷ [])) q js (walk_last used t (begin (sort_at l)) [] r ks w ∙ ap (λ y. walked y (walk [])) h))

deep_next : (l : Level) (n : ℕ) (used : List Seen) (t : Seen) (ts : List Seen) (r : Tree) (ks : List Tree) → walk used (begin (sort_at l)) [] ≡ To r ks → NextDeep l n used (t ∷ ts) → nests (brackets_behind n used) t.kind (step ks r t) ≡ true
deep_next l n used t ts r ks w (inl b) = left_true _ _ b
deep_next l n used t ts r ks w (inr b) =
    let a = arrived l (used ++ (t ∷ [])) b.1 in
    go (step ks r t) refl (sym (walk_last used t (begin (sort_at l)) [] r ks w) ∙ a.is)
  where
    go : (y : Next) → step ks r t ≡ y → {q : Tree} {js : List Tree} → walked y (walk []) ≡ To q js → ((opens_bracket t.kind && leb most (brackets_behind n used)) || exceeds y) ≡ true
    go Stop h e = absurd (cc)
    go (To x xs) h e =
        let c = b.0 in
        right_true _ _ (step_length l used t r ks x xs w h ∙ le-leb (suc longest) (suc (length used)) (omega arith))

-- a token of those through which the reader comes
record Inside (l : Level) (used : List Seen) (t : Seen) : Type 0 where
  run : Tree
  stack : List Tree
  next : Tree
  rest : List Tree
  arrives : walk used (begin (sort_at l)) [] ≡ To run stack
  goes_on : step stack run t ≡ To next rest

inside_of : (l : Level) (used : List Seen) (t : Seen) (more : List Seen) (r : Tree) (ks : List Tree) → walk (used ++ (t ∷ more)) (begin (sort_at l)) [] ≡ To r ks → Inside l used t
inside_of l used t more r ks w =
    let a = arrived_before used (t ∷ more) (begin (sort_at l)) [] (record { run = r; stack = ks; is = w }) in
    let b = arrived_before (used ++ (t ∷ [])) more (begin (sort_at l)) [] (record { run = r; stack = ks; is = ap (λ x. walk x (begin (sort_at l)) []) (append_assoc used (t ∷ []) more) ∙ w }) in
    go a b (step a.stack a.run t) refl (sym (walk_last used t (begin (sort_at l)) [] a.run a.stack a.is) ∙ b.is)
  where
    go : (a : Arrived (walk used (begin (sort_at l)) [])) (b : Arrived (walk (used ++ (t ∷ [])) (begin (sort_at l)) [])) (y : Next) → step a.stack a.run t ≡ y → walked y (walk []) ≡ To b.run b.stack → Inside l used t
    go a b Stop h e = absurd (cc)
    go a b (To q js) h e = record { run = a.run; stack = a.stack; next = q; rest = js; arrives = a.is; goes_on = h }

deep_inside : (l : Level) (n : ℕ) (used : List Seen) (t : Seen) (i : Inside l used t) → deep_from used t n (begin (sort_at l)) [] ≡ ((opens_bracket t.kind && leb most (brackets_behind n used)) || leb (suc longest) (suc (length used)))
deep_inside l n used t i =
    deep_walk used t n (begin (sort_at l)) [] i.run i.stack i.arrives
    ∙ ap (λ y. nests (brackets_behind n used) t.kind y) i.goes_on
    ∙ ap (λ x. (opens_bracket t.kind && leb most (brackets_behind n used)) || x) (step_length l used t i.run i.stack i.next i.rest i.arrives i.goes_on)

shallow_of : (l : Level) (n : ℕ) (used : List Seen) (r : Tree) (ks : List Tree) → walk used (begin (sort_at l)) [] ≡ To r ks → Within n used → Shallow used n (begin (sort_at l)) []
shallow_of l n used r ks w i b t more e d =
    let x = inside_of l b t more r ks (ap (λ z. walk z (begin (sort_at l)) []) (sym e) ∙ w) in
    go (or_true _ _ (sym (deep_inside l n b t x) ∙ d))
  where
    go : (DeepBracket n b t) ⊎ (leb (suc longest) (suc (length b)) ≡ true) → ⊥
    go (inl f) = i.shallow b t more e f
    go (inr f) =
        let c : suc longest ≤ suc (length b) = leb-true (suc longest) (suc (length b)) f in
        let a = length-append b (t ∷ more) in
        let g : length used ≡ length (b ++ (t ∷ more)) = ap (λ z. length z) e in
        let s = i.short in omega arith

record Last (ts : List Seen) : Type 0 where
  before : List Seen
  last : Seen
  parts : ts ≡ before ++ (last ∷ [])

last_of : (t : Seen) (ts : List Seen) → Last (t ∷ ts)
last_of t [] = record { before = []; last = t; parts = refl }
last_of t (x ∷ ts) = let o = last_of x ts in record { before = t ∷ o.before; last = o.last; parts = ap (λ z. t ∷ z) o.parts }

within_of : (l : Level) (n : ℕ) (used : List Seen) (r : Tree) (ks : List Tree) → walk used (begin (sort_at l)) [] ≡ To r ks → Shallow used n (begin (sort_at l)) [] → Within n used
within_of l n used r ks w s = record { short = short used refl; shallow = shallow }
  where
    at : (b : List Seen) (t : Seen) (more : List Seen) → used ≡ b ++ (t ∷ more) → Inside l b t
    at b t more e = inside_of l b t more r ks (ap (λ z. walk z (begin (sort_at l)) []) (sym e) ∙ w)

    shallow : (b : List Seen) (t : Seen) (more : List Seen) → used ≡ b ++ (t ∷ more) → DeepBracket n b t → ⊥
    shallow b t more e d = s b t more e (deep_inside l n b t (at b t more e) ∙ left_true _ _ d)

    few : (b : List Seen) (t : Seen) → used ≡ b ++ (t ∷ []) → suc longest ≤ suc (length b) → ⊥
    few b t e d = s b t [] e (deep_inside l n b t (at b t [] e) ∙ right_true _ _ (le-leb (suc longest) (suc (length b)) d))

    short : (x : List Seen) → used ≡ x → length used ≤ longest
    short [] e = let a : length used ≡ 0 = ap (λ z. length z) e in omega arith
    short (t ∷ ts) e =
        let o = last_of t ts in
        let p : used ≡ o.before ++ (o.last ∷ []) = e ∙ o.parts in
        let a : length used ≡ length (o.before ++ (o.last ∷ [])) = ap (λ z. length z) p in
        let b = length-append o.before (o.last ∷ []) in
        go o p (leb (suc longest) (suc (length o.before))) refl (omega arith)
      where
        go : (o : Last (t ∷ ts)) → used ≡ o.before ++ (o.last ∷ []) → (x : Bool) → leb (suc longest) (suc (length o.before)) ≡ x → length used ≡ suc (length o.before) → length used ≤ longest
        go o p true f g = absurd (few o.before o.last p (leb-true (suc longest) (suc (length o.before)) f))
        go o p false f g = let h : suc (length o.before) < suc longest = leb-false (suc longest) (suc (length o.before)) f in omega arith

-- no expression goes on with a token that stops the reader
no_more : (l : Level) (used : List Seen) (t : Seen) (r : Tree) (ks : List Tree) → walk used (begin (sort_at l)) [] ≡ To r ks → step ks r t ≡ Stop → BeginsExpression l (used ++ (t ∷ [])) → ⊥
no_more l used t r ks w h b =
    let a = arrived l (used ++ (t ∷ [])) b in
    let e = a.is in
    let f = walk_last used t (begin (sort_at l)) [] r ks w in
    let g : walked (step ks r t) (walk []) ≡ Stop = ap (λ n. walked n (walk [])) h in cc

halted : (l : Level) (n : ℕ) (used : List Seen) (r : Tree) (ks : List Tree) (rest : List Seen) (v : Expressed) → walk used (begin (sort_at l)) [] ≡ To r ks → AtEnd v (brackets_behind n used) r ks rest → ((m : List Seen) → v ≡ Broken nesting m → ⊥) → NoneGoesOn l used rest × NextShallow n used rest × (v ≡ closed (close ks r) rest)
halted l n used r ks [] v w e f = (tt, tt, e)
halted l n used r ks (t ∷ ts) v w (inl p) f = absurd (f (t ∷ ts) p.1)
halted l n used r ks (t ∷ ts) v w (inr p) f = (
  no_more l used t r ks w p.1,
  λ d. no d (first_false _ _ p.0),
  p.2,
)

nested_end : (l : Level) (n : ℕ) (used : List Seen) (r : Tree) (ks : List Tree) (left rest : List Seen) (v : Expressed) → walk used (begin (sort_at l)) [] ≡ To r ks → Within n used → AtEnd v (brackets_behind n used) r ks left → v ≡ Broken nesting rest → (left ≡ rest) × NextDeep l n used left
nested_end l n used r ks [] rest v w i e q = absurd (closed_nesting (close ks r) [] rest (sym e ∙ q))
nested_end l n used r ks (t ∷ ts) rest v w i (inl p) q = let f = p.1 in (cc, next_deep l n used t ts r ks w i p.0)
nested_end l n used r ks (t ∷ ts) rest v w i (inr p) q = absurd (closed_nesting (close ks r) (t ∷ ts) rest (sym p.2 ∙ q))

-- where no expression goes on with the next token the reader stops
stays : (l : Level) (n : ℕ) (used : List Seen) (r : Tree) (ks : List Tree) (rest : List Seen) → walk used (begin (sort_at l)) [] ≡ To r ks → NoneGoesOn l used rest → NextShallow n used rest → express rest (brackets_behind n used) r ks ≡ closed (close ks r) rest
stays l n used r ks [] w g s = refl
stays l n used r ks (t ∷ ts) w g s =
    let h = stop (step ks r t) refl in
    cond_false (nests (brackets_behind n used) t.kind (step ks r t)) _ _ (ap (nests (brackets_behind n used) t.kind) h ∙ or_false _ (not_false _ s))
    ∙ ap (λ y. on_further y (express ts (brackets (brackets_behind n used) t.kind)) (closed (close ks r) (t ∷ ts))) h
  where
    stop : (y : Next) → step ks r t ≡ y → step ks r t ≡ Stop
    stop Stop h = h
    stop (To r' ks') h = absurd (g (walk_begins l (used ++ (t ∷ [])) r' ks' (walk_last used t (begin (sort_at l)) [] r ks w ∙ ap (λ y. walked y (walk [])) h)))

nests_there : (l : Level) (n : ℕ) (used : List Seen) (r : Tree) (ks : List Tree) (rest : List Seen) → walk used (begin (sort_at l)) [] ≡ To r ks → NextDeep l n used rest → express rest (brackets_behind n used) r ks ≡ Broken nesting rest
nests_there l n used r ks [] w d = absurd d
nests_there l n used r ks (t ∷ ts) w d = cond_true (nests (brackets_behind n used) t.kind (step ks r t)) _ _ (deep_next l n used t ts r ks w d)

-- the laws
pub ends_before : (l : Level) (n : ℕ) (ts : List Seen) (r : Tree) (rest : List Seen) → expression l n ts ≡ Whole r rest → EndsBefore l n ts r rest
ends_before l n ts r rest e =
    let o = reached ts n (begin (sort_at l)) [] in
    let h = halted l n o.used o.run o.stack o.rest (expression l n ts) o.arrives o.end (λ m q. cc) in
    let p = whole_closed l (close o.stack o.run) o.used (closed_walk l o.used o.run o.stack o.arrives) o.rest r rest (sym h.2 ∙ e) in
    record {
      used = o.used;
      parts = o.parts ∙ ap (λ x. o.used ++ x) p.1;
      spells = p.0;
      further = subst (λ x. NoneGoesOn l o.used x) p.1 h.0;
      within = within_of l n o.used o.run o.stack o.arrives o.shallow;
      next = subst (λ x. NextShallow n o.used x) p.1 h.1;
    }

pub ends_so : (l : Level) (n : ℕ) (ts : List Seen) (r : Tree) (rest : List Seen) → EndsBefore l n ts r rest → expression l n ts ≡ Whole r rest
ends_so l n ts r rest b =
    let a = arrived_closed _ r (walk_closes l b.used r b.spells) in
    ap (λ x. expression l n x) b.parts ∙ through b.used rest n (begin (sort_at l)) [] a.run a.stack a.is (shallow_of l n b.used a.run a.stack a.is b.within)
    ∙ stays l n b.used a.run a.stack rest a.is b.further b.next
    ∙ ap (λ x. closed x rest) (closes_to l b.used r a.run a.stack b.spells a.is) ∙ ap (λ o. cond (is_value o) (Whole r rest) (Broken syntax rest)) b.spells.whole.whole

pub nests_at : (l : Level) (n : ℕ) (ts rest : List Seen) → expression l n ts ≡ Broken nesting rest → NestsAt l n ts rest
nests_at l n ts rest e =
    let o = reached ts n (begin (sort_at l)) [] in
    let p = nested_end l n o.used o.run o.stack o.rest rest (expression l n ts) o.arrives (within_of l n o.used o.run o.stack o.arrives o.shallow) o.end e in
    record {
      used = o.used;
      parts = o.parts ∙ ap (λ x. o.used ++ x) p.0;
      begins = walk_begins l o.used o.run o.stack o.arrives;
      deep = subst (λ x. NextDeep l n o.used x) p.0 p.1;
      within = within_of l n o.used o.run o.stack o.arrives o.shallow;
    }

pub nests_so : (l : Level) (n : ℕ) (ts rest : List Seen) → NestsAt l n ts rest → expression l n ts ≡ Broken nesting rest
nests_so l n ts rest b =
    let a = arrived l b.used b.begins in
    ap (λ x. expression l n x) b.parts ∙ through b.used rest n (begin (sort_at l)) [] a.run a.stack a.is (shallow_of l n b.used a.run a.stack a.is b.within)
    ∙ nests_there l n b.used a.run a.stack rest a.is b.deep

pub breaks_at : (l : Level) (n : ℕ) (ts rest : List Seen) → expression l n ts ≡ Broken syntax rest → BreaksAt l n ts rest
breaks_at l n ts rest e =
    let o = reached ts n (begin (sort_at l)) [] in
    let h = halted l n o.used o.run o.stack o.rest (expression l n ts) o.arrives o.end (λ m q. cc) in
    let p = closed_syntax (close o.stack o.run) o.rest rest (sym h.2 ∙ e) in
    record {
      used = o.used;
      parts = o.parts ∙ ap (λ x. o.used ++ x) p;
      begins = walk_begins l o.used o.run o.stack o.arrives;
      further = subst (λ x. NoneGoesOn l o.used x) p h.0;
      unfinished = λ u s.
          let c : expression l n ts ≡ cond (is_value (outcome (state u))) (Whole u o.rest) (Broken syntax o.rest) = h.2 ∙ ap (λ x. closed x o.rest) (closes_to l o.used u o.run o.stack s o.arrives) in
          let w : cond (is_value (outcome (state u))) (Whole u o.rest) (Broken syntax o.rest) ≡ Whole u o.rest = ap (λ x. cond (is_value x) (Whole u o.rest) (Broken syntax o.rest)) s.whole.whole in cc;
      within = within_of l n o.used o.run o.stack o.arrives o.shallow;
      next = subst (λ x. NextShallow n o.used x) p h.1;
    }

pub breaks_so : (l : Level) (n : ℕ) (ts rest : List Seen) → BreaksAt l n ts rest → expression l n ts ≡ Broken syntax rest
breaks_so l n ts rest b =
    let a = arrived l b.used b.begins in
    ap (λ x. expression l n x) b.parts ∙ through b.used rest n (begin (sort_at l)) [] a.run a.stack a.is (shallow_of l n b.used a.run a.stack a.is b.within)
    ∙ stays l n b.used a.run a.stack rest a.is b.further b.next
    ∙ not_whole l (close a.stack a.run) b.used (closed_walk l b.used a.run a.stack a.is) rest b.unfinished

-- a token with which no expression begins
begin_ended : (l : Level) → is_value (outcome (state (begin (sort_at l)))) ≡ false
unfolding outcome
begin_ended l = refl

pub first_refused : (l : Level) (n : ℕ) (t : Seen) (ts : List Seen) → (opens_bracket t.kind && leb most n) ≡ false → takes (sort_at l) fresh t.kind ≡ false → expression l n (t ∷ ts) ≡ Broken syntax (t ∷ ts)
first_refused l n t ts b e =
    let stop : step [] (begin (sort_at l)) t ≡ Stop = cond_false (takes (sort_at l) fresh t.kind) _ _ e ∙ cond_false (begins (sort_at l) fresh t.kind) _ _ (not_false _ (none_begins (sort_at l) (is_unit (sort_at l)) t.kind refl (level_unit l))) in
    let shallow : nests n t.kind Stop ≡ false = bracket (opens_bracket t.kind && leb most n) b in
    cond_false (nests n t.kind (step [] (begin (sort_at l)) t)) _ _ (ap (nests n t.kind) stop ∙ shallow)
    ∙ ap (λ x. on_further x (express ts (brackets n t.kind)) (closed (To (begin (sort_at l)) []) (t ∷ ts))) stop
    ∙ ap (λ x. cond x (Whole (begin (sort_at l)) (t ∷ ts)) (Broken syntax (t ∷ ts))) (begin_ended l)
  where
    bracket : (x : Bool) → x ≡ false → (x || false) ≡ false
    bracket true e = absurd (cc)
    bracket false e = refl
