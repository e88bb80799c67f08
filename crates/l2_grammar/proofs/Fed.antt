-- The reader goes through the spelling of every tree that fits, to the point behind it.
use Rattle.std.proofs.Common.{◌≡◌, List, [], ◌∷◌, inl, inr, true, false, refl, sym, ap, ◌∙◌, subst}
use Rattle.l2_grammar.specs.States.{unit, fresh}
use Rattle.l2_grammar.specs.Nesting.{opens, outcome, on_child, stands, is_unit}
use Rattle.l2_grammar.specs.Trees.{Seen, Tree, begin, token, child, spell, sort, state, Fits}
use Rattle.l2_grammar.specs.Reader.{Next, Stop, To, takes, begins, step, Reads, finished, finish, on_next, feed}
use Rattle.l2_grammar.specs.Law.{IsUnit, Spells}
use Rattle.l2_grammar.proofs.Bools.{cond_true, cond_false}
use Rattle.l2_grammar.proofs.Ends.{ends, Follows, ends_apart}
use Rattle.l2_grammar.proofs.Follow.{follows_end}
use Rattle.l2_grammar.proofs.Nests.{begins_apart, no_unit, first_child, child_begun, no_last_child}

-- where the reader is behind these tokens
abbrev pub walked : Next → (Tree → List Tree → Next) → Next
walked Stop f = Stop
walked (To r ks) f = f r ks

abbrev pub walk : List Seen → Tree → List Tree → Next
walk [] r ks = To r ks
walk (t ∷ ts) r ks = walked (step ks r t) (walk ts)

-- from the point behind a tree, whose last part stands
abbrev pub after : Tree → List Tree → List Seen → Next
after (begin s) ks m = walk m (begin s) ks
after (token a t) ks m = walk m (token a t) ks
after (child a c) ks m = after c (a ∷ ks) m

pub taken : (ks : List Tree) (r : Tree) (t : Seen) (m : List Seen) → takes (sort r) (state r) t.kind ≡ true → walk (t ∷ m) r ks ≡ walk m (token r t) ks
taken [] r t m e = ap (λ n. walked n (walk m)) (cond_true (takes (sort r) (state r) t.kind) _ _ e)
taken (p ∷ ks) r t m e = ap (λ n. walked n (walk m)) (cond_true (takes (sort r) (state r) t.kind) _ _ e)

pub opened : (ks : List Tree) (r : Tree) (t : Seen) (m : List Seen) → begins (sort r) (state r) t.kind ≡ true → walk (t ∷ m) r ks ≡ walk m (token (begin (opens (sort r) (state r))) t) (r ∷ ks)
opened [] r t m e =
    ap (λ n. walked n (walk m)) (cond_false (takes (sort r) (state r) t.kind) _ _ (begins_apart (sort r) (state r) t.kind e) ∙ cond_true (begins (sort r) (state r) t.kind) _ _ e)
opened (p ∷ ks) r t m e =
    ap (λ n. walked n (walk m)) (cond_false (takes (sort r) (state r) t.kind) _ _ (begins_apart (sort r) (state r) t.kind e) ∙ cond_true (begins (sort r) (state r) t.kind) _ _ e)

pub closed : (ks : List Tree) (p r : Tree) (t : Seen) (m : List Seen) → ends (sort r) (state r) t.kind ≡ true → stands (sort p) (state (child p r)) ≡ true → walk (t ∷ m) r (p ∷ ks) ≡ walk (t ∷ m) (child p r) ks
closed ks p r t m e h =
    let a = ends_apart (sort r) (state r) t.kind e in
    ap (λ n. walked n (walk m))
    (cond_false (takes (sort r) (state r) t.kind) _ _ a.0 ∙ cond_false (begins (sort r) (state r) t.kind) _ _ a.1 ∙ cond_true (stands (sort p) (state (child p r))) _ _ h)

-- what a construct begins with
pub record Led (c : Tree) (m : List Seen) : Type 0 where
  pub first : Seen
  pub rest : List Seen
  pub leads : spell c m ≡ first ∷ rest
  pub takes : takes (sort c) fresh first.kind ≡ true

abbrev IsBegun : Tree → Type 0
IsBegun (begin s) = ⊥
IsBegun c = Unit {0}

pub led : (c : Tree) → Fits c → IsBegun c → is_unit (sort c) ≡ false → (m : List Seen) → Led c m
led (begin s) f b u m = absurd b
led (token (begin s) t) f b u m = record { first = t; rest = m; leads = refl; takes = f.1 }
led (token (token c x) t) f b u m = let r = led (token c x) f.0 tt u (t ∷ m) in record { first = r.first; rest = r.rest; leads = r.leads; takes = r.takes }
led (token (child c d) t) f b u m = let r = led (child c d) f.0 tt u (t ∷ m) in record { first = r.first; rest = r.rest; leads = r.leads; takes = r.takes }
led (child (begin s) d) f b u m = absurd (first_child s (outcome (state d)) u f.3)
led (child (token c x) d) f b u m = let r = led (token c x) f.0 tt u (spell d m) in record { first = r.first; rest = r.rest; leads = r.leads; takes = r.takes }
led (child (child c x) d) f b u m = let r = led (child c x) f.0 tt u (spell d m) in record { first = r.first; rest = r.rest; leads = r.leads; takes = r.takes }

begun : (a c : Tree) → stands (sort a) (state (child a c)) ≡ true → IsBegun c
begun a (begin s) h = child_begun (sort a) (state a) h
begun a (token c t) h = tt
begun a (child c d) h = tt

-- the state of a tree that fits may stand, but at its very beginning
abbrev Standing : Tree → Type 0
Standing (begin s) = Unit {0}
Standing c = stands (sort c) (state c) ≡ true

standing : (c : Tree) → Fits c → Standing c
standing (begin s) f = tt
standing (token a t) f = f.1
standing (child a c) f = f.3

stood : (c : Tree) → IsBegun c → Fits c → stands (sort c) (state c) ≡ true
stood (begin s) b f = absurd b
stood (token a t) b f = f.1
stood (child a c) b f = f.3

pub settle : (r : Tree) → Fits r → (ks : List Tree) (t : Seen) (m : List Seen) → Follows (sort r) (state r) t.kind → after r ks (t ∷ m) ≡ walk (t ∷ m) r ks
settle (begin s) f ks t m w = refl
settle (token a x) f ks t m w = refl
settle (child a c) f ks t m w =
    let e : ends (sort c) (state c) t.kind ≡ true = subst (λ s. ends s (state c) t.kind ≡ true) f.2 (follows_end (sort a) (state a) (state c) t.kind f.3 w) in
    settle c f.1 (a ∷ ks) t m (inr (inr e)) ∙ closed ks a c t m e f.3

-- a construct that begins in another
starts : (a c : Tree) (ks : List Tree) (m : List Seen) → opens (sort a) (state a) ≡ sort c → (l : Led c m) → walk (l.first ∷ l.rest) a ks ≡ walk (l.first ∷ l.rest) (begin (sort c)) (a ∷ ks)
starts a c ks m o l =
    opened ks a l.first l.rest (subst (λ s. takes s fresh l.first.kind ≡ true) (sym o) l.takes)
    ∙ ap (λ s. walk l.rest (token (begin s) l.first) (a ∷ ks)) o
    ∙ sym (taken (a ∷ ks) (begin (sort c)) l.first l.rest l.takes)

pub fed : (r : Tree) → Fits r → (ks : List Tree) (m : List Seen) → walk (spell r m) (begin (sort r)) ks ≡ after r ks m
fed (begin s) f ks m = refl
fed (token a t) f ks m = fed a f.0 ks (t ∷ m) ∙ settle a f.0 ks t m (inl f.1) ∙ taken ks a t m f.1
fed (child a c) f ks m =
    let u : is_unit (sort c) ≡ false = subst (λ s. is_unit s ≡ false) f.2 (no_unit (sort a) (state a)) in
    let l = led c f.1 (begun a c f.3) u m in
    let b : begins (sort a) (state a) l.first.kind ≡ true = subst (λ s. takes s fresh l.first.kind ≡ true) (sym f.2) l.takes in
    fed a f.0 ks (spell c m) ∙ ap (λ x. after a ks x) l.leads ∙ settle a f.0 ks l.first l.rest (inr (inl b))
    ∙ starts a c ks m f.2 l ∙ ap (λ x. walk x (begin (sort c)) (a ∷ ks)) (sym l.leads) ∙ fed c f.1 (a ∷ ks) m

fresh_stands : stands unit fresh ≡ true
unfolding stands
fresh_stands = refl

unit_stands : (a : Tree) → Fits a → sort a ≡ unit → stands unit (state a) ≡ true
unit_stands (begin s) f e = fresh_stands
unit_stands (token a t) f e = subst (λ s. stands s (state (token a t)) ≡ true) e f.1
unit_stands (child a c) f e = subst (λ s. stands s (state (child a c)) ≡ true) e f.3

pub walk_read : (ts : List Seen) (r : Tree) (ks : List Tree) (q : Tree) (js : List Tree) → walk ts r ks ≡ To q js → feed ts r ks ≡ finish q js
walk_read [] r ks q js e = cc
walk_read (t ∷ ts) r ks q js e = go (step ks r t) e (λ r' ks'. walk_read ts r' ks' q js)
  where
    go : (n : Next) → walked n (walk ts) ≡ To q js → ((r' : Tree) (ks' : List Tree) → walk ts r' ks' ≡ To q js → feed ts r' ks' ≡ finish q js) → on_next n (feed ts) (t ∷ ts) ≡ finish q js
    go Stop e f = absurd (cc)
    go (To r' ks') e f = f r' ks' e

pub fed_unit : (u : Tree) → IsUnit u → feed (spell u []) (begin unit) [] ≡ Reads u
fed_unit (begin s) i = absurd (cc)
fed_unit (token a t) i =
    walk_read (spell a (t ∷ [])) (begin unit) [] (token a t) [] (ap (λ s. walk (spell a (t ∷ [])) (begin s) []) (sym i.sorted) ∙ fed (token a t) i.fits [] [])
    ∙ ap (λ q. finished q (token a t)) i.ended
fed_unit (child a c) i = absurd (no_last_child (state a) (outcome (state c)) (unit_stands a i.fits.0 i.sorted) (ap (λ s. on_child s (state a) (outcome (state c))) (sym i.sorted) ∙ i.ended))

pub reads : (ts : List Seen) (u : Tree) → Spells ts u → feed ts (begin unit) [] ≡ Reads u
reads ts u s = ap (λ x. feed x (begin unit) []) (sym s.spelled) ∙ fed_unit u s.whole

pub unique : (ts : List Seen) (u v : Tree) → Spells ts u → Spells ts v → u ≡ v
unique ts u v s z = let a = reads ts u s in let b = reads ts v z in cc
