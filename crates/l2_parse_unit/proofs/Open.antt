-- The reader comes to the constructs that are open behind a token of a unit's tree.
use Rattle.std.proofs.Common.{◌≡◌, List, [], ◌∷◌, ◌++◌, ◌⊎◌, inl, inr, Bool, true, false, refl, sym, ap, ◌∙◌, subst}
use Rattle.l2_grammar.specs.declared.states.Sort.{Sort}
use Rattle.l2_grammar.specs.declared.states.Sort.TheVariants.{Unit as unit}
use Rattle.l2_grammar.specs.declared.states.State.TheVariants.{Fresh as fresh}
use Rattle.l2_grammar.specs.Nesting.{outcome, stands, is_unit}
use Rattle.l2_grammar.specs.Trees.{Seen, Tree, begin, token, child, spell, sort, state, Fits}
use Rattle.l2_grammar.specs.Reader.{To, takes, begins}
use Rattle.l2_grammar.specs.Law.{Begins}
use Rattle.l2_grammar.proofs.Bools.{no}
use Rattle.l2_grammar.proofs.Nests.{no_unit, first_child}
use Rattle.l2_grammar.proofs.Fed.{walk, after, taken, opened, Led, led, settle, fed}
use Rattle.l2_grammar.proofs.Kept.{StandsIn, Good, moved}
use Rattle.l2_parse_unit.specs.Depths.{OpenIn, tokens_of, OpenBehind}

unit_fresh : (s : Sort) → is_unit s ≡ true → stands s fresh ≡ true
unfolding stands
unit_fresh s e = e

fresh_unit : (s : Sort) → stands s fresh ≡ true → is_unit s ≡ true
unfolding stands
fresh_unit s e = e

-- a construct in which another stands may stand itself
standing : (a b : Tree) → Fits (child a b) → stands (sort a) (state a) ≡ true
standing (begin s) b f = go (is_unit s) refl
  where
    go : (c : Bool) → is_unit s ≡ c → stands s fresh ≡ true
    go true e = unit_fresh s e
    go false e = absurd (first_child s (outcome (state b)) e f.3)
standing (token a t) b f = f.0.1
standing (child a c) b f = f.0.3

pub open_good : (outer : List Tree) (u r : Tree) (ks : List Tree) → Fits u → StandsIn unit outer u → OpenIn outer u r ks → Good unit ks r
open_good outer (begin s) r ks f g o = absurd o
open_good outer (token a t) r ks f g (inl p) = subst (λ x. Good unit ks x) (sym p.0) (subst (λ x. Good unit x (token a t)) (sym p.1) (f, f.1, g))
open_good outer (token a t) r ks f g (inr o) = open_good outer a r ks f.0 (moved unit outer (token a t) a refl g) o
open_good outer (child a b) r ks f g (inl o) = open_good outer a r ks f.0 (moved unit outer (child a b) a refl g) o
open_good outer (child a b) r ks f g (inr o) = open_good (a ∷ outer) b r ks f.1 (f.2, f.0, standing a b f, moved unit outer (child a b) a refl g) o

-- a token is the last of the innermost construct
pub open_after : (outer : List Tree) (u r : Tree) (ks : List Tree) → OpenIn outer u r ks → (m : List Seen) → after r ks m ≡ walk m r ks
open_after outer (begin s) r ks o m = absurd o
open_after outer (token a t) r ks (inl p) m = subst (λ x. after x ks m ≡ walk m x ks) (sym p.0) refl
open_after outer (token a t) r ks (inr o) m = open_after outer a r ks o m
open_after outer (child a b) r ks (inl o) m = open_after outer a r ks o m
open_after outer (child a b) r ks (inr o) m = open_after (a ∷ outer) b r ks o m

led_of : (r : Tree) → Fits r → stands (sort r) (state r) ≡ true → is_unit (sort r) ≡ false → (m : List Seen) → Led r m
led_of (begin s) f h u m = absurd (no (fresh_unit s h) u)
led_of (token a t) f h u m = led (token a t) f tt u m
led_of (child a c) f h u m = led (child a c) f tt u m

-- the reader comes through the tokens of constructs that stand in one another
into : (ks : List Tree) (r : Tree) → Good unit ks r → (m : List Seen) → walk (tokens_of (r ∷ ks) m) (begin unit) [] ≡ after r ks m
into [] r g m = ap (λ s. walk (spell r m) (begin s) []) (sym g.2) ∙ fed r g.0 [] m
into (p ∷ ks) r g m =
    let u : is_unit (sort r) ≡ false = subst (λ s. is_unit s ≡ false) g.2.0 (no_unit (sort p) (state p)) in
    let l = led_of r g.0 g.1 u m in
    let b : begins (sort p) (state p) l.first.kind ≡ true = subst (λ s. takes s fresh l.first.kind ≡ true) (sym g.2.0) l.takes in
    ap (λ x. walk (tokens_of ks (spell p x)) (begin unit) []) l.leads
    ∙ into ks p (g.2.1, g.2.2, g.2.3) (l.first ∷ l.rest)
    ∙ settle p g.2.1 ks l.first l.rest (inr (inl b))
    ∙ opened ks p l.first l.rest b
    ∙ ap (λ s. walk l.rest (token (begin s) l.first) (p ∷ ks)) g.2.0
    ∙ sym (taken (p ∷ ks) (begin (sort r)) l.first l.rest l.takes)
    ∙ ap (λ x. walk x (begin (sort r)) (p ∷ ks)) (sym l.leads)
    ∙ fed r g.0 (p ∷ ks) m

pub comes_to : (ts : List Seen) (r : Tree) (ks : List Tree) → OpenBehind ts r ks → walk ts (begin unit) [] ≡ To r ks
comes_to ts r ks o =
    let g = open_good [] o.unit r ks o.spells.whole.fits o.spells.whole.sorted o.stands in
    ap (λ x. walk x (begin unit) []) (sym o.read) ∙ into ks r g [] ∙ open_after [] o.unit r ks o.stands []

-- every token of a tree has something open behind it
record Cut (outer : List Tree) (u : Tree) (xs : List Seen) (t : Seen) : Type 0 where
  run : Tree
  stack : List Tree
  stands : OpenIn outer u run stack
  read : (z : List Seen) → tokens_of (run ∷ stack) z ≡ tokens_of outer (xs ++ (t ∷ z))

record Further (u : Tree) (m xs : List Seen) (t : Seen) (ys : List Seen) : Type 0 where
  over : List Seen
  front : xs ≡ spell u over
  back : m ≡ over ++ (t ∷ ys)

spell_more : (c : Tree) (x m : List Seen) → spell c (x ++ m) ≡ spell c x ++ m
spell_more (begin s) x m = refl
spell_more (token a t) x m = spell_more a (t ∷ x) m
spell_more (child a b) x m = ap (λ z. spell a z) (spell_more b x m) ∙ spell_more a (spell b x) m

on_token : (outer : List Tree) (a : Tree) (s : Seen) (m xs : List Seen) (t : Seen) (ys zs : List Seen) → xs ≡ spell a zs → s ∷ m ≡ zs ++ (t ∷ ys) → Cut outer (token a s) xs t ⊎ Further (token a s) m xs t ys
on_token outer a s m xs t ys [] f e =
    let h : s ≡ t = cc in
    inl (record {
      run = token a s;
      stack = outer;
      stands = inl (refl, refl);
      read = λ z. ap (λ x. tokens_of outer (spell a (x ∷ z))) h ∙ ap (tokens_of outer) (spell_more a [] (t ∷ z)) ∙ ap (λ x. tokens_of outer (x ++ (t ∷ z))) (sym f);
    })
on_token outer a s m xs t ys (w ∷ ws) f e =
    let h : w ≡ s = cc in
    inr (record { over = ws; front = f ∙ ap (λ x. spell a (x ∷ ws)) h; back = cc })

cut : (outer : List Tree) (u : Tree) (m xs : List Seen) (t : Seen) (ys : List Seen) → spell u m ≡ xs ++ (t ∷ ys) → Cut outer u xs t ⊎ Further u m xs t ys
cut outer (begin s) m xs t ys e = inr (record { over = xs; front = refl; back = e })
cut outer (token a s) m xs t ys e = go (cut outer a (s ∷ m) xs t ys e)
  where
    go : Cut outer a xs t ⊎ Further a (s ∷ m) xs t ys → Cut outer (token a s) xs t ⊎ Further (token a s) m xs t ys
    go (inl c) = inl (record { run = c.run; stack = c.stack; stands = inr c.stands; read = c.read })
    go (inr c) = on_token outer a s m xs t ys c.over c.front c.back
cut outer (child a b) m xs t ys e = go (cut outer a (spell b m) xs t ys e) (λ zs h. cut (a ∷ outer) b m zs t ys h)
  where
    go : Cut outer a xs t ⊎ Further a (spell b m) xs t ys → ((zs : List Seen) → spell b m ≡ zs ++ (t ∷ ys) → Cut (a ∷ outer) b zs t ⊎ Further b m zs t ys) → Cut outer (child a b) xs t ⊎ Further (child a b) m xs t ys
    go (inl c) f = inl (record { run = c.run; stack = c.stack; stands = inl c.stands; read = c.read })
    go (inr c) f = on (f c.over c.back)
      where
        on : Cut (a ∷ outer) b c.over t ⊎ Further b m c.over t ys → Cut outer (child a b) xs t ⊎ Further (child a b) m xs t ys
        on (inl d) = inl (record {
          run = d.run;
          stack = d.stack;
          stands = inr d.stands;
          read = λ z. d.read z ∙ ap (tokens_of outer) (spell_more a c.over (t ∷ z)) ∙ ap (λ x. tokens_of outer (x ++ (t ∷ z))) (sym c.front);
        })
        on (inr d) = inr (record { over = d.over; front = c.front ∙ ap (spell a) d.front; back = d.back })

pub record Opened (ts : List Seen) : Type 0 where
  pub run : Tree
  pub stack : List Tree
  pub behind : OpenBehind ts run stack

one_more : (us : List Seen) (t : Seen) (ms : List Seen) → us ++ (t ∷ ms) ≡ (us ++ (t ∷ [])) ++ ms
one_more [] t ms = refl
one_more (u ∷ us) t ms = ap (λ x. u ∷ x) (one_more us t ms)

pub opened_behind : (used : List Seen) (t : Seen) → Begins (used ++ (t ∷ [])) → Opened (used ++ (t ∷ []))
opened_behind used t b = go (cut [] b.unit [] used t b.rest (b.spells.spelled ∙ sym (one_more used t b.rest)))
  where
    nothing_left : (zs : List Seen) → [] ≡ zs ++ (t ∷ b.rest) → ⊥
    nothing_left [] e = cc
    nothing_left (z ∷ zs) e = cc

    go : Cut [] b.unit used t ⊎ Further b.unit [] used t b.rest → Opened (used ++ (t ∷ []))
    go (inl c) = record { run = c.run; stack = c.stack; behind = record { unit = b.unit; rest = b.rest; spells = b.spells; stands = c.stands; read = c.read [] } }
    go (inr f) = absurd (nothing_left f.over f.back)
