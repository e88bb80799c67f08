-- The reader over some tokens: where it comes to, what it has read there, and where the reader of an expression stops.
use Rattle.std.proofs.Common.{◌≡◌, ℕ, List, [], ◌∷◌, ◌++◌, ◌⊎◌, inl, inr, Bool, true, false, cond, refl, sym, ap, ◌∙◌, subst}
use Rattle.l2_syntax.specs.declared.token.TokenKind.{TokenKind}
use Rattle.l2_grammar.specs.States.{Sort, external, nowhere, fresh}
use Rattle.l2_grammar.specs.Nesting.{opens, stands, is_unit}
use Rattle.l2_grammar.specs.Trees.{Seen, Tree, begin, token, child, spell, sort, state, Fits}
use Rattle.l2_grammar.specs.Reader.{Next, Stop, To, takes, begins, step}
use Rattle.l2_grammar.specs.Limits.{nests, brackets, on_deep, deep_from, nesting, syntax}
use Rattle.l2_grammar.specs.Expressions.{brackets_behind, close, Expressed, Broken, closed, on_further, express}
use Rattle.l2_grammar.proofs.Bools.{cond_true, no}
use Rattle.l2_grammar.proofs.Nests.{nowhere_stands}
use Rattle.l2_grammar.proofs.Fed.{walked, walk, after}
use Rattle.l2_grammar.proofs.Kept.{before, Good, Kept, kept_cond, moved, kept_step}
use Rattle.l2_grammar.proofs.Limits.{head_is}

-- the first token
pub none_begins : (s : Sort) (b : Bool) (k : TokenKind) → is_unit s ≡ b → b ≡ false → begins s fresh k ≡ true → ⊥
unfolding opens
none_begins s true k e f g = absurd (cc)
none_begins s false k e f g = no (subst (λ b. takes (cond b external nowhere) fresh k ≡ true) e g) (nowhere_stands _)

pub kept_first : (s : Sort) → is_unit s ≡ false → (t : Seen) → Kept s (λ m. t ∷ m) (step [] (begin s) t)
kept_first s u t =
    kept_cond s _ (takes s fresh t.kind) _ _ (λ e. (((tt, e), e, refl), λ m. refl))
    (λ n. kept_cond s _ (begins s fresh t.kind) _ _ (λ e. absurd (none_begins s (is_unit s) t.kind refl u e)) (λ n. tt))

pub kept_same : (s : Sort) (X Y : List Seen → List Seen) → ((m : List Seen) → X m ≡ Y m) → (n : Next) → Kept s Y n → Kept s X n
kept_same s X Y e Stop k = tt
kept_same s X Y e (To r ks) k = (k.0, λ m. e m ∙ k.1 m)

pub kept_walk : (s : Sort) (ts : List Seen) (r : Tree) (ks : List Tree) → Good s ks r → Kept s (λ m. before ks (spell r (ts ++ m))) (walk ts r ks)
kept_walk s [] r ks g = (g, λ m. refl)
kept_walk s (t ∷ ts) r ks g = go (step ks r t) (kept_step s ks r t g) (λ r' ks' h. kept_walk s ts r' ks' h)
  where
    go : (n : Next) → Kept s (λ m. before ks (spell r (t ∷ m))) n → ((r' : Tree) (ks' : List Tree) → Good s ks' r' → Kept s (λ m. before ks' (spell r' (ts ++ m))) (walk ts r' ks')) → Kept s (λ m. before ks (spell r (t ∷ (ts ++ m)))) (walked n (walk ts))
    go Stop k f = tt
    go (To r' ks') k f = kept_same s _ _ (λ m. k.1 (ts ++ m)) (walk ts r' ks') (f r' ks' k.0)

pub kept_start : (s : Sort) → is_unit s ≡ false → (t : Seen) (ts : List Seen) → Kept s (λ m. t ∷ (ts ++ m)) (walk (t ∷ ts) (begin s) [])
kept_start s u t ts = go (step [] (begin s) t) (kept_first s u t)
  where
    go : (n : Next) → Kept s (λ m. t ∷ m) n → Kept s (λ m. t ∷ (ts ++ m)) (walked n (walk ts))
    go Stop k = tt
    go (To r' ks') k = kept_same s _ _ (λ m. k.1 (ts ++ m)) (walk ts r' ks') (kept_walk s ts r' ks' k.0)

-- behind a tree the constructs that are open end to that tree
abbrev pub close_next : Next → Next
close_next Stop = Stop
close_next (To r ks) = close ks r

pub close_after : (u : Tree) → Fits u → (ks : List Tree) → close_next (after u ks []) ≡ close ks u
close_after (begin s) f ks = refl
close_after (token a t) f ks = refl
close_after (child a c) f ks = close_after c f.1 (a ∷ ks) ∙ cond_true (stands (sort a) (state (child a c))) _ _ f.3

pub record Arrived (n : Next) : Type 0 where
  pub run : Tree
  pub stack : List Tree
  pub is : n ≡ To run stack

pub arrived_before : (ts more : List Seen) (r : Tree) (ks : List Tree) → Arrived (walk (ts ++ more) r ks) → Arrived (walk ts r ks)
arrived_before [] more r ks a = record { run = r; stack = ks; is = refl }
arrived_before (t ∷ ts) more r ks a = go (step ks r t) a (λ r' ks'. arrived_before ts more r' ks')
  where
    go : (n : Next) → Arrived (walked n (walk (ts ++ more))) → ((r' : Tree) (ks' : List Tree) → Arrived (walk (ts ++ more) r' ks') → Arrived (walk ts r' ks')) → Arrived (walked n (walk ts))
    go Stop b f = let e = b.is in absurd (cc)
    go (To r' ks') b f = f r' ks' b

pub arrived_closed : (n : Next) (u : Tree) → close_next n ≡ To u [] → Arrived n
arrived_closed Stop u e = absurd (cc)
arrived_closed (To r ks) u e = record { run = r; stack = ks; is = refl }

pub walk_last : (ts : List Seen) (t : Seen) (r : Tree) (ks : List Tree) (q : Tree) (js : List Tree) → walk ts r ks ≡ To q js → walk (ts ++ (t ∷ [])) r ks ≡ walked (step js q t) (walk [])
walk_last [] t r ks q js e = ap (λ n. walked n (λ x y. walked (step y x t) (walk []))) e
walk_last (x ∷ ts) t r ks q js e = go (step ks r x) e (λ r' ks'. walk_last ts t r' ks' q js)
  where
    go : (n : Next) → walked n (walk ts) ≡ To q js → ((r' : Tree) (ks' : List Tree) → walk ts r' ks' ≡ To q js → walk (ts ++ (t ∷ [])) r' ks' ≡ walked (step js q t) (walk [])) → walked n (walk (ts ++ (t ∷ []))) ≡ walked (step js q t) (walk [])
    go Stop e f = absurd (cc)
    go (To r' ks') e f = f r' ks' e

pub deep_walk : (ts : List Seen) (t : Seen) (n : ℕ) (r : Tree) (ks : List Tree) (q : Tree) (js : List Tree) → walk ts r ks ≡ To q js → deep_from ts t n r ks ≡ nests (brackets_behind n ts) t.kind (step js q t)
deep_walk [] t n r ks q js e = ap (λ x. walked_nests x) e
  where
    walked_nests : Next → Bool
    walked_nests Stop = false
    walked_nests (To x y) = nests n t.kind (step y x t)
deep_walk (x ∷ ts) t n r ks q js e = go (step ks r x) e (λ r' ks'. deep_walk ts t (brackets n x.kind) r' ks' q js)
  where
    go : (y : Next) → walked y (walk ts) ≡ To q js → ((r' : Tree) (ks' : List Tree) → walk ts r' ks' ≡ To q js → deep_from ts t (brackets n x.kind) r' ks' ≡ nests (brackets_behind (brackets n x.kind) ts) t.kind (step js q t)) → on_deep y (deep_from ts t (brackets n x.kind)) ≡ nests (brackets_behind (brackets n x.kind) ts) t.kind (step js q t)
    go Stop e f = absurd (cc)
    go (To r' ks') e f = f r' ks' e

-- none of these tokens is too deep, from here
abbrev pub Shallow : List Seen → ℕ → Tree → List Tree → Type 0
Shallow ts n r ks = (before : List Seen) (t : Seen) (more : List Seen) → ts ≡ before ++ (t ∷ more) → deep_from before t n r ks ≡ true → ⊥

-- where none is, the reader comes through them
pub through : (ts rest : List Seen) (n : ℕ) (r : Tree) (ks : List Tree) (q : Tree) (js : List Tree) → walk ts r ks ≡ To q js → Shallow ts n r ks → express (ts ++ rest) n r ks ≡ express rest (brackets_behind n ts) q js
through [] rest n r ks q js e s = ap (λ x. from x) e
  where
    from : Next → Expressed
    from Stop = Broken syntax rest
    from (To x y) = express rest n x y
through (t ∷ ts) rest n r ks q js e s = go (nests n t.kind (step ks r t)) refl (step ks r t) refl e (λ r' ks'. through ts rest (brackets n t.kind) r' ks' q js)
  where
    go : (b : Bool) → nests n t.kind (step ks r t) ≡ b → (y : Next) → step ks r t ≡ y → walked y (walk ts) ≡ To q js → ((r' : Tree) (ks' : List Tree) → walk ts r' ks' ≡ To q js → Shallow ts (brackets n t.kind) r' ks' → express (ts ++ rest) (brackets n t.kind) r' ks' ≡ express rest (brackets_behind (brackets n t.kind) ts) q js) → cond b (Broken nesting (t ∷ (ts ++ rest))) (on_further y (express (ts ++ rest) (brackets n t.kind)) (closed (close ks r) (t ∷ (ts ++ rest)))) ≡ express rest (brackets_behind (brackets n t.kind) ts) q js
    go true i y h w f = absurd (s [] t ts refl i)
    go false i Stop h w f = absurd (cc)
    go false i (To r' ks') h w f = f r' ks' w (λ u x more p d. s (t ∷ u) x more (ap (λ z. t ∷ z) p) (ap (λ v. on_deep v (deep_from u x (brackets n t.kind))) h ∙ d))

-- where the reader of an expression stops
abbrev pub AtEnd : Expressed → ℕ → Tree → List Tree → List Seen → Type 0
AtEnd v n r ks [] = v ≡ closed (close ks r) []
AtEnd v n r ks (t ∷ ts) =
    ((nests n t.kind (step ks r t) ≡ true) × (v ≡ Broken nesting (t ∷ ts)))
    ⊎ ((nests n t.kind (step ks r t) ≡ false) × (step ks r t ≡ Stop) × (v ≡ closed (close ks r) (t ∷ ts)))

pub record Reached (v : Expressed) (ts : List Seen) (n : ℕ) (r : Tree) (ks : List Tree) : Type 0 where
  pub used : List Seen
  pub rest : List Seen
  pub run : Tree
  pub stack : List Tree
  pub parts : ts ≡ used ++ rest
  pub arrives : walk used r ks ≡ To run stack
  pub shallow : Shallow used n r ks
  pub end : AtEnd v (brackets_behind n used) run stack rest

pub shallow_nothing : (n : ℕ) (r : Tree) (ks : List Tree) → Shallow [] n r ks
shallow_nothing n r ks [] t more e d = absurd (cc)
shallow_nothing n r ks (x ∷ u) t more e d = absurd (cc)

pub shallow_more : (t : Seen) (ts : List Seen) (n : ℕ) (r : Tree) (ks : List Tree) (r' : Tree) (ks' : List Tree) → nests n t.kind (step ks r t) ≡ false → step ks r t ≡ To r' ks' → Shallow ts (brackets n t.kind) r' ks' → Shallow (t ∷ ts) n r ks
shallow_more t ts n r ks r' ks' i h s [] x more e d =
    let p = head_is t x ts more e in no (subst (λ w. nests n w.kind (step ks r w) ≡ true) (sym p.0) d) i
shallow_more t ts n r ks r' ks' i h s (w ∷ u) x more e d =
    let p = head_is t w ts (u ++ (x ∷ more)) e in
    let q : on_deep (step ks r t) (deep_from u x (brackets n t.kind)) ≡ true = subst (λ v. on_deep (step ks r v) (deep_from u x (brackets n v.kind)) ≡ true) (sym p.0) d in
    s u x more p.1 (ap (λ v. on_deep v (deep_from u x (brackets n t.kind))) (sym h) ∙ q)

pub reached : (ts : List Seen) (n : ℕ) (r : Tree) (ks : List Tree) → Reached (express ts n r ks) ts n r ks
reached [] n r ks = record { used = []; rest = []; run = r; stack = ks; parts = refl; arrives = refl; shallow = shallow_nothing n r ks; end = refl }
reached (t ∷ ts) n r ks = go (nests n t.kind (step ks r t)) refl (step ks r t) refl (λ r' ks'. reached ts (brackets n t.kind) r' ks')
  where
    go : (b : Bool) → nests n t.kind (step ks r t) ≡ b → (y : Next) → step ks r t ≡ y → ((r' : Tree) (ks' : List Tree) → Reached (express ts (brackets n t.kind) r' ks') ts (brackets n t.kind) r' ks') → Reached (cond b (Broken nesting (t ∷ ts)) (on_further y (express ts (brackets n t.kind)) (closed (close ks r) (t ∷ ts)))) (t ∷ ts) n r ks
    go true i y h f = record { used = []; rest = t ∷ ts; run = r; stack = ks; parts = refl; arrives = refl; shallow = shallow_nothing n r ks; end = inl (i, refl) }
    go false i Stop h f = record { used = []; rest = t ∷ ts; run = r; stack = ks; parts = refl; arrives = refl; shallow = shallow_nothing n r ks; end = inr (i, h, refl) }
    go false i (To r' ks') h f =
        let o = f r' ks' in
        record { used = t ∷ o.used; rest = o.rest; run = o.run; stack = o.stack; parts = ap (λ z. t ∷ z) o.parts; arrives = ap (λ z. walked z (walk o.used)) h ∙ o.arrives; shallow = shallow_more t o.used n r ks r' ks' i h o.shallow; end = o.end }

-- what the outermost construct is, once all in it have ended
abbrev pub ClosedTo : Sort → List Seen → Next → Type 0
ClosedTo s used Stop = Unit {0}
ClosedTo s used (To u js) = Fits u × (sort u ≡ s) × (spell u [] ≡ used)

pub kept_close : (s : Sort) (ks : List Tree) (r : Tree) → Good s ks r → ClosedTo s (before ks (spell r [])) (close ks r)
kept_close s [] r g = (g.0, g.2, refl)
kept_close s (p ∷ ks) r g = go (stands (sort p) (state (child p r))) refl (λ h. kept_close s ks (child p r) h)
  where
    go : (b : Bool) → stands (sort p) (state (child p r)) ≡ b → (Good s ks (child p r) → ClosedTo s (before ks (spell p (spell r []))) (close ks (child p r))) → ClosedTo s (before ks (spell p (spell r []))) (cond b (close ks (child p r)) Stop)
    go true e f = f ((g.2.1, g.0, g.2.0, e), e, moved s ks p (child p r) refl g.2.3)
    go false e f = tt
