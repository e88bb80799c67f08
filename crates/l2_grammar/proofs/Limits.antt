-- Reading within limits is reading, up to the first token that is too deep.
use Rattle.std.proofs.Common.{◌≡◌, ℕ, List, [], ◌∷◌, ◌++◌, Bool, true, false, cond, refl, sym, ap, ◌∙◌, subst, append-nil, length, length-append, arith}
use Rattle.l2_grammar.specs.States.{unit}
use Rattle.l2_grammar.specs.Trees.{Seen, Tree, begin, spell}
use Rattle.l2_grammar.specs.Reader.{Next, Stop, To, step, Verdict, Stops, Reads, finish, on_next, feed}
use Rattle.l2_grammar.specs.Law.{IsUnit, Spells, StopsBefore}
use Rattle.l2_grammar.specs.Limits.{brackets, nests, nesting, syntax, Reading, Read, Refused, ended, on_step, read_on, reading, on_deep, deep_from, Shallow, ShallowAt, DeepAt, NestsBefore}
use Rattle.l2_grammar.proofs.Bools.{no}
use Rattle.l2_grammar.proofs.Fed.{reads}
use Rattle.l2_grammar.proofs.Kept.{before, Good, Kept, kept_step, Begun, finish_at}
use Rattle.l2_grammar.proofs.Reading.{spelled, stops, begins_good}

-- what the free reader comes to where this one isn't stopped by a limit
abbrev Agrees : Reading → Verdict → Type 0
Agrees (Read u) v = v ≡ Reads u
Agrees (Refused syntax rest) v = v ≡ Stops rest
Agrees (Refused nesting rest) v = Unit {0}

ended_agrees : (v : Verdict) → Agrees (ended v) v
ended_agrees (Reads u) = refl
ended_agrees (Stops ts) = refl

agrees : (ts : List Seen) (n : ℕ) (r : Tree) (ks : List Tree) → Agrees (read_on ts n r ks) (feed ts r ks)
agrees [] n r ks = ended_agrees (finish r ks)
agrees (t ∷ ts) n r ks = go (nests n t.kind (step ks r t)) (step ks r t) (λ r' ks'. agrees ts (brackets n t.kind) r' ks')
  where
    go : (b : Bool) (x : Next) → ((r' : Tree) (ks' : List Tree) → Agrees (read_on ts (brackets n t.kind) r' ks') (feed ts r' ks')) → Agrees (cond b (Refused nesting (t ∷ ts)) (on_step x (read_on ts (brackets n t.kind)) (t ∷ ts))) (on_next x (feed ts) (t ∷ ts))
    go true x f = tt
    go false Stop f = refl
    go false (To r' ks') f = f r' ks'

-- no token before what is left is too deep
abbrev Left : Reading → List Seen
Left (Read u) = []
Left (Refused q rest) = rest

abbrev NoneDeep : List Seen → List Seen → ℕ → Tree → List Tree → Type 0
NoneDeep ts rest n r ks = (used : List Seen) (t : Seen) (more : List Seen) → ts ≡ used ++ (t ∷ (more ++ rest)) → deep_from used t n r ks ≡ true → ⊥

same_length : (used more rest : List Seen) (t : Seen) → rest ≡ used ++ (t ∷ (more ++ rest)) → ⊥
same_length used more rest t e =
    let a = length-append used (t ∷ (more ++ rest)) in
    let b = length-append more rest in
    let c : length rest ≡ length (used ++ (t ∷ (more ++ rest))) = ap (λ x. length x) e in
    omega arith

pub head_is : (x t : Seen) (xs ts : List Seen) → x ∷ xs ≡ t ∷ ts → (x ≡ t) × (xs ≡ ts)
head_is x t xs ts e = (cc, cc)

shallow_from : (ts : List Seen) (n : ℕ) (r : Tree) (ks : List Tree) → NoneDeep ts (Left (read_on ts n r ks)) n r ks
shallow_from [] n r ks [] t more e d = absurd (cc)
shallow_from [] n r ks (x ∷ used) t more e d = absurd (cc)
shallow_from (x ∷ ts) n r ks used t more e d = go (nests n x.kind (step ks r x)) refl (step ks r x) refl (λ r' ks' u y z. shallow_from ts (brackets n x.kind) r' ks' u y z) used t more e d
  where
    go : (b : Bool) → nests n x.kind (step ks r x) ≡ b → (y : Next) → step ks r x ≡ y → ((r' : Tree) (ks' : List Tree) → NoneDeep ts (Left (read_on ts (brackets n x.kind) r' ks')) (brackets n x.kind) r' ks') → NoneDeep (x ∷ ts) (Left (cond b (Refused nesting (x ∷ ts)) (on_step y (read_on ts (brackets n x.kind)) (x ∷ ts)))) n r ks
    go true i y s f u z more e d = same_length u more (x ∷ ts) z e
    go false i Stop s f u z more e d = same_length u more (x ∷ ts) z e
    go false i (To r' ks') s f [] z more e d =
        let p = head_is x z ts _ e in no (subst (λ w. nests n w.kind (step ks r w) ≡ true) (sym p.0) d) i
    go false i (To r' ks') s f (w ∷ u) z more e d =
        let p = head_is x w ts _ e in
        let q : on_deep (step ks r x) (deep_from u z (brackets n x.kind)) ≡ true = subst (λ v. on_deep (step ks r v) (deep_from u z (brackets n v.kind)) ≡ true) (sym p.0) d in
        f r' ks' u z more p.1 (ap (λ v. on_deep v (deep_from u z (brackets n x.kind))) (sym s) ∙ q)

-- where a limit stops the reader
record Nested (X : List Seen → List Seen) (ts : List Seen) (n : ℕ) (r : Tree) (ks : List Tree) (rest : List Seen) : Type 0 where
  used : List Seen
  parts : ts ≡ used ++ rest
  begun : Begun IsUnit (λ m. X (used ++ m))
  first : Seen
  more : List Seen
  head : rest ≡ first ∷ more
  deep : deep_from used first n r ks ≡ true

abbrev NestedAt : (List Seen → List Seen) → List Seen → ℕ → Tree → List Tree → Reading → Type 0
NestedAt X ts n r ks (Read u) = Unit {0}
NestedAt X ts n r ks (Refused syntax rest) = Unit {0}
NestedAt X ts n r ks (Refused nesting rest) = Nested X ts n r ks rest

ended_nested : (X : List Seen → List Seen) (n : ℕ) (r : Tree) (ks : List Tree) (v : Verdict) → NestedAt X [] n r ks (ended v)
ended_nested X n r ks (Reads u) = tt
ended_nested X n r ks (Stops ts) = tt

further : (X : List Seen → List Seen) (r : Tree) (ks : List Tree) (t : Seen) (ts : List Seen) (n : ℕ) (r' : Tree) (ks' : List Tree) (v : Reading) → step ks r t ≡ To r' ks' → ((m : List Seen) → X (t ∷ m) ≡ before ks' (spell r' m)) → NestedAt (λ m. before ks' (spell r' m)) ts (brackets n t.kind) r' ks' v → NestedAt X (t ∷ ts) n r ks v
further X r ks t ts n r' ks' (Read u) s e o = tt
further X r ks t ts n r' ks' (Refused syntax rest) s e o = tt
further X r ks t ts n r' ks' (Refused nesting rest) s e o = record {
  used = t ∷ o.used;
  parts = ap (λ z. t ∷ z) o.parts;
  begun = record { tree = o.begun.tree; rest = o.begun.rest; whole = o.begun.whole; spells = o.begun.spells ∙ sym (e (o.used ++ o.begun.rest)) };
  first = o.first;
  more = o.more;
  head = o.head;
  deep = ap (λ x. on_deep x (deep_from o.used o.first (brackets n t.kind))) s ∙ o.deep;
}

nested_from : (ts : List Seen) (n : ℕ) (r : Tree) (ks : List Tree) → Good unit ks r → NestedAt (λ m. before ks (spell r m)) ts n r ks (read_on ts n r ks)
nested_from [] n r ks g = ended_nested _ n r ks (finish r ks)
nested_from (t ∷ ts) n r ks g = go (nests n t.kind (step ks r t)) refl (step ks r t) refl (kept_step unit ks r t g) (λ r' ks' g'. nested_from ts (brackets n t.kind) r' ks' g')
  where
    go : (b : Bool) → nests n t.kind (step ks r t) ≡ b → (x : Next) → step ks r t ≡ x → Kept unit (λ m. before ks (spell r (t ∷ m))) x → ((r' : Tree) (ks' : List Tree) → Good unit ks' r' → NestedAt (λ m. before ks' (spell r' m)) ts (brackets n t.kind) r' ks' (read_on ts (brackets n t.kind) r' ks')) → NestedAt (λ m. before ks (spell r m)) (t ∷ ts) n r ks (cond b (Refused nesting (t ∷ ts)) (on_step x (read_on ts (brackets n t.kind)) (t ∷ ts)))
    go true i x e k f = record { used = []; parts = refl; begun = finish_at ks r g; first = t; more = ts; head = refl; deep = i }
    go false i Stop e k f = tt
    go false i (To r' ks') e k f = further (λ m. before ks (spell r m)) r ks t ts n r' ks' (read_on ts (brackets n t.kind) r' ks') e k.1 (f r' ks' k.0)

-- the token at which the grammar stops the reader isn't too deep
abbrev HeadDeep : List Seen → Reading → ℕ → Tree → List Tree → Type 0
HeadDeep ts (Read u) n r ks = Unit {0}
HeadDeep ts (Refused nesting rest) n r ks = Unit {0}
HeadDeep ts (Refused syntax rest) n r ks = (used : List Seen) (t : Seen) (more : List Seen) → ts ≡ used ++ (t ∷ more) → rest ≡ t ∷ more → deep_from used t n r ks ≡ true → ⊥

head_ended : (v : Verdict) (n : ℕ) (r : Tree) (ks : List Tree) → HeadDeep [] (ended v) n r ks
head_ended (Reads u) n r ks = tt
head_ended (Stops ts) n r ks = nothing_left
  where
    nothing_left : (used : List Seen) (t : Seen) (more : List Seen) → [] ≡ used ++ (t ∷ more) → ts ≡ t ∷ more → deep_from used t n r ks ≡ true → ⊥
    nothing_left [] t more e f d = absurd (cc)
    nothing_left (x ∷ used) t more e f d = absurd (cc)

whole_length : (x t : Seen) (used more : List Seen) (ts : List Seen) → ts ≡ (x ∷ used) ++ (t ∷ more) → ts ≡ t ∷ more → ⊥
whole_length x t used more ts e f =
    let a = length-append used (t ∷ more) in
    let b : length ts ≡ length (x ∷ (used ++ (t ∷ more))) = ap (λ z. length z) e in
    let c : length ts ≡ length (t ∷ more) = ap (λ z. length z) f in
    omega arith

head_on : (x : Seen) (ts : List Seen) (v : Reading) (n : ℕ) (r : Tree) (ks : List Tree) (r' : Tree) (ks' : List Tree) → nests n x.kind (step ks r x) ≡ false → step ks r x ≡ To r' ks' → HeadDeep ts v (brackets n x.kind) r' ks' → HeadDeep (x ∷ ts) v n r ks
head_on x ts (Read u) n r ks r' ks' i s f = tt
head_on x ts (Refused nesting rest) n r ks r' ks' i s f = tt
head_on x ts (Refused syntax rest) n r ks r' ks' i s f = go
  where
    go : (used : List Seen) (t : Seen) (more : List Seen) → x ∷ ts ≡ used ++ (t ∷ more) → rest ≡ t ∷ more → deep_from used t n r ks ≡ true → ⊥
    go [] t more e h d = let p = head_is x t ts more e in no (subst (λ w. nests n w.kind (step ks r w) ≡ true) (sym p.0) d) i
    go (w ∷ u) t more e h d =
        let p = head_is x w ts (u ++ (t ∷ more)) e in
        let q : on_deep (step ks r x) (deep_from u t (brackets n x.kind)) ≡ true = subst (λ v. on_deep (step ks r v) (deep_from u t (brackets n v.kind)) ≡ true) (sym p.0) d in
        f u t more p.1 h (ap (λ v. on_deep v (deep_from u t (brackets n x.kind))) (sym s) ∙ q)

head_from : (ts : List Seen) (n : ℕ) (r : Tree) (ks : List Tree) → HeadDeep ts (read_on ts n r ks) n r ks
head_from [] n r ks = head_ended (finish r ks) n r ks
head_from (x ∷ ts) n r ks = go (nests n x.kind (step ks r x)) refl (step ks r x) refl (λ r' ks'. head_from ts (brackets n x.kind) r' ks')
  where
    go : (b : Bool) → nests n x.kind (step ks r x) ≡ b → (y : Next) → step ks r x ≡ y → ((r' : Tree) (ks' : List Tree) → HeadDeep ts (read_on ts (brackets n x.kind) r' ks') (brackets n x.kind) r' ks') → HeadDeep (x ∷ ts) (cond b (Refused nesting (x ∷ ts)) (on_step y (read_on ts (brackets n x.kind)) (x ∷ ts))) n r ks
    go true i y s f = tt
    go false i Stop s f = stopped
      where
        stopped : (used : List Seen) (t : Seen) (more : List Seen) → x ∷ ts ≡ used ++ (t ∷ more) → x ∷ ts ≡ t ∷ more → deep_from used t n r ks ≡ true → ⊥
        stopped [] t more e h d = let p = head_is x t ts more e in no (subst (λ w. nests n w.kind (step ks r w) ≡ true) (sym p.0) d) i
        stopped (w ∷ u) t more e h d = whole_length w t u more (x ∷ ts) e h
    go false i (To r' ks') s f = head_on x ts (read_on ts (brackets n x.kind) r' ks') n r ks r' ks' i s (f r' ks')

-- a reader that isn't stopped by a limit reads on where the free one does
read_all : (ts : List Seen) (n : ℕ) (r : Tree) (ks : List Tree) (u : Tree) → feed ts r ks ≡ Reads u → NoneDeep ts [] n r ks → read_on ts n r ks ≡ Read u
read_all [] n r ks u e f = ap ended e
read_all (x ∷ ts) n r ks u e f = go (nests n x.kind (step ks r x)) refl (step ks r x) refl e (λ r' ks'. read_all ts (brackets n x.kind) r' ks' u)
  where
    go : (b : Bool) → nests n x.kind (step ks r x) ≡ b → (y : Next) → step ks r x ≡ y → on_next y (feed ts) (x ∷ ts) ≡ Reads u → ((r' : Tree) (ks' : List Tree) → feed ts r' ks' ≡ Reads u → NoneDeep ts [] (brackets n x.kind) r' ks' → read_on ts (brackets n x.kind) r' ks' ≡ Read u) → cond b (Refused nesting (x ∷ ts)) (on_step y (read_on ts (brackets n x.kind)) (x ∷ ts)) ≡ Read u
    go true i y s h g = absurd (f [] x ts (ap (λ z. x ∷ z) (sym (append-nil ts))) i)
    go false i Stop s h g = absurd (cc)
    go false i (To r' ks') s h g = g r' ks' h (λ used t more p d. f (x ∷ used) t more (ap (λ z. x ∷ z) p) (ap (λ v. on_deep v (deep_from used t (brackets n x.kind))) s ∙ d))

pub within_reads : (ts : List Seen) (u : Tree) → Spells ts u → Shallow ts [] → reading ts ≡ Read u
within_reads ts u s f = read_all ts 0 (begin unit) [] u (reads ts u s) f

pub reads_within : (ts : List Seen) (u : Tree) → reading ts ≡ Read u → Spells ts u × Shallow ts []
reads_within ts u e = (
  spelled ts u (subst (λ v. Agrees v (feed ts (begin unit) [])) e (agrees ts 0 (begin unit) [])),
  subst (λ v. NoneDeep ts (Left v) 0 (begin unit) []) e (shallow_from ts 0 (begin unit) []),
)

pub nests_before : (ts rest : List Seen) → reading ts ≡ Refused nesting rest → NestsBefore ts rest
nests_before ts rest e =
    let o : Nested (λ m. m) ts 0 (begin unit) [] rest = subst (λ v. NestedAt (λ m. m) ts 0 (begin unit) [] v) e (nested_from ts 0 (begin unit) [] begins_good) in
    record {
      used = o.used;
      parts = o.parts;
      begins = record { unit = o.begun.tree; rest = o.begun.rest; spells = record { whole = o.begun.whole; spelled = o.begun.spells } };
      deep = subst (λ z. DeepAt o.used z) (sym o.head) o.deep;
      shallow = subst (λ v. NoneDeep ts (Left v) 0 (begin unit) []) e (shallow_from ts 0 (begin unit) []);
    }

pub stops_before : (ts rest : List Seen) → reading ts ≡ Refused syntax rest → StopsBefore ts rest × Shallow ts rest × ShallowAt ts rest
stops_before ts rest e = (
  stops ts rest (subst (λ v. Agrees v (feed ts (begin unit) [])) e (agrees ts 0 (begin unit) [])),
  subst (λ v. NoneDeep ts (Left v) 0 (begin unit) []) e (shallow_from ts 0 (begin unit) []),
  subst (λ v. HeadDeep ts v 0 (begin unit) []) e (head_from ts 0 (begin unit) []),
)
