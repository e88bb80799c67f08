-- Circuits that begin behind all variables that there are.
use Rattle.std.proofs.Common.{◌≡◌, ℕ, ◌≤◌, Bool, true, false, not, refl, ap, ◌∙◌, List, [], ◌∷◌, ◌++◌}
use Rattle.l2_gates.specs.Gates.{Lit, Pos, Neg, Made}
use Rattle.l2_gates.specs.Models.{both, some_of, value, some_true, all_true, Ok, Below, AllBelow, ClausesBelow, Sound, Agree, Extends}
use Rattle.l2_gates.proofs.Made.{all_up}
use Rattle.l2_growing.specs.Models.{at_variables, followed}

clauses_up : (n m : ℕ) (cs : List (List Lit)) → n ≤ m → ClausesBelow n cs → ClausesBelow m cs
clauses_up n m [] h k = tt
clauses_up n m (c ∷ cs) h k = (all_up n m c h k.0, clauses_up n m cs h k.1)

clauses_both : (n : ℕ) (cs ds : List (List Lit)) → ClausesBelow n cs → ClausesBelow n ds → ClausesBelow n (cs ++ ds)
clauses_both n [] ds h k = k
clauses_both n (c ∷ cs) ds h k = (h.0, clauses_both n cs ds h.1 k)

value_same : (n : ℕ) (v w : ℕ → Bool) (l : Lit) → Agree n v w → Below n l → value w l ≡ value v l
value_same n v w (Pos m) a h = a m h
value_same n v w (Neg m) a h = ap not (a m h)

clause_same : (n : ℕ) (v w : ℕ → Bool) (c : List Lit) → Agree n v w → AllBelow n c → some_true w c ≡ some_true v c
clause_same n v w [] a h = refl
clause_same n v w (l ∷ ls) a h = λ i. some_of (value_same n v w l a h.0 i) (clause_same n v w ls a h.1 i)

clauses_same : (n : ℕ) (v w : ℕ → Bool) (cs : List (List Lit)) → Agree n v w → ClausesBelow n cs → all_true w cs ≡ all_true v cs
clauses_same n v w [] a h = refl
clauses_same n v w (c ∷ cs) a h = λ i. both (clause_same n v w c a h.0 i) (clauses_same n v w cs a h.1 i)

all_both : (v : ℕ → Bool) (cs ds : List (List Lit)) → all_true v cs ≡ true → all_true v ds ≡ true → all_true v (cs ++ ds) ≡ true
all_both v [] ds h k = k
all_both v (c ∷ cs) ds h k = more (some_true v c) (all_true v cs) h (all_both v cs ds)
  where
    more : (a b : Bool) → both a b ≡ true → (b ≡ true → all_true v ds ≡ true → all_true v (cs ++ ds) ≡ true) → both a (all_true v (cs ++ ds)) ≡ true
    more true b e f = f e k
    more false b e f = e

all_parts : (v : ℕ → Bool) (cs ds : List (List Lit)) → all_true v (cs ++ ds) ≡ true → (all_true v cs ≡ true) × (all_true v ds ≡ true)
all_parts v [] ds h = (refl, h)
all_parts v (c ∷ cs) ds h = go (some_true v c) (all_true v (cs ++ ds)) h (all_parts v cs ds)
  where
    go : (a b : Bool) → both a b ≡ true → (b ≡ true → (all_true v cs ≡ true) × (all_true v ds ≡ true)) → (both a (all_true v cs) ≡ true) × (all_true v ds ≡ true)
    go true b e f = f e
    go false b e f = absurd (cc e)

pub first_true : (v : ℕ → Bool) (n : ℕ) → Ok v (at_variables n) → v 0 ≡ true
first_true v n ok = only (v 0) ok
  where
    only : (b : Bool) → both (some_of b false) true ≡ true → b ≡ true
    only true h = refl
    only false h = absurd (cc h)

ok_first : (v : ℕ → Bool) (n : ℕ) → v 0 ≡ true → Ok v (at_variables n)
ok_first v n one = ap (λ b. both (some_of b false) true) one

pub variables_sound : (n : ℕ) → 1 ≤ n → Sound (at_variables n)
variables_sound n h = record { some = h; clauses = ((h, tt), tt) }

module _ (m r : Made) where
  pub old_part : (v : ℕ → Bool) → Ok v (followed m r) → Ok v m
  old_part v ok = (all_parts v m.clauses r.clauses ok).0

  pub new_part : (v : ℕ → Bool) → Ok v (followed m r) → Ok v r
  new_part v ok = (all_parts v m.clauses r.clauses ok).1

  -- each model of what there was goes on to one of all
  pub follows : Sound m → ((v : ℕ → Bool) → Ok v m → v 0 ≡ true) → Extends (at_variables m.next) r → Extends m (followed m r)
  follows so one x = record {
    grows = x.grows;
    sound = record { some = x.sound.some; clauses = clauses_both r.next m.clauses r.clauses (clauses_up m.next r.next m.clauses x.grows so.clauses) x.sound.clauses };
    back = old_part;
    model = λ v ok.
        let k = x.model v (ok_first v m.next (one v ok)) in
        record { v' = k.v'; agree = k.agree; ok = all_both k.v' m.clauses r.clauses (clauses_same m.next v k.v' m.clauses k.agree so.clauses ∙ ok) k.ok };
  }
