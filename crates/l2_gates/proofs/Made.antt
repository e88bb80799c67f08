-- The clauses of gates have a model for all values of the variables before them.
use Rattle.std.proofs.Common.{◌≡◌, ℕ, suc, ◌≤◌, ◌<◌, Bool, true, false, not, refl, ap, ◌∙◌, List, [], ◌∷◌, ◌++◌, arith}
use Rattle.std.specs.Prelude.{nat_eq, if◌then◌else◌}
use Rattle.l2_gates.specs.Gates.{Lit, Pos, Neg, negated, T, F, same, Made, Bit, with_clauses, fresh, known, new_and, new_xor, new_mux, and, or, xor, mux}
use Rattle.l2_gates.specs.Models.{both, differ, chosen, some_of, value, some_true, all_true, Ok, Below, AllBelow, ClausesBelow, Sound, Agree, Model, Extends, Makes}
use Rattle.l2_gates.specs.Law.{GatesAreMade}
use Rattle.l2_gates.proofs.Bools.{by_test}
use Rattle.l2_gates.proofs.Values.{negated_value, all_first}

pub below_up : (n m : ℕ) (l : Lit) → n ≤ m → Below n l → Below m l
below_up n m l h k = omega arith

pub all_up : (n m : ℕ) (ls : List Lit) → n ≤ m → AllBelow n ls → AllBelow m ls
all_up n m [] h k = tt
all_up n m (l ∷ ls) h k = (below_up n m l h k.0, all_up n m ls h k.1)

clauses_up : (n m : ℕ) (cs : List (List Lit)) → n ≤ m → ClausesBelow n cs → ClausesBelow m cs
clauses_up n m [] h k = tt
clauses_up n m (c ∷ cs) h k = (all_up n m c h k.0, clauses_up n m cs h k.1)

clauses_both : (n : ℕ) (cs ds : List (List Lit)) → ClausesBelow n cs → ClausesBelow n ds → ClausesBelow n (cs ++ ds)
clauses_both n [] ds h k = k
clauses_both n (c ∷ cs) ds h k = (h.0, clauses_both n cs ds h.1 k)

pub negated_below : (n : ℕ) (l : Lit) → Below n l → Below n (negated l)
negated_below n (Pos m) h = h
negated_below n (Neg m) h = h

value_same : (n : ℕ) (v w : ℕ → Bool) (l : Lit) → Agree n v w → Below n l → value w l ≡ value v l
value_same n v w (Pos m) a h = a m h
value_same n v w (Neg m) a h = ap not (a m h)

clause_same : (n : ℕ) (v w : ℕ → Bool) (c : List Lit) → Agree n v w → AllBelow n c → some_true w c ≡ some_true v c
clause_same n v w [] a h = refl
clause_same n v w (l ∷ ls) a h = λ i. some_of (value_same n v w l a h.0 i) (clause_same n v w ls a h.1 i)

clauses_same : (n : ℕ) (v w : ℕ → Bool) (cs : List (List Lit)) → Agree n v w → ClausesBelow n cs → all_true w cs ≡ all_true v cs
clauses_same n v w [] a h = refl
clauses_same n v w (c ∷ cs) a h = λ i. both (clause_same n v w c a h.0 i) (clauses_same n v w cs a h.1 i)

all_both : (v : ℕ → Bool) (cs ds : List (List Lit)) → all_true v cs ≡ true → all_true v ds ≡ true → all_true v (cs ++ ds) ≡ true
all_both v [] ds h k = k
all_both v (c ∷ cs) ds h k = more (some_true v c) (all_true v cs) h (all_both v cs ds)
  where
    more : (a b : Bool) → both a b ≡ true → (b ≡ true → all_true v ds ≡ true → all_true v (cs ++ ds) ≡ true) → both a (all_true v (cs ++ ds)) ≡ true
    more true b e f = f e k
    more false b e f = e

pub ext_refl : (m : Made) → Sound m → Extends m m
ext_refl m h = record { grows = omega arith; sound = h; back = λ v ok. ok; model = λ v ok. record { v' = v; agree = λ i l. refl; ok = ok } }

-- one after another
pub ext_then : (m m1 m2 : Made) → Extends m m1 → Extends m1 m2 → Extends m m2
ext_then m m1 m2 x y = record {
  grows = let g = x.grows in let h = y.grows in omega arith;
  sound = y.sound;
  back = λ v ok. x.back v (y.back v ok);
  model = λ v ok.
      let p = x.model v ok in
      let q = y.model p.v' p.ok in
      record { v' = q.v'; agree = λ i l. q.agree i (let g = x.grows in omega arith) ∙ p.agree i l; ok = q.ok };
}

-- ---- one more variable

abbrev pub set_var : (ℕ → Bool) → ℕ → Bool → ℕ → Bool
set_var v n b i = if nat_eq i n then b else v i

set_var_same : (v : ℕ → Bool) (n : ℕ) (b : Bool) → set_var v n b n ≡ b
set_var_same v n b = at (nat_eq n n) (grind arith)
  where
    at : (t : Bool) → t ≡ true → (if t then b else v n) ≡ b
    at true e = refl
    at false e = absurd (cc)

set_var_agree : (v : ℕ → Bool) (n : ℕ) (b : Bool) → Agree n v (set_var v n b)
set_var_agree v n b i l = at (nat_eq i n) (grind arith)
  where
    at : (t : Bool) → t ≡ false → (if t then b else v i) ≡ v i
    at true e = absurd (cc)
    at false e = refl

-- a fresh variable may have either value
pub fresh_model : (m : Made) → Sound m → (b : Bool) (v : ℕ → Bool) → Ok v m → Model m (fresh m).made v
fresh_model m h b v ok = record {
  v' = set_var v m.next b;
  agree = set_var_agree v m.next b;
  ok = clauses_same m.next v (set_var v m.next b) m.clauses (set_var_agree v m.next b) h.clauses ∙ ok;
}

pub fresh_extends : (m : Made) → Sound m → Extends m (fresh m).made
fresh_extends m h = record {
  grows = omega arith;
  sound = record { some = omega arith; clauses = clauses_up m.next (suc m.next) m.clauses (omega arith) h.clauses };
  back = λ v ok. ok;
  model = fresh_model m h true;
}

-- a variable that its clauses define
ext_defined : (m : Made) (cs : List (List Lit)) (f : (ℕ → Bool) → Bool) → Sound m → ClausesBelow (suc m.next) cs → ((v : ℕ → Bool) → all_true (set_var v m.next (f v)) cs ≡ true) → Extends m (with_clauses m cs).made
ext_defined m cs f h below holds = record {
  grows = omega arith;
  sound = record { some = omega arith; clauses = clauses_both (suc m.next) m.clauses cs (clauses_up m.next (suc m.next) m.clauses (omega arith) h.clauses) below };
  back = λ v ok. all_first v m.clauses cs ok;
  model = λ v ok. record {
    v' = set_var v m.next (f v);
    agree = set_var_agree v m.next (f v);
    ok = all_both (set_var v m.next (f v)) m.clauses cs (clauses_same m.next v (set_var v m.next (f v)) m.clauses (set_var_agree v m.next (f v)) h.clauses ∙ ok) (holds v);
  };
}

and_ok : (a b : Bool) → both (some_of (not (both a b)) (some_of a false)) (both (some_of (not (both a b)) (some_of b false)) (both (some_of (both a b) (some_of (not a) (some_of (not b) false))) true)) ≡ true
and_ok true true = refl
and_ok true false = refl
and_ok false true = refl
and_ok false false = refl

xor_ok : (a b : Bool) → both (some_of (not (differ a b)) (some_of a (some_of b false))) (both (some_of (not (differ a b)) (some_of (not a) (some_of (not b) false))) (both (some_of (differ a b) (some_of (not a) (some_of b false))) (both (some_of (differ a b) (some_of a (some_of (not b) false))) true))) ≡ true
xor_ok true true = refl
xor_ok true false = refl
xor_ok false true = refl
xor_ok false false = refl

mux_ok : (c a b : Bool) → both (some_of (not c) (some_of (not a) (some_of (chosen c a b) false))) (both (some_of (not c) (some_of a (some_of (not (chosen c a b)) false))) (both (some_of c (some_of (not b) (some_of (chosen c a b) false))) (both (some_of c (some_of b (some_of (not (chosen c a b)) false))) true))) ≡ true
mux_ok true true b = refl
mux_ok true false b = refl
mux_ok false a true = refl
mux_ok false a false = refl

module _ (m : Made) (h : Sound m) where
  -- a literal's value, and its negation's, past one more variable
  old : (v : ℕ → Bool) (b : Bool) (l : Lit) → Below m.next l → value (set_var v m.next b) l ≡ value v l
  old v b l k = value_same m.next v (set_var v m.next b) l (set_var_agree v m.next b) k

  old_not : (v : ℕ → Bool) (b : Bool) (l : Lit) → Below m.next l → value (set_var v m.next b) (negated l) ≡ not (value v l)
  old_not v b l k = negated_value (set_var v m.next b) l ∙ ap not (old v b l k)

  makes_known : (l : Lit) → Below m.next l → Makes m (known l m)
  makes_known l k = record { bit = k; extends = ext_refl m h }

  lift : (l : Lit) → Below m.next l → Below (suc m.next) l
  lift l k = below_up m.next (suc m.next) l (omega arith) k

  lift_not : (l : Lit) → Below m.next l → Below (suc m.next) (negated l)
  lift_not l k = negated_below (suc m.next) l (lift l k)

  here : m.next < suc m.next
  here = omega arith

  makes_new_and : (a b : Lit) → Below m.next a → Below m.next b → Makes m (new_and a b m)
  makes_new_and a b p q = record {
    bit = here;
    extends = ext_defined m _ (λ v. both (value v a) (value v b)) h
        ((here, (lift a p, tt)), ((here, (lift b q, tt)), ((here, (lift_not a p, (lift_not b q, tt))), tt)))
        (λ v. let f = both (value v a) (value v b) in let n = set_var_same v m.next f in let x = old v f a p in let y = old v f b q in let x' = old_not v f a p in let y' = old_not v f b q in
        (λ i. both (some_of (not (n i)) (some_of (x i) false)) (both (some_of (not (n i)) (some_of (y i) false)) (both (some_of (n i) (some_of (x' i) (some_of (y' i) false))) true))) ∙ and_ok (value v a) (value v b));
  }

  makes_new_xor : (a b : Lit) → Below m.next a → Below m.next b → Makes m (new_xor a b m)
  makes_new_xor a b p q = record {
    bit = here;
    extends = ext_defined m _ (λ v. differ (value v a) (value v b)) h
        ((here, (lift a p, (lift b q, tt))), ((here, (lift_not a p, (lift_not b q, tt))), ((here, (lift_not a p, (lift b q, tt))), ((here, (lift a p, (lift_not b q, tt))), tt))))
        (λ v. let f = differ (value v a) (value v b) in let n = set_var_same v m.next f in let x = old v f a p in let y = old v f b q in let x' = old_not v f a p in let y' = old_not v f b q in
        (λ i. both (some_of (not (n i)) (some_of (x i) (some_of (y i) false))) (both (some_of (not (n i)) (some_of (x' i) (some_of (y' i) false))) (both (some_of (n i) (some_of (x' i) (some_of (y i) false))) (both (some_of (n i) (some_of (x i) (some_of (y' i) false))) true)))) ∙ xor_ok (value v a) (value v b));
  }

  makes_new_mux : (c a b : Lit) → Below m.next c → Below m.next a → Below m.next b → Makes m (new_mux c a b m)
  makes_new_mux c a b r p q = record {
    bit = here;
    extends = ext_defined m _ (λ v. chosen (value v c) (value v a) (value v b)) h
        ((lift_not c r, (lift_not a p, (here, tt))), ((lift_not c r, (lift a p, (here, tt))), ((lift c r, (lift_not b q, (here, tt))), ((lift c r, (lift b q, (here, tt))), tt))))
        (λ v. let f = chosen (value v c) (value v a) (value v b) in let n = set_var_same v m.next f in let z = old v f c r in let x = old v f a p in let y = old v f b q in let z' = old_not v f c r in let x' = old_not v f a p in let y' = old_not v f b q in
        (λ i. both (some_of (z' i) (some_of (x' i) (some_of (n i) false))) (both (some_of (z' i) (some_of (x i) (some_of (not (n i)) false))) (both (some_of (z i) (some_of (y' i) (some_of (n i) false))) (both (some_of (z i) (some_of (y i) (some_of (not (n i)) false))) true)))) ∙ mux_ok (value v c) (value v a) (value v b));
  }

  below_F : Below m.next F
  below_F = let s = h.some in omega arith

  below_T : Below m.next T
  below_T = let s = h.some in omega arith

  pub makes_and : (a b : Lit) → Below m.next a → Below m.next b → Makes m (and a b m)
  makes_and a b p q =
      let P : Bit → Type 0 = Makes m in
      by_test P (same a F) _ _ (λ e. makes_known F below_F) λ n.
      by_test P (same b F) _ _ (λ e. makes_known F below_F) λ n.
      by_test P (same a (negated b)) _ _ (λ e. makes_known F below_F) λ n.
      by_test P (same a T) _ _ (λ e. makes_known b q) λ n.
      by_test P (same b T) _ _ (λ e. makes_known a p) λ n.
      by_test P (same a b) _ _ (λ e. makes_known a p) λ n.
      makes_new_and a b p q

  pub makes_or : (a b : Lit) → Below m.next a → Below m.next b → Makes m (or a b m)
  makes_or a b p q =
      let r = makes_and (negated a) (negated b) (negated_below m.next a p) (negated_below m.next b q) in
      record { bit = negated_below _ (and (negated a) (negated b) m).bit r.bit; extends = r.extends }

  pub makes_xor : (a b : Lit) → Below m.next a → Below m.next b → Makes m (xor a b m)
  makes_xor a b p q =
      let P : Bit → Type 0 = Makes m in
      by_test P (same a F) _ _ (λ e. makes_known b q) λ n.
      by_test P (same a T) _ _ (λ e. makes_known (negated b) (negated_below m.next b q)) λ n.
      by_test P (same b F) _ _ (λ e. makes_known a p) λ n.
      by_test P (same b T) _ _ (λ e. makes_known (negated a) (negated_below m.next a p)) λ n.
      by_test P (same a b) _ _ (λ e. makes_known F below_F) λ n.
      by_test P (same a (negated b)) _ _ (λ e. makes_known T below_T) λ n.
      makes_new_xor a b p q

  pub makes_mux : (c a b : Lit) → Below m.next c → Below m.next a → Below m.next b → Makes m (mux c a b m)
  makes_mux c a b r p q =
      let P : Bit → Type 0 = Makes m in
      let r' = negated_below m.next c r in
      by_test P (same c T) _ _ (λ e. makes_known a p) λ n.
      by_test P (same c F) _ _ (λ e. makes_known b q) λ n.
      by_test P (same a b) _ _ (λ e. makes_known a p) λ n.
      by_test P (same a T) _ _ (λ e. makes_or c b r q) λ n.
      by_test P (same a c) _ _ (λ e. makes_or c b r q) λ n.
      by_test P (same a F) _ _ (λ e. makes_and (negated c) b r' q) λ n.
      by_test P (same a (negated c)) _ _ (λ e. makes_and (negated c) b r' q) λ n.
      by_test P (same b T) _ _ (λ e. makes_or (negated c) a r' p) λ n.
      by_test P (same b (negated c)) _ _ (λ e. makes_or (negated c) a r' p) λ n.
      by_test P (same b F) _ _ (λ e. makes_and c a r p) λ n.
      by_test P (same b c) _ _ (λ e. makes_and c a r p) λ n.
      makes_new_mux c a b r p q

pub gates_make : (m : Made) → Sound m → GatesAreMade m
gates_make m h = record { ands = makes_and m h; ors = makes_or m h; xors = makes_xor m h; muxes = makes_mux m h }
