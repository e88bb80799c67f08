-- Rounds give nothing but what every closed family has.
use Rattle.std.specs.Prelude.{◌≡◌, ℕ, ◌<◌, ◌≤◌, Bool, true, List, [], ◌∷◌, length, slice_set}
use Rattle.std.proofs.Common.{arith, get_or, set, sym, subst, ap, inl, inr, ◌∙◌}
use Rattle.std.proofs.lemmas.List.{get_or_past}
use native.Mathlib.Decide.{dec_lt}
use Rattle.l2_runs.specs.declared.member.Member.{Member}
use Rattle.l2_runs.specs.Members.{has}
use Rattle.l2_code.specs.declared.sets.PointsTo.{PointsTo}
use Rattle.l2_inclusions.specs.declared.inclusion.Inclusion.{Inclusion}
use Rattle.l2_inclusions.specs.declared.graph.Edge.{Edge}
use Rattle.l2_inclusions.specs.Inclusions.{Family, IsClosed}
use Rattle.l2_inclusions.specs.Rows.{RowsValue, members_at, number_at, set_at, AreRows, Grows, Brings}
use Rattle.l2_inclusions.specs.Edges.{Fits, GoesAlong}
use Rattle.l2_inclusions.specs.Valuation.{may_have, AreDue}
use Rattle.l2_inclusions.specs.Closing.{AreForced}
use Rattle.l2_inclusions.proofs.Due.{at_node}
use Rattle.l2_inclusions.proofs.Settled.{set_either}
use Rattle.l2_inclusions.proofs.Sharing.{grows_self}
use Rattle.l2_inclusions.proofs.Having.{brings_to_test}

-- a node whose set has a member is one of the rows
in_rows : (r : RowsValue) (n : ℕ) (m : Member) → set_at r n m ≡ true → n < length r.at
in_rows r n m h = go (dec_lt n (length r.at))
  where
    go : Dec (n < length r.at) → n < length r.at
    go (yes l) = l
    go (no l) =
        let e : number_at r n ≡ 0 = get_or_past r.at n 0 (omega (arith, l)) in
        let none : has (members_at r.sets 0) m ≡ true = subst (λ (k : ℕ). has (members_at r.sets k) m ≡ true) e h in
        absurd (cc)

-- a round: rows, then with more nodes, then settled, then with these nodes alone
pub record Round (all : List Inclusion) (r : RowsValue) (more : RowsValue) (done : RowsValue) (end : RowsValue) (edges : List Edge) : Type 0 where
  pub due : AreDue all r edges
  pub sets : more.sets ≡ r.sets
  pub same : (n : ℕ) → number_at more n ≡ number_at r n
  pub goes : GoesAlong edges more done
  pub left : end.sets ≡ done.sets
  pub kept : (n : ℕ) → n < length r.at → number_at end n ≡ number_at done n
  pub none : (n : ℕ) → length r.at ≤ n → number_at end n ≡ 0

pub round_forced : {all : List Inclusion} {r more done end : RowsValue} {edges : List Edge} → Round all r more done end edges → AreForced all r → AreForced all end
round_forced {all = all} {r = r} {more = more} {done = done} {end = end} p forced = record {
  inside = λ f closed n m h.
      let leads = p.due.leads f closed (forced.inside f closed) m in
      let fits : Fits more m (may_have all r f m) = λ x e.
      let old : set_at r x m ≡ true = subst (λ (sets : List PointsTo). has (members_at sets (number_at r x)) m ≡ true) p.sets (subst (λ (k : ℕ). has (members_at more.sets k) m ≡ true) (p.same x) e) in
      at_node all r f m x (in_rows r x m old) ∙ forced.inside f closed x m old
      in
      let after = p.goes.fits m (may_have all r f m) leads fits in
      let there : has (members_at done.sets (number_at end n)) m ≡ true = subst (λ (sets : List PointsTo). has (members_at sets (number_at end n)) m ≡ true) p.left h in
      let low = below n m there (p.none n) in
      sym (at_node all r f m n low) ∙ after n (subst (λ (k : ℕ). has (members_at done.sets k) m ≡ true) (p.kept n low) there);
}
  where
    below : (n : ℕ) (m : Member) → has (members_at done.sets (number_at end n)) m ≡ true → (length r.at ≤ n → number_at end n ≡ 0) → n < length r.at
    below n m h zero_there = go (dec_lt n (length r.at))
      where
        go : Dec (n < length r.at) → n < length r.at
        go (yes l) = l
        go (no l) =
            let none : has (members_at done.sets 0) m ≡ true = subst (λ (k : ℕ). has (members_at done.sets k) m ≡ true) (zero_there (omega (arith, l))) h in
            absurd (cc)

-- rows, then with a set of one member, then with its union with a node's set, then with the node led there
pub record Given (all : List Inclusion) (a : RowsValue) (b : RowsValue) (c : RowsValue) (e : RowsValue) (node : ℕ) (member : Member) (one : ℕ) (old : ℕ) (k : ℕ) : Type 0 where
  pub asked : (f : Family) → IsClosed f all → f node member ≡ true
  pub rows : AreRows a
  pub first : Grows a b
  pub single : (m : Member) (x : Bool) → Brings (member ∷ []) m x → Brings (members_at b.sets one) m x
  pub before : old ≡ number_at b node
  pub second : Grows b c
  pub union : (m : Member) (x : Bool) → Brings (members_at b.sets old) m x → Brings (members_at b.sets one) m x → Brings (members_at c.sets k) m x
  pub sets : e.sets ≡ c.sets
  pub at : e.at ≡ slice_set c.at node k

-- what a node has later it had before, where it is led nowhere else
same_members : (a b c : RowsValue) → AreRows a → Grows a b → Grows b c → (n : ℕ) → members_at c.sets (number_at c n) ≡ members_at a.sets (number_at a n)
same_members a b c r g h n =
    let at : number_at c n ≡ number_at a n = ap (λ (xs : List ℕ). get_or xs n 0) (h.at ∙ g.at) in
    let l = r.numbers n in
    ap (λ (k : ℕ). members_at c.sets k) at ∙ (h.kept (number_at a n) (omega (arith, g.more)) ∙ g.kept (number_at a n) l)

pub given_forced : {all : List Inclusion} {a b c e : RowsValue} {node : ℕ} {member : Member} {one old k : ℕ} → Given all a b c e node member one old k → AreForced all a → AreForced all e
given_forced {all = all} {a = a} {b = b} {c = c} {e = e} {node = node} {member = member} {one = one} {old = old} {k = k} p forced = record {
  inside = λ f closed n m h.
      let at : number_at e n ≡ get_or (set c.at node k) n 0 = ap (λ (xs : List ℕ). get_or xs n 0) p.at in
      let now : has (members_at c.sets (number_at e n)) m ≡ true = subst (λ (sets : List PointsTo). has (members_at sets (number_at e n)) m ≡ true) p.sets h in
      elim (set_either c.at node k n) [
        | inl same ↦
            let there : has (members_at c.sets (number_at c n)) m ≡ true = subst (λ (j : ℕ). has (members_at c.sets j) m ≡ true) (at ∙ same) now in
            forced.inside f closed n m (subst (λ (ms : List Member). has ms m ≡ true) (same_members a b c p.rows p.first p.second n) there)
        | inr put ↦
            let there : has (members_at c.sets k) m ≡ true = subst (λ (j : ℕ). has (members_at c.sets j) m ≡ true) (at ∙ put.0) now in
            let kept : Brings (members_at b.sets old) m (f node m) = record {
              to = λ g.
                  let was : has (members_at b.sets (number_at b node)) m ≡ true = subst (λ (j : ℕ). has (members_at b.sets j) m ≡ true) p.before g in
                  forced.inside f closed node m (subst (λ (ms : List Member). has ms m ≡ true) (same_members a a b p.rows (grows_self a) p.first node) was);
            } in
            let single : Brings (members_at b.sets one) m (f node m) = p.single m (f node m) (brings_to_test member m (f node) (p.asked f closed)) in
            subst (λ (x : ℕ). f x m ≡ true) (sym put.1) ((p.union m (f node m) kept single).to there)
      ];
}
