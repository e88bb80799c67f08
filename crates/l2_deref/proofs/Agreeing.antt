-- Runs that agree from all stores of which a fact holds.
use Rattle.std.proofs.Common.{◌≡◌, refl, ap, ◌∙◌, ℕ, zero, suc, pos, Bool, true, false, List, [], ◌∷◌, Option, Some, None}
use Rattle.std.specs.Ordering.{int_eq}
use Rattle.l2_runs.specs.declared.outcome.Outcome.TheVariants.{Stopped, OutOfTurns}
use Rattle.l2_runs.specs.Store.{Store}
use Rattle.l2_runs.specs.Runs.{State, End, Over, Fallen, Result, Go, Halt, Run, on_go, and_then, done, over, either, choose, demand}
use Rattle.l2_runs.specs.Loops.{Limit, Real, Short, Cut, Test, Tests, Turn, events, or_events, tested, or_next, or_stop, rounds, behind, spend_of, spend, tally, later_copies, limited, loop_of}
use Rattle.l2_runs.specs.Keeps.{Anything}
use Rattle.l2_code_laws.specs.Preserved.{ResultHolds, Preserves, LimitPreserves}
use Rattle.l2_code_laws.proofs.Preserving.{Turned, then_fit, then_keep, done_keep, choose_keep}

pub record Agree (Inv : Store → Type 0) {A : Type 0} (r : Run A) (q : Run A) : Type 0 where
  pub at : (s : State) → Inv s.store → q s ≡ r s

module _ (Inv : Store → Type 0) where
  pub same : {A : Type 0} (r : Run A) → Agree Inv r r
  same r = record { at = λ s k. refl }

  go_agree : {A B : Type 0} (P : A → Type 0) (x : Result A) → ResultHolds Inv P x → (f h : A → Run B) → ((a : A) → P a → Agree Inv (f a) (h a)) → on_go x h ≡ on_go x f
  go_agree P (Go a s) (p, k) f h next = (next a p).at s k
  go_agree P (Halt e s) k f h next = refl

  pub then_agree : {A B : Type 0} (P : A → Type 0) {r q : Run A} {f h : A → Run B} → Preserves Inv P r → Agree Inv r q → ((a : A) → P a → Agree Inv (f a) (h a)) → Agree Inv (and_then r f) (and_then q h)
  then_agree P {r = r} {q = q} {f = f} {h = h} keep first next = record { at = λ s k. ap (λ x. on_go x h) (first.at s k) ∙ go_agree P (r s) (keep.by s k) f h next }

  spend_keep : Preserves Inv Anything spend
  spend_keep = record { by = λ s k. at_turns s.turns s k } where
    at_turns : (left : ℕ) (s : State) → Inv s.store → ResultHolds Inv Anything (spend_of left s)
    at_turns zero s k = k
    at_turns (suc left) s k = (tt, k)

  tally_keep : Preserves Inv Anything tally
  tally_keep = record { by = λ s k. (tt, k) }

  demand_fit : (y : Bool) (e : End) (ok : Bool) (s : State) → Inv s.store → ResultHolds Inv Anything (demand y e ok s)
  demand_fit y e true s k = (tt, k)
  demand_fit true e false s k = k
  demand_fit false e false s k = k

  events_fit : (y : Bool) (l : ℕ) (ts : List Test) (a : Store) (s : State) → Inv s.store → ResultHolds Inv Anything (events y l ts a s)
  events_fit y l [] a s k = (tt, k)
  events_fit y l (t ∷ ts) a s k =
      then_fit Inv (demand y (Fallen l t.row) (t.holds a s.store) s) (λ u. events y l ts a) (demand_fit y (Fallen l t.row) (t.holds a s.store) s k) (λ u p. record { by = λ s k. events_fit y l ts a s k })

  either_agree : {A : Type 0} (b : Bool) {r q u v : Run A} → Agree Inv r q → Agree Inv u v → Agree Inv (either b r u) (either b q v)
  either_agree true x y = record { at = λ s k. x.at s k }
  either_agree false x y = record { at = λ s k. y.at s k }

  module _ {C F : Type 0} (P : C → Type 0) (Q : C → F → Type 0) where
    next_agree : (f h : C → Run (C × F)) → ((c : C) → P c → Agree Inv (f c) (h c)) → (x : C × Option F) → Turned Inv P Q x → Agree Inv (or_next f x) (or_next h x)
    next_agree f h all (c, None) p = record { at = λ s k. (all c p).at s k }
    next_agree f h all (c, Some v) p = record { at = λ s k. refl }

    stop_agree : (f h : C → Run (C × F)) → ((c : C) → P c → Agree Inv (f c) (h c)) → (x : C × Option F) → Turned Inv P Q x → Agree Inv (or_stop f x) (or_stop h x)
    stop_agree f h all (c, None) p = record { at = λ s k. (all c p).at s k }
    stop_agree f h all (c, Some v) p = record { at = λ s k. refl }

    rounds_agree : (e : End) (n : ℕ) (f h : Turn C F) → ((c : C) → P c → Preserves Inv (Turned Inv P Q) (f c)) → ((c : C) → P c → Agree Inv (f c) (h c)) → (c : C) → P c → Agree Inv (rounds e n f c) (rounds e n h c)
    rounds_agree e zero f h keep all c p = same (over e)
    rounds_agree e (suc n) f h keep all c p = then_agree (Turned Inv P Q) (keep c p) (all c p) (λ x t. next_agree (rounds e n f) (rounds e n h) (rounds_agree e n f h keep all) x t)

    module _ (turn other : Bool → Turn C F) (keep : (y : Bool) (c : C) → P c → Preserves Inv (Turned Inv P Q) (turn y c)) (all : (y : Bool) (c : C) → P c → Agree Inv (turn y c) (other y c)) where
      later_agree : (y : Bool) (n : ℕ) (c : C) → P c → Agree Inv (later_copies n turn y c) (later_copies n other y c)
      later_agree y zero c p = rounds_agree (Over Stopped) 1 (turn y) (other y) (keep y) (all y) c p
      later_agree y (suc n) c p = then_agree (Turned Inv P Q) (keep false c p) (all false c p) (λ x t. stop_agree (later_copies n turn y) (later_copies n other y) (later_agree y n) x t)

      limited_agree : (limit : Limit) → LimitPreserves Inv limit → (l : ℕ) (y : Bool) (c : C) → P c → Agree Inv (limited limit l turn y c) (limited limit l other y c)
      limited_agree Real q l y c p = record {
        at = λ s k. (rounds_agree (Over OutOfTurns) s.turns (behind spend (turn y)) (behind spend (other y)) (λ c p. then_keep Inv spend_keep (λ u w. keep y c p)) (λ c p. then_agree Anything spend_keep (same spend) (λ u w. all y c p)) c p).at s k;
      }
      limited_agree (Short n) q l y c p = record {
        at = λ s k. (rounds_agree (Over Stopped) n (behind tally (turn y)) (behind tally (other y)) (λ c p. then_keep Inv tally_keep (λ u w. keep y c p)) (λ c p. then_agree Anything tally_keep (same tally) (λ u w. all y c p)) c p).at s k;
      }
      limited_agree (Cut zero back) q l y c p = record { at = λ s k. refl }
      limited_agree (Cut (suc n) back) q l y c p = record {
        at = λ s k. (then_agree Anything (choose_keep Inv) (same choose) (λ z w. either_agree (int_eq z (pos 0)) (rounds_agree (Over Stopped) (suc n) (turn y) (other y) (keep y) (all y) c p) (then_agree Anything (q l) (same (back l)) (λ u w. later_agree y n c p)))).at s k;
      }

    tested_fit : (y : Bool) (l : ℕ) (ts : List Test) (a : Store) (x : C × Option F) → Turned Inv P Q x → (s : State) → Inv s.store → ResultHolds Inv (Turned Inv P Q) (or_events y l ts a x s)
    tested_fit y l ts a (c, None) p s k = then_fit Inv (events y l ts a s) (λ u. done (c, None)) (events_fit y l ts a s k) (λ u q. done_keep Inv (c, None) p)
    tested_fit y l ts a (c, Some f) p s k = (p, k)

    tested_keep : (tests : Tests) (l : ℕ) (turn : Bool → Turn C F) (y : Bool) (c : C) → Preserves Inv (Turned Inv P Q) (turn y c) → Preserves Inv (Turned Inv P Q) (tested tests l turn y c)
    tested_keep tests l turn y c h = record { by = λ s k. then_fit Inv (turn y c s) (or_events y l (tests y l) s.store) (h.by s k) (λ x p. record { by = λ t f. tested_fit y l (tests y l) s.store x p t f }) }

    tested_agree : (tests : Tests) (l : ℕ) (turn other : Bool → Turn C F) (y : Bool) (c : C) → Agree Inv (turn y c) (other y c) → Agree Inv (tested tests l turn y c) (tested tests l other y c)
    tested_agree tests l turn other y c h = record { at = λ s k. ap (λ x. on_go x (or_events y l (tests y l) s.store)) (h.at s k) }

    pub loop_agree : (limit : Limit) → LimitPreserves Inv limit → (tests : Tests) (l : ℕ) (turn other : Bool → Turn C F) → ((y : Bool) (c : C) → P c → Preserves Inv (Turned Inv P Q) (turn y c)) → ((y : Bool) (c : C) → P c → Agree Inv (turn y c) (other y c))
        → (y : Bool) (c : C) → P c → Agree Inv (loop_of limit tests l turn y c) (loop_of limit tests l other y c)
    loop_agree limit q tests l turn other keep all y c p =
        limited_agree (tested tests l turn) (tested tests l other) (λ y c p. tested_keep tests l turn y c (keep y c p)) (λ y c p. tested_agree tests l turn other y c (all y c p)) limit q l y c p
