-- Loops do the same where their turns do.
use Rattle.std.proofs.Common.{◌≡◌, ℕ, zero, suc, ℤ, pos, Bool, false, List, [], ◌∷◌, Option, Some, None, refl, subst}
use Rattle.std.specs.Ordering.{int_eq}
use Rattle.l2_runs.specs.declared.outcome.Outcome.{Outcome}
use Rattle.l2_runs.specs.declared.outcome.Outcome.TheVariants.{Stopped, OutOfTurns, OutOfChoices}
use Rattle.l2_runs.specs.Store.{Store}
use Rattle.l2_runs.specs.Fits.{Layout, StoreFits}
use Rattle.l2_runs.specs.Runs.{State, End, Over, Fallen, Run, and_then, done, either, demand}
use Rattle.l2_runs.specs.Loops.{Limit, Real, Short, Cut, Test, Tests, Turn, events, or_events, tested, or_next, or_stop, rounds, behind, spend_of, spend, tally, copies, later_copies, limited, loop_of}
use Rattle.l2_lower.proofs.Matches.{AnyTwo, Match, Matches, then_match, then_matches, done_matches, over_matches, either_matches, demand_match, choose_matches}

module _ (layout : Layout) (Fine : End → Type 0) where
  -- how a loop starts back does the same on both sides
  abbrev pub StartsAlike : Limit → Type 0
  StartsAlike Real = Unit {0}
  StartsAlike (Short k) = Unit {0}
  StartsAlike (Cut k back) = (l : ℕ) → Matches layout Fine AnyTwo (back l) (back l)

  -- every outcome is fine, and so is a row of this loop that fails
  pub record AreFine (l : ℕ) : Type 0 where
    pub over : (o : Outcome) → Fine (Over o)
    pub fallen : (row : ℕ) → Fine (Fallen l row)

  events_match : (y : Bool) (l : ℕ) → AreFine l → (ts : List Test) (a : Store) (s : State) → StoreFits layout s.store → Match layout Fine AnyTwo (events y l ts a s) (events y l ts a s)
  events_match y l ok [] a s k = (tt, refl, k)
  events_match y l ok (t ∷ ts) a s k =
      then_match layout Fine (demand y (Fallen l t.row) (t.holds a s.store) s) (demand y (Fallen l t.row) (t.holds a s.store) s) (λ u. events y l ts a) (λ u. events y l ts a)
      (demand_match layout Fine y (Fallen l t.row) (t.holds a s.store) (ok.fallen t.row) (ok.over Stopped) s k) (λ u w h. record { by = λ s k. events_match y l ok ts a s k })

  spend_matches : Fine (Over OutOfTurns) → Matches layout Fine AnyTwo spend spend
  spend_matches p = record { by = λ s k. at_turns s.turns s k } where
    at_turns : (left : ℕ) (s : State) → StoreFits layout s.store → Match layout Fine AnyTwo (spend_of left s) (spend_of left s)
    at_turns zero s k = (refl, refl, p)
    at_turns (suc left) s k = (tt, refl, k)

  tally_matches : Matches layout Fine AnyTwo tally tally
  tally_matches = record { by = λ s k. (tt, refl, k) }

module _ (layout : Layout) (Fine : End → Type 0) {C F G : Type 0} (P : C → Type 0) (Q : F → C → G → Type 0) (l : ℕ) (ok : AreFine layout Fine l) where
  -- what turns hand on, and how they leave the loop
  abbrev pub Turned : (Unit {0}) × Option F → C × Option G → Type 0
  Turned (u, None) (c, None) = P c
  Turned (u, None) (c, Some g) = ⊥
  Turned (u, Some f) (c, None) = ⊥
  Turned (u, Some f) (c, Some g) = Q f c g

  abbrev pub Left : (Unit {0}) × F → C × G → Type 0
  Left (u, f) (c, g) = Q f c g

  tested_match : (y : Bool) (ts : List Test) (a : Store) (x : (Unit {0}) × Option F) (z : C × Option G) → Turned x z → Matches layout Fine Turned (or_events y l ts a x) (or_events y l ts a z)
  tested_match y ts a (u, None) (c, None) p = record {
    by = λ s k. then_match layout Fine (events y l ts a s) (events y l ts a s) (λ v. done (u, None)) (λ v. done (c, None)) (events_match layout Fine y l ok ts a s k) (λ v w h. done_matches layout Fine (u, None) (c, None) p);
  }
  tested_match y ts a (u, None) (c, Some g) p = absurd p
  tested_match y ts a (u, Some f) (c, None) p = absurd p
  tested_match y ts a (u, Some f) (c, Some g) p = record { by = λ s k. (p, refl, k) }

  tested_matches : (tests : Tests) (turn : Bool → Turn (Unit {0}) F) (turn' : Bool → Turn C G) (y : Bool) (c : C) → Matches layout Fine Turned (turn y tt) (turn' y c) → Matches layout Fine Turned (tested tests l turn y tt) (tested tests l turn' y c)
  tested_matches tests turn turn' y c h = record { by = λ s k. then_match layout Fine (turn y tt s) (turn' y c s) (or_events y l (tests y l) s.store) (or_events y l (tests y l) s.store) (h.by s k) (λ x z p. tested_match y (tests y l) s.store x z p) }

  next_matches : (f : Unit {0} → Run (Unit {0} × F)) (g : C → Run (C × G)) → ((c : C) → P c → Matches layout Fine Left (f tt) (g c)) → (x : (Unit {0}) × Option F) (z : C × Option G) → Turned x z → Matches layout Fine Left (or_next f x) (or_next g z)
  next_matches f g h (u, None) (c, None) p = record { by = λ s k. (h c p).by s k }
  next_matches f g h (u, None) (c, Some v) p = absurd p
  next_matches f g h (u, Some w) (c, None) p = absurd p
  next_matches f g h (u, Some w) (c, Some v) p = record { by = λ s k. (p, refl, k) }

  stop_matches : (f : Unit {0} → Run (Unit {0} × F)) (g : C → Run (C × G)) → ((c : C) → P c → Matches layout Fine Left (f tt) (g c)) → (x : (Unit {0}) × Option F) (z : C × Option G) → Turned x z → Matches layout Fine Left (or_stop f x) (or_stop g z)
  stop_matches f g h (u, None) (c, None) p = record { by = λ s k. (h c p).by s k }
  stop_matches f g h (u, None) (c, Some v) p = absurd p
  stop_matches f g h (u, Some w) (c, None) p = absurd p
  stop_matches f g h (u, Some w) (c, Some v) p = record { by = λ s k. (refl, refl, ok.over Stopped) }

  rounds_match : (e : End) → Fine e → (n : ℕ) (f : Turn (Unit {0}) F) (g : Turn C G) → ((c : C) → P c → Matches layout Fine Turned (f tt) (g c)) → (c : C) → P c → Matches layout Fine Left (rounds e n f tt) (rounds e n g c)
  rounds_match e q zero f g h c p = over_matches layout Fine e q
  rounds_match e q (suc n) f g h c p = then_matches layout Fine (h c p) (λ x z t. next_matches (rounds e n f) (rounds e n g) (rounds_match e q n f g h) x z t)

  module _ (turn : Bool → Turn (Unit {0}) F) (turn' : Bool → Turn C G) (same : (y : Bool) (c : C) → P c → Matches layout Fine Turned (turn y tt) (turn' y c)) where
    later_match : (y : Bool) (n : ℕ) (c : C) → P c → Matches layout Fine Left (later_copies n turn y tt) (later_copies n turn' y c)
    later_match y zero c p = rounds_match (Over Stopped) (ok.over Stopped) 1 (turn y) (turn' y) (same y) c p
    later_match y (suc n) c p = then_matches layout Fine (same false c p) (λ x z t. stop_matches (later_copies n turn y) (later_copies n turn' y) (later_match y n) x z t)

    limited_match : (limit : Limit) → StartsAlike layout Fine limit → (y : Bool) (c : C) → P c → Matches layout Fine Left (limited limit l turn y tt) (limited limit l turn' y c)
    limited_match Real q y c p = record {
      by = λ s k. (rounds_match (Over OutOfTurns) (ok.over OutOfTurns) s.turns (behind spend (turn y)) (behind spend (turn' y)) (λ c p. then_matches layout Fine (spend_matches layout Fine (ok.over OutOfTurns)) (λ u w h. same y c p)) c p).by s k;
    }
    limited_match (Short n) q y c p = record {
      by = λ s k. (rounds_match (Over Stopped) (ok.over Stopped) n (behind tally (turn y)) (behind tally (turn' y)) (λ c p. then_matches layout Fine (tally_matches layout Fine) (λ u w h. same y c p)) c p).by s k;
    }
    limited_match (Cut zero back) q y c p = record { by = λ s k. (refl, refl, ok.over Stopped) }
    limited_match (Cut (suc n) back) q y c p = record {
      by = λ s k. (then_matches layout Fine (choose_matches layout Fine (ok.over OutOfChoices)) (chosen n back q y c p)).by s k;
    } where
      chosen : (n : ℕ) (back : ℕ → Run (Unit {0})) → StartsAlike layout Fine (Cut (suc n) back) → (y : Bool) (c : C) → P c → (z z' : ℤ) → (z ≡ z') → Matches layout Fine Left (either (int_eq z (pos 0)) (copies (suc n) turn y tt) (and_then (back l) (λ u. later_copies n turn y tt))) (either (int_eq z' (pos 0)) (copies (suc n) turn' y c) (and_then (back l) (λ u. later_copies n turn' y c)))
      chosen n back q y c p z z' e =
          subst (λ v. Matches layout Fine Left (either (int_eq z (pos 0)) (copies (suc n) turn y tt) (and_then (back l) (λ u. later_copies n turn y tt))) (either (int_eq v (pos 0)) (copies (suc n) turn' y c) (and_then (back l) (λ u. later_copies n turn' y c)))) e
          (either_matches layout Fine (int_eq z (pos 0)) (rounds_match (Over Stopped) (ok.over Stopped) (suc n) (turn y) (turn' y) (same y) c p) (then_matches layout Fine (q l) (λ u v h. later_match y n c p)))

  pub loop_match : (limit : Limit) → StartsAlike layout Fine limit → (tests : Tests) (turn : Bool → Turn (Unit {0}) F) (turn' : Bool → Turn C G) → ((y : Bool) (c : C) → P c → Matches layout Fine Turned (turn y tt) (turn' y c)) → (y : Bool) (c : C) → P c → Matches layout Fine Left (loop_of limit tests l turn y tt) (loop_of limit tests l turn' y c)
  loop_match limit q tests turn turn' same y c p = limited_match (tested tests l turn) (tested tests l turn') (λ y c p. tested_matches tests turn turn' y c (same y c p)) limit q y c p
