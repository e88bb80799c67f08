-- Runs keep what holds of the store where their parts do.
use Rattle.std.proofs.Common.{ℕ, zero, suc, ℤ, pos, Bool, true, false, List, [], ◌∷◌, Option, Some, None}
use Rattle.std.specs.Prelude.{◌||◌, ◌==◌}
use Rattle.std.specs.Ordering.{int_eq}
use Rattle.l2_runs.specs.declared.cells.CellValue.{CellValue}
use Rattle.l2_runs.specs.declared.outcome.Outcome.TheVariants.{Stopped, Broken, OutOfTurns}
use Rattle.l2_runs.specs.Store.{Address, Store, with_cell, with_live}
use Rattle.l2_runs.specs.Runs.{State, End, Over, Fallen, Result, Go, Halt, Run, on_go, and_then, done, over, either, take_choice, choose, write, enliven, bury, demand, check}
use Rattle.l2_runs.specs.Loops.{Limit, Real, Short, Cut, Test, Tests, Turn, events, or_events, tested, or_next, or_stop, rounds, behind, spend_of, spend, tally, later_copies, limited, loop_of}
use Rattle.l2_runs.specs.Keeps.{Anything}
use Rattle.l2_code_laws.specs.Preserved.{ResultHolds, Preserves, LimitPreserves}

module _ (Inv : Store → Type 0) where
  abbrev pub Fit : {A : Type 0} → (A → Type 0) → Result A → Type 0
  Fit IsSo x = ResultHolds Inv IsSo x

  abbrev pub Keep : {A : Type 0} → (A → Type 0) → Run A → Type 0
  Keep IsSo r = Preserves Inv IsSo r

  pub then_fit : {A B : Type 0} {P : A → Type 0} {Q : B → Type 0} (x : Result A) (f : A → Run B) → Fit P x → ((a : A) → P a → Keep Q (f a)) → Fit Q (on_go x f)
  then_fit (Go a s) f (p, h) next = (next a p).by s h
  then_fit (Halt e s) f h next = h

  pub then_keep : {A B : Type 0} {P : A → Type 0} {Q : B → Type 0} {r : Run A} {f : A → Run B} → Keep P r → ((a : A) → P a → Keep Q (f a)) → Keep Q (and_then r f)
  then_keep {r = r} {f = f} h next = record { by = λ s k. then_fit (r s) f (h.by s k) next }

  pub done_keep : {A : Type 0} {P : A → Type 0} (a : A) → P a → Keep P (done a)
  done_keep a p = record { by = λ s k. (p, k) }

  pub over_keep : {A : Type 0} {P : A → Type 0} (e : End) → Keep P (over {A = A} e)
  over_keep e = record { by = λ s k. k }

  pub either_keep : {A : Type 0} {P : A → Type 0} (b : Bool) {r q : Run A} → Keep P r → Keep P q → Keep P (either b r q)
  either_keep true h k = record { by = λ s f. h.by s f }
  either_keep false h k = record { by = λ s f. k.by s f }

  pub choose_keep : Keep Anything choose
  choose_keep = record { by = λ s k. at_choices s.choices s k } where
    at_choices : (cs : List ℤ) (s : State) → Inv s.store → Fit Anything (take_choice cs s)
    at_choices [] s k = k
    at_choices (c ∷ cs) s k = (tt, k)

  pub write_keep : (a : Address) (v : CellValue) → ((st : Store) → Inv st → Inv (with_cell st a v)) → Keep Anything (write a v)
  write_keep a v h = record { by = λ s k. (tt, h s.store k) }

  pub enliven_keep : (n : ℕ) → ((st : Store) → Inv st → Inv (with_live st n true)) → Keep Anything (enliven n)
  enliven_keep n h = record { by = λ s k. (tt, h s.store k) }

  pub bury_keep : (n : ℕ) → ((st : Store) → Inv st → Inv (with_live st n false)) → Keep Anything (bury n)
  bury_keep n h = record { by = λ s k. (tt, h s.store k) }

  demand_fit : (y : Bool) (e : End) (ok : Bool) (s : State) → Inv s.store → Fit Anything (demand y e ok s)
  demand_fit y e true s k = (tt, k)
  demand_fit true e false s k = k
  demand_fit false e false s k = k

  pub check_keep : (y : Bool) (c : ℕ) (ok : Bool) → Keep Anything (check y c ok)
  check_keep y c ok = record { by = λ s k. demand_fit y (Over (Broken c)) (c == 0 || ok) s k }

  -- ---- loops

  events_fit : (y : Bool) (l : ℕ) (ts : List Test) (a : Store) (s : State) → Inv s.store → Fit Anything (events y l ts a s)
  events_fit y l [] a s k = (tt, k)
  events_fit y l (t ∷ ts) a s k = then_fit (demand y (Fallen l t.row) (t.holds a s.store) s) (λ u. events y l ts a) (demand_fit y (Fallen l t.row) (t.holds a s.store) s k) (λ u p. record { by = λ s k. events_fit y l ts a s k })

  module _ {C F : Type 0} (P : C → Type 0) (Q : C → F → Type 0) where
    -- what a turn hands on, and how it leaves the loop
    abbrev pub Turned : C × Option F → Type 0
    Turned (c, None) = P c
    Turned (c, Some f) = Q c f

    abbrev pub IsLeft : C × F → Type 0
    IsLeft (c, f) = Q c f

    tested_fit : (y : Bool) (l : ℕ) (ts : List Test) (a : Store) (x : C × Option F) → Turned x → (s : State) → Inv s.store → Fit Turned (or_events y l ts a x s)
    tested_fit y l ts a (c, None) p s k = then_fit (events y l ts a s) (λ u. done (c, None)) (events_fit y l ts a s k) (λ u q. done_keep (c, None) p)
    tested_fit y l ts a (c, Some f) p s k = (p, k)

    tested_keep : (tests : Tests) (l : ℕ) (turn : Bool → Turn C F) (y : Bool) (c : C) → Keep Turned (turn y c) → Keep Turned (tested tests l turn y c)
    tested_keep tests l turn y c h = record { by = λ s k. then_fit (turn y c s) (or_events y l (tests y l) s.store) (h.by s k) (λ x p. record { by = λ t f. tested_fit y l (tests y l) s.store x p t f }) }

    next_keep : (f : C → Run (C × F)) → ((c : C) → P c → Keep IsLeft (f c)) → (x : C × Option F) → Turned x → Keep IsLeft (or_next f x)
    next_keep f h (c, None) p = record { by = λ s k. (h c p).by s k }
    next_keep f h (c, Some v) p = record { by = λ s k. (p, k) }

    stop_keep : (f : C → Run (C × F)) → ((c : C) → P c → Keep IsLeft (f c)) → (x : C × Option F) → Turned x → Keep IsLeft (or_stop f x)
    stop_keep f h (c, None) p = record { by = λ s k. (h c p).by s k }
    stop_keep f h (c, Some v) p = record { by = λ s k. k }

    rounds_keep : (e : End) (n : ℕ) (f : Turn C F) → ((c : C) → P c → Keep Turned (f c)) → (c : C) → P c → Keep IsLeft (rounds e n f c)
    rounds_keep e zero f h c p = over_keep e
    rounds_keep e (suc n) f h c p = then_keep (h c p) (λ x t. next_keep (rounds e n f) (rounds_keep e n f h) x t)

    module _ (turn : Bool → Turn C F) (keep : (y : Bool) (c : C) → P c → Keep Turned (turn y c)) where
      later_keep : (y : Bool) (n : ℕ) (c : C) → P c → Keep IsLeft (later_copies n turn y c)
      later_keep y zero c p = rounds_keep (Over Stopped) 1 (turn y) (keep y) c p
      later_keep y (suc n) c p = then_keep (keep false c p) (λ x t. stop_keep (later_copies n turn y) (later_keep y n) x t)

      spend_keep : Keep Anything spend
      spend_keep = record { by = λ s k. at_turns s.turns s k } where
        at_turns : (left : ℕ) (s : State) → Inv s.store → Fit Anything (spend_of left s)
        at_turns zero s k = k
        at_turns (suc left) s k = (tt, k)

      tally_keep : Keep Anything tally
      tally_keep = record { by = λ s k. (tt, k) }

      limited_keep : (limit : Limit) → LimitPreserves Inv limit → (l : ℕ) (y : Bool) (c : C) → P c → Keep IsLeft (limited limit l turn y c)
      limited_keep Real q l y c p = record { by = λ s k. (rounds_keep (Over OutOfTurns) s.turns (behind spend (turn y)) (λ c p. then_keep spend_keep (λ u w. keep y c p)) c p).by s k }
      limited_keep (Short n) q l y c p = record { by = λ s k. (rounds_keep (Over Stopped) n (behind tally (turn y)) (λ c p. then_keep tally_keep (λ u w. keep y c p)) c p).by s k }
      limited_keep (Cut zero back) q l y c p = record { by = λ s k. k }
      limited_keep (Cut (suc n) back) q l y c p = record {
        by = λ s k. (then_keep choose_keep (λ z w. either_keep (int_eq z (pos 0)) (rounds_keep (Over Stopped) (suc n) (turn y) (keep y) c p) (then_keep (q l) (λ u w. later_keep y n c p)))).by s k;
      }

    pub loop_keep : (limit : Limit) → LimitPreserves Inv limit → (tests : Tests) (l : ℕ) (turn : Bool → Turn C F) → ((y : Bool) (c : C) → P c → Keep Turned (turn y c)) → (y : Bool) (c : C) → P c → Keep IsLeft (loop_of limit tests l turn y c)
    loop_keep limit q tests l turn keep y c p = limited_keep (tested tests l turn) (λ y c p. tested_keep tests l turn y c (keep y c p)) limit q l y c p
