-- At which row a run falls.
use Rattle.std.proofs.Common.{◌≡◌, ℕ, zero, suc, ℤ, pos, Bool, true, false, List, [], ◌∷◌, Option, Some, None, ◌⊎◌, inl, inr, refl}
use Rattle.std.specs.Prelude.{◌||◌, ◌==◌}
use Rattle.std.specs.Ordering.{int_eq}
use Rattle.l2_runs.specs.declared.outcome.Outcome.{Outcome}
use Rattle.l2_runs.specs.declared.outcome.Outcome.TheVariants.{Stopped, Broken, OutOfTurns}
use Rattle.l2_runs.specs.Store.{Store}
use Rattle.l2_runs.specs.Runs.{State, Over, Fallen, Result, Go, Halt, Run, on_go, and_then, done, either, take_choice, choose, demand, check}
use Rattle.l2_runs.specs.Loops.{Limit, Real, Short, Cut, Test, Tests, Turn, events, or_events, tested, or_next, or_stop, rounds, behind, spend_of, spend, tally, later_copies, limited, loop_of}

-- the first test that fails has this row
abbrev pub FailsFirst : List Test → Store → Store → ℕ → Type 0
FailsFirst [] a b row = ⊥
FailsFirst (t ∷ ts) a b row = ((t.holds a b ≡ false) × (t.row ≡ row)) ⊎ ((t.holds a b ≡ true) × FailsFirst ts a b row)

-- a row that this result fell at is the first one of its loop that fails from some store to the one here
abbrev pub Blames : {A : Type 0} → Tests → Result A → Type 0
Blames tests (Go a s) = Unit {0}
Blames tests (Halt (Over o) s) = Unit {0}
Blames tests (Halt (Fallen l row) s) = (a : Store) × FailsFirst (tests true l) a s.store row

module _ (tests : Tests) where
  pub record Rows {A : Type 0} (r : Run A) : Type 0 where
    pub by : (s : State) → Blames tests (r s)

  -- how loops start back falls at rows that fail alone
  abbrev pub LimitRows : Limit → Type 0
  LimitRows Real = Unit {0}
  LimitRows (Short k) = Unit {0}
  LimitRows (Cut k back) = (l : ℕ) → Rows (back l)

  then_blames : {A B : Type 0} (x : Result A) (f : A → Run B) → Blames tests x → ((a : A) → Rows (f a)) → Blames tests (on_go x f)
  then_blames (Go a s) f h next = (next a).by s
  then_blames (Halt (Over o) s) f h next = tt
  then_blames (Halt (Fallen l row) s) f h next = h

  pub then_rows : {A B : Type 0} {r : Run A} {f : A → Run B} → Rows r → ((a : A) → Rows (f a)) → Rows (and_then r f)
  then_rows {r = r} {f = f} h next = record { by = λ s. then_blames (r s) f (h.by s) next }

  pub done_rows : {A : Type 0} (a : A) → Rows (done a)
  done_rows a = record { by = λ s. tt }

  pub choose_rows : Rows choose
  choose_rows = record { by = λ s. at_choices s s.choices }
    where
      at_choices : (s : State) (cs : List ℤ) → Blames tests (take_choice cs s)
      at_choices s [] = tt
      at_choices s (c ∷ cs) = tt

  spend_rows : Rows spend
  spend_rows = record { by = λ s. spent s s.turns }
    where
      spent : (s : State) (left : ℕ) → Blames tests (spend_of left s)
      spent s zero = tt
      spent s (suc left) = tt

  demand_rows : (y : Bool) (c : ℕ) (ok : Bool) (s : State) → Blames tests (demand y (Over (Broken c)) ok s)
  demand_rows y c true s = tt
  demand_rows true c false s = tt
  demand_rows false c false s = tt

  pub check_rows : (y : Bool) (c : ℕ) (ok : Bool) → Rows (check y c ok)
  check_rows y c ok = record { by = λ s. demand_rows y c (c == 0 || ok) s }

  pub either_rows : {A : Type 0} (b : Bool) {r p : Run A} → Rows r → Rows p → Rows (either b r p)
  either_rows true h k = record { by = λ s. h.by s }
  either_rows false h k = record { by = λ s. k.by s }

  events_rows : (y : Bool) (l : ℕ) (ts : List Test) (a : Store) (s : State) → (y ≡ true → (row : ℕ) → FailsFirst ts a s.store row → FailsFirst (tests true l) a s.store row) → Blames tests (events y l ts a s)
  events_rows y l [] a s wide = tt
  events_rows y l (t ∷ ts) a s wide = one (t.holds a s.store) refl (events_rows y l ts a s)
    where
      one : (ok : Bool) → t.holds a s.store ≡ ok → ((y ≡ true → (row : ℕ) → FailsFirst ts a s.store row → FailsFirst (tests true l) a s.store row) → Blames tests (events y l ts a s)) → Blames tests (on_go (demand y (Fallen l t.row) ok s) (λ u. events y l ts a))
      one true e rest = rest (λ h row f. wide h row (inr (e, f)))
      one false e rest = failed y refl
        where
          failed : (w : Bool) → y ≡ w → Blames tests (on_go (demand w (Fallen l t.row) false s) (λ u. events y l ts a))
          failed true h = (a, wide h t.row (inl (e, refl)))
          failed false h = tt

  module _ (F : Type 0) where
    or_events_rows : (y : Bool) (l : ℕ) (a : Store) (x : Unit {0} × Option F) → Rows (or_events y l (tests y l) a x)
    or_events_rows y l a (c, None) = record { by = λ s. then_blames (events y l (tests y l) a s) (λ u. done (c, None)) (in_way y s) (λ u. done_rows (c, None)) }
      where
        in_way : (w : Bool) (s : State) → Blames tests (events w l (tests w l) a s)
        in_way true s = events_rows true l (tests true l) a s (λ h row f. f)
        in_way false s = events_rows false l (tests false l) a s (λ h row f. cc)
    or_events_rows y l a (c, Some v) = record { by = λ s. tt }

    next_rows : (f : Unit {0} → Run (Unit {0} × F)) → Rows (f tt) → (x : Unit {0} × Option F) → Rows (or_next f x)
    next_rows f h (c, None) = record { by = λ s. h.by s }
    next_rows f h (c, Some v) = record { by = λ s. tt }

    stop_rows : (f : Unit {0} → Run (Unit {0} × F)) → Rows (f tt) → (x : Unit {0} × Option F) → Rows (or_stop f x)
    stop_rows f h (c, None) = record { by = λ s. h.by s }
    stop_rows f h (c, Some v) = record { by = λ s. tt }

    rounds_rows : (o : Outcome) (n : ℕ) (f : Turn (Unit {0}) F) → Rows (f tt) → Rows (rounds (Over o) n f tt)
    rounds_rows o zero f h = record { by = λ s. tt }
    rounds_rows o (suc n) f h = then_rows {f = or_next (rounds (Over o) n f)} h (next_rows (rounds (Over o) n f) (rounds_rows o n f h))

    module _ (f : Bool → Turn (Unit {0}) F) (rows : (y : Bool) → Rows (f y tt)) where
      later_rows : (y : Bool) (n : ℕ) → Rows (later_copies n f y tt)
      later_rows y zero = rounds_rows Stopped 1 (f y) (rows y)
      later_rows y (suc n) = then_rows {f = or_stop (later_copies n f y)} (rows false) (stop_rows (later_copies n f y) (later_rows y n))

      pub limited_rows : (limit : Limit) → LimitRows limit → (l : ℕ) (y : Bool) → Rows (limited limit l f y tt)
      limited_rows Real q l y = record { by = λ s. (rounds_rows OutOfTurns s.turns (behind spend (f y)) (then_rows spend_rows (λ u. rows y))).by s }
      limited_rows (Short k) q l y = record { by = λ s. (rounds_rows Stopped k (behind tally (f y)) (then_rows {r = tally} (record { by = λ s. tt }) (λ u. rows y))).by s }
      limited_rows (Cut zero back) q l y = record { by = λ s. tt }
      limited_rows (Cut (suc k) back) q l y = record {
        by = λ s. (then_rows choose_rows (λ z. either_rows (int_eq z (pos 0)) (rounds_rows Stopped (suc k) (f y) (rows y)) (then_rows (q l) (λ u. later_rows y k)))).by s;
      }

  pub loop_rows : {F : Type 0} (limit : Limit) → LimitRows limit → (l : ℕ) (f : Bool → Turn (Unit {0}) F) → ((y : Bool) → Rows (f y tt)) → (y : Bool) → Rows (loop_of limit tests l f y tt)
  loop_rows {F} limit q l f rows y =
      limited_rows F (tested tests l f) (λ c. record { by = λ s. then_blames (f c tt s) (or_events c l (tests c l) s.store) ((rows c).by s) (or_events_rows F c l s.store) }) limit q l y
