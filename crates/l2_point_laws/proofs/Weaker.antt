-- Where a cut run under stronger tests goes, one under weaker tests goes alike; where it falls at a watched row, the other falls too.
use Rattle.std.proofs.Common.{◌≡◌, ℕ, zero, suc, pos, Bool, true, false, Option, Some, None, refl, sym, subst}
use Rattle.std.specs.Ordering.{int_eq}
use Rattle.l2_runs.specs.declared.outcome.Outcome.TheVariants.{Stopped}
use Rattle.l2_runs.specs.Store.{Store}
use Rattle.l2_runs.specs.Runs.{State, Over, Fallen, Result, Go, Halt, Run, on_go, and_then, done, stop, either, choose}
use Rattle.l2_runs.specs.Loops.{Cut, Tests, Turn, events, or_events, tested, or_next, or_stop, rounds, later_copies, loop_of}
use Rattle.l2_run_laws.proofs.Meeting.{HasFallen}

fallen_on : {A B : Type 0} (x : Result A) (f : A → Run B) → HasFallen x → HasFallen (on_go x f)
fallen_on (Go a s) f h = absurd h
fallen_on (Halt (Over o) s) f h = absurd h
fallen_on (Halt (Fallen l row) s) f h = tt

module _ (Watched : ℕ → ℕ → Type 0) where
  abbrev pub WeakerAt : {A : Type 0} → Result A → Result A → Type 0
  WeakerAt (Go a s) y = y ≡ Go a s
  WeakerAt (Halt (Over o) s) y = Unit {0}
  WeakerAt (Halt (Fallen l row) s) y = Watched l row → HasFallen y

  pub record Weaker {A : Type 0} (r q : Run A) : Type 0 where
    pub by : (s : State) → WeakerAt (r s) (q s)

  pub then_weaker_at : {A B : Type 0} (x y : Result A) (f g : A → Run B) → WeakerAt x y → ((a : A) → Weaker (f a) (g a)) → WeakerAt (on_go x f) (on_go y g)
  then_weaker_at (Go a s) y f g m next = subst (λ u. WeakerAt (f a s) (on_go u g)) (sym m) ((next a).by s)
  then_weaker_at (Halt (Over o) s) y f g m next = tt
  then_weaker_at (Halt (Fallen l row) s) y f g m next = λ w. fallen_on y g (m w)

  pub then_weaker : {A B : Type 0} {r q : Run A} {f g : A → Run B} → Weaker r q → ((a : A) → Weaker (f a) (g a)) → Weaker (and_then r f) (and_then q g)
  then_weaker {r = r} {q = q} {f = f} {g = g} m next = record { by = λ s. then_weaker_at (r s) (q s) f g (m.by s) next }

  same_at : {A : Type 0} (x : Result A) → WeakerAt x x
  same_at (Go a s) = refl
  same_at (Halt (Over o) s) = tt
  same_at (Halt (Fallen l row) s) = λ w. tt

  pub same_weaker : {A : Type 0} (r : Run A) → Weaker r r
  same_weaker r = record { by = λ s. same_at (r s) }

  pub either_weaker : {A : Type 0} (b : Bool) {r q r' q' : Run A} → Weaker r q → Weaker r' q' → Weaker (either b r r') (either b q q')
  either_weaker true h k = record { by = λ s. h.by s }
  either_weaker false h k = record { by = λ s. k.by s }

  pub start_weaker : (r q : Store → Bool) → ((a : Store) → r a ≡ true → q a ≡ true) → Weaker (λ s. either (r s.store) (done {A = Unit {0}} tt) stop s) (λ s. either (q s.store) (done tt) stop s)
  start_weaker r q stronger = record { by = λ s. by_case s (r s.store) refl }
    where
      started : (s : State) (b : Bool) → b ≡ true → either b (done {A = Unit {0}} tt) stop s ≡ Go tt s
      started s true e = refl
      started s false e = cc

      by_case : (s : State) (b : Bool) → r s.store ≡ b → WeakerAt (either b (done {A = Unit {0}} tt) stop s) (either (q s.store) (done tt) stop s)
      by_case s true e = started s (q s.store) (stronger s.store e)
      by_case s false e = tt

  module _ {F : Type 0} (k : ℕ) (br bq : ℕ → Run (Unit {0})) (tr tq : Tests) (back : (l : ℕ) → Weaker (br l) (bq l)) (tests : (y : Bool) (l : ℕ) (a : Store) (s : State) → WeakerAt (events y l (tr y l) a s) (events y l (tq y l) a s)) (l : ℕ) (r q : Bool → Turn (Unit {0}) F) (turns : (y : Bool) → Weaker (r y tt) (q y tt)) where
    ends_weaker : (y : Bool) (a : Store) (x : Unit {0} × Option F) → Weaker (or_events y l (tr y l) a x) (or_events y l (tq y l) a x)
    ends_weaker y a (c, None) = record { by = λ s. then_weaker_at (events y l (tr y l) a s) (events y l (tq y l) a s) (λ u. done (c, None)) (λ u. done (c, None)) (tests y l a s) (λ u. same_weaker (done (c, None))) }
    ends_weaker y a (c, Some f) = record { by = λ s. refl }

    tested_weaker : (y : Bool) → Weaker (tested tr l r y tt) (tested tq l q y tt)
    tested_weaker y = record { by = λ s. then_weaker_at (r y tt s) (q y tt s) (or_events y l (tr y l) s.store) (or_events y l (tq y l) s.store) ((turns y).by s) (ends_weaker y s.store) }

    next_weaker : (f g : Unit {0} → Run (Unit {0} × F)) → Weaker (f tt) (g tt) → (x : Unit {0} × Option F) → Weaker (or_next f x) (or_next g x)
    next_weaker f g m (c, None) = record { by = λ s. m.by s }
    next_weaker f g m (c, Some v) = record { by = λ s. refl }

    stop_weaker : (f g : Unit {0} → Run (Unit {0} × F)) → Weaker (f tt) (g tt) → (x : Unit {0} × Option F) → Weaker (or_stop f x) (or_stop g x)
    stop_weaker f g m (c, None) = record { by = λ s. m.by s }
    stop_weaker f g m (c, Some v) = record { by = λ s. tt }

    rounds_weaker : (n : ℕ) (y : Bool) → Weaker (rounds (Over Stopped) n (tested tr l r y) tt) (rounds (Over Stopped) n (tested tq l q y) tt)
    rounds_weaker zero y = record { by = λ s. tt }
    rounds_weaker (suc n) y = then_weaker {f = or_next (rounds (Over Stopped) n (tested tr l r y))} {g = or_next (rounds (Over Stopped) n (tested tq l q y))} (tested_weaker y) (next_weaker _ _ (rounds_weaker n y))

    later_weaker : (n : ℕ) (y : Bool) → Weaker (later_copies n (tested tr l r) y tt) (later_copies n (tested tq l q) y tt)
    later_weaker zero y = rounds_weaker 1 y
    later_weaker (suc n) y = then_weaker {f = or_stop (later_copies n (tested tr l r) y)} {g = or_stop (later_copies n (tested tq l q) y)} (tested_weaker false) (stop_weaker _ _ (later_weaker n y))

    cut_weaker : (k : ℕ) (y : Bool) → Weaker (loop_of (Cut k br) tr l r y tt) (loop_of (Cut k bq) tq l q y tt)
    cut_weaker zero y = record { by = λ s. tt }
    cut_weaker (suc n) y = record { by = λ s. (then_weaker (same_weaker choose) (λ z. either_weaker (int_eq z (pos 0)) (rounds_weaker (suc n) y) (then_weaker (back l) (λ u. later_weaker n y)))).by s }

    pub loop_weaker : (y : Bool) → Weaker (loop_of (Cut k br) tr l r y tt) (loop_of (Cut k bq) tq l q y tt)
    loop_weaker y = cut_weaker k y
