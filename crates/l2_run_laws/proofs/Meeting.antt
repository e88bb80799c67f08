-- Where a cut run whose tests are the stronger ones goes, those under two others go alike; where it falls, one of them does.
use Rattle.std.proofs.Common.{◌≡◌, ℕ, zero, suc, pos, Bool, true, false, List, [], ◌∷◌, Option, Some, None, ◌⊎◌, inl, inr, refl, sym, subst}
use Rattle.std.specs.Ordering.{int_eq}
use Rattle.l2_runs.specs.declared.outcome.Outcome.TheVariants.{Ended, Stopped, Broken, OutOfChoices, OutOfTurns}
use Rattle.l2_runs.specs.Store.{Store}
use Rattle.l2_runs.specs.Runs.{State, End, Over, Fallen, Result, Go, Halt, Run, on_go, and_then, done, stop, either, choose, demand}
use Rattle.l2_runs.specs.Loops.{Cut, Test, Tests, Turn, events, or_events, tested, or_next, or_stop, rounds, later_copies, loop_of}
use Rattle.l2_run_laws.specs.Watches.{HoldAll}
use Rattle.l2_run_laws.proofs.CutRuns.{EndsIn}
use Rattle.l2_run_laws.proofs.Judging.{FailsAt, hold_alone, judge}

abbrev pub HasFallen : {A : Type 0} → Result A → Type 0
HasFallen (Go a s) = ⊥
HasFallen (Halt (Over o) s) = ⊥
HasFallen (Halt (Fallen l row) s) = Unit {0}

-- what the runs under the two come to, where the run under the stronger tests comes to this
abbrev pub MeetsAt : {A : Type 0} → Result A → Result A → Result A → Type 0
MeetsAt (Go a s) x y = (x ≡ Go a s) × (y ≡ Go a s)
MeetsAt (Halt (Over Ended) s) x y = Unit {0}
MeetsAt (Halt (Over Stopped) s) x y = Unit {0}
MeetsAt (Halt (Over (Broken c)) s) x y = EndsIn x (Over (Broken c)) × EndsIn y (Over (Broken c))
MeetsAt (Halt (Over OutOfChoices) s) x y = Unit {0}
MeetsAt (Halt (Over OutOfTurns) s) x y = Unit {0}
MeetsAt (Halt (Fallen l row) s) x y = HasFallen x ⊎ HasFallen y

pub record Meets {A : Type 0} (r p q : Run A) : Type 0 where
  pub by : (s : State) → MeetsAt (r s) (p s) (q s)

fallen_on : {A B : Type 0} (x : Result A) (f : A → Run B) → HasFallen x → HasFallen (on_go x f)
fallen_on (Go a s) f h = absurd h
fallen_on (Halt (Over o) s) f h = absurd h
fallen_on (Halt (Fallen l row) s) f h = tt

ends_on : {A B : Type 0} (x : Result A) (f : A → Run B) (e : End) → EndsIn x e → EndsIn (on_go x f) e
ends_on (Go a s) f e h = absurd h
ends_on (Halt e' s) f e h = h

pub then_meets_at : {A B : Type 0} (x y z : Result A) (f g h : A → Run B) → MeetsAt x y z → ((a : A) → Meets (f a) (g a) (h a)) → MeetsAt (on_go x f) (on_go y g) (on_go z h)
then_meets_at (Go a s) y z f g h m next =
    subst (λ u. MeetsAt (f a s) (on_go u g) (on_go z h)) (sym m.0) (subst (λ u. MeetsAt (f a s) (g a s) (on_go u h)) (sym m.1) ((next a).by s))
then_meets_at (Halt (Over Ended) s) y z f g h m next = tt
then_meets_at (Halt (Over Stopped) s) y z f g h m next = tt
then_meets_at (Halt (Over (Broken c)) s) y z f g h m next = (ends_on y g (Over (Broken c)) m.0, ends_on z h (Over (Broken c)) m.1)
then_meets_at (Halt (Over OutOfChoices) s) y z f g h m next = tt
then_meets_at (Halt (Over OutOfTurns) s) y z f g h m next = tt
then_meets_at (Halt (Fallen l row) s) y z f g h (inl b) next = inl (fallen_on y g b)
then_meets_at (Halt (Fallen l row) s) y z f g h (inr b) next = inr (fallen_on z h b)

pub then_meets : {A B : Type 0} {r p q : Run A} {f g h : A → Run B} → Meets r p q → ((a : A) → Meets (f a) (g a) (h a)) → Meets (and_then r f) (and_then p g) (and_then q h)
then_meets {r = r} {p = p} {q = q} {f = f} {g = g} {h = h} m next = record { by = λ s. then_meets_at (r s) (p s) (q s) f g h (m.by s) next }

-- the same run thrice
same_at : {A : Type 0} (x : Result A) → MeetsAt x x x
same_at (Go a s) = (refl, refl)
same_at (Halt (Over Ended) s) = tt
same_at (Halt (Over Stopped) s) = tt
same_at (Halt (Over (Broken c)) s) = (refl, refl)
same_at (Halt (Over OutOfChoices) s) = tt
same_at (Halt (Over OutOfTurns) s) = tt
same_at (Halt (Fallen l row) s) = inl tt

pub same_meets : {A : Type 0} (r : Run A) → Meets r r r
same_meets r = record { by = λ s. same_at (r s) }

pub either_meets : {A : Type 0} (b : Bool) {r p q r' p' q' : Run A} → Meets r p q → Meets r' p' q' → Meets (either b r r') (either b p p') (either b q q')
either_meets true h k = record { by = λ s. h.by s }
either_meets false h k = record { by = λ s. k.by s }

-- where the stronger one starts back, the others do
pub start_meets : (r p q : Store → Bool) → ((a : Store) → r a ≡ true → (p a ≡ true) × (q a ≡ true)) → Meets (λ s. either (r s.store) (done {A = Unit {0}} tt) stop s) (λ s. either (p s.store) (done tt) stop s) (λ s. either (q s.store) (done tt) stop s)
start_meets r p q stronger = record { by = λ s. by_case s (r s.store) refl }
  where
    started : (s : State) (b : Bool) → b ≡ true → either b (done {A = Unit {0}} tt) stop s ≡ Go tt s
    started s true e = refl
    started s false e = cc

    by_case : (s : State) (b : Bool) → r s.store ≡ b → MeetsAt (either b (done {A = Unit {0}} tt) stop s) (either (p s.store) (done tt) stop s) (either (q s.store) (done tt) stop s)
    by_case s true e = let t = stronger s.store e in (started s (p s.store) t.0, started s (q s.store) t.1)
    by_case s false e = tt

-- ---- loops

-- where all tests of the one hold, all of the others do; where one of its fails, one of the others' does
pub record TestsMeet (r p q : ℕ → List Test) : Type 0 where
  pub hold : (l : ℕ) (a b : Store) → HoldAll (r l) a b → HoldAll (p l) a b × HoldAll (q l) a b
  pub fail : (l : ℕ) (a b : Store) → HoldAll (p l) a b → HoldAll (q l) a b → HoldAll (r l) a b

module _ {F : Type 0} (k : ℕ) (br bp bq : ℕ → Run (Unit {0})) (tr tp tq : Tests) (back : (l : ℕ) → Meets (br l) (bp l) (bq l)) (counted : TestsMeet (tr true) (tp true) (tq true)) (stronger : (l : ℕ) (a b : Store) → HoldAll (tr false l) a b → HoldAll (tp false l) a b × HoldAll (tq false l) a b) (l : ℕ) (r p q : Bool → Turn (Unit {0}) F) (turns : (y : Bool) → Meets (r y tt) (p y tt) (q y tt)) where
  fallen : (a : Store) (s : State) (ts : List Test) → FailsAt l a s.store ts → HasFallen (events true l ts a s)
  fallen a s ts f = subst (λ (x : Result (Unit {0})). HasFallen x) (sym (f.alone s.choices s)) tt

  -- where a test fails that doesn't count
  stopped : (a : Store) (s : State) (ts : List Test) (x y : Result (Unit {0})) → FailsAt l a s.store ts → MeetsAt (events false l ts a s) x y
  stopped a s [] x y f = let e = f.alone s.choices s in cc
  stopped a s (t ∷ ts) x y f = one (t.holds a s.store) refl (judge l a s.store ts) (λ g. stopped a s ts x y g)
    where
      one : (b : Bool) → t.holds a s.store ≡ b → HoldAll ts a s.store ⊎ FailsAt l a s.store ts → (FailsAt l a s.store ts → MeetsAt (events false l ts a s) x y) → MeetsAt (on_go (demand false (Fallen l t.row) b s) (λ u. events false l ts a)) x y
      one false e j again = tt
      one true e (inr g) again = again g
      one true e (inl h) again = let e1 = hold_alone l a s.store true (t ∷ ts) (e, h) s.choices s in let e2 = f.alone s.choices s in cc

  events_meet : (y : Bool) (a : Store) (s : State) → MeetsAt (events y l (tr y l) a s) (events y l (tp y l) a s) (events y l (tq y l) a s)
  events_meet y a s = by_tests y (judge l a s.store (tr y l))
    where
      gone : (y : Bool) → HoldAll (tr y l) a s.store → HoldAll (tp y l) a s.store × HoldAll (tq y l) a s.store → MeetsAt (events y l (tr y l) a s) (events y l (tp y l) a s) (events y l (tq y l) a s)
      gone y h k = subst (λ z. MeetsAt z (events y l (tp y l) a s) (events y l (tq y l) a s)) (sym (hold_alone l a s.store y (tr y l) h s.choices s))
          (hold_alone l a s.store y (tp y l) k.0 s.choices s, hold_alone l a s.store y (tq y l) k.1 s.choices s)

      by_others : FailsAt l a s.store (tr true l) → HoldAll (tp true l) a s.store ⊎ FailsAt l a s.store (tp true l) → HoldAll (tq true l) a s.store ⊎ FailsAt l a s.store (tq true l) → HasFallen (events true l (tp true l) a s) ⊎ HasFallen (events true l (tq true l) a s)
      by_others f (inr g) j = inl (fallen a s (tp true l) g)
      by_others f (inl h) (inr g) = inr (fallen a s (tq true l) g)
      by_others f (inl h) (inl k) =
          let e1 = hold_alone l a s.store true (tr true l) (counted.fail l a s.store h k) s.choices s in
          let e2 = f.alone s.choices s in
          cc

      by_tests : (y : Bool) → HoldAll (tr y l) a s.store ⊎ FailsAt l a s.store (tr y l) → MeetsAt (events y l (tr y l) a s) (events y l (tp y l) a s) (events y l (tq y l) a s)
      by_tests true (inl h) = gone true h (counted.hold l a s.store h)
      by_tests false (inl h) = gone false h (stronger l a s.store h)
      by_tests true (inr f) = subst (λ z. MeetsAt z (events true l (tp true l) a s) (events true l (tq true l) a s)) (sym (f.alone s.choices s)) (by_others f (judge l a s.store (tp true l)) (judge l a s.store (tq true l)))
      by_tests false (inr f) = stopped a s (tr false l) (events false l (tp false l) a s) (events false l (tq false l) a s) f

  ends_meet : (y : Bool) (a : Store) (x : Unit {0} × Option F) → Meets (or_events y l (tr y l) a x) (or_events y l (tp y l) a x) (or_events y l (tq y l) a x)
  ends_meet y a (c, None) = record { by = λ s. then_meets_at (events y l (tr y l) a s) (events y l (tp y l) a s) (events y l (tq y l) a s) (λ u. done (c, None)) (λ u. done (c, None)) (λ u. done (c, None)) (events_meet y a s) (λ u. same_meets (done (c, None))) }
  ends_meet y a (c, Some f) = record { by = λ s. (refl, refl) }

  tested_meet : (y : Bool) → Meets (tested tr l r y tt) (tested tp l p y tt) (tested tq l q y tt)
  tested_meet y = record { by = λ s. then_meets_at (r y tt s) (p y tt s) (q y tt s) (or_events y l (tr y l) s.store) (or_events y l (tp y l) s.store) (or_events y l (tq y l) s.store) ((turns y).by s) (ends_meet y s.store) }

  next_meet : (f g h : Unit {0} → Run (Unit {0} × F)) → Meets (f tt) (g tt) (h tt) → (x : Unit {0} × Option F) → Meets (or_next f x) (or_next g x) (or_next h x)
  next_meet f g h m (c, None) = record { by = λ s. m.by s }
  next_meet f g h m (c, Some v) = record { by = λ s. (refl, refl) }

  stop_meet : (f g h : Unit {0} → Run (Unit {0} × F)) → Meets (f tt) (g tt) (h tt) → (x : Unit {0} × Option F) → Meets (or_stop f x) (or_stop g x) (or_stop h x)
  stop_meet f g h m (c, None) = record { by = λ s. m.by s }
  stop_meet f g h m (c, Some v) = record { by = λ s. tt }

  rounds_meet : (n : ℕ) (y : Bool) → Meets (rounds (Over Stopped) n (tested tr l r y) tt) (rounds (Over Stopped) n (tested tp l p y) tt) (rounds (Over Stopped) n (tested tq l q y) tt)
  rounds_meet zero y = record { by = λ s. tt }
  rounds_meet (suc n) y = then_meets {f = or_next (rounds (Over Stopped) n (tested tr l r y))} {g = or_next (rounds (Over Stopped) n (tested tp l p y))} {h = or_next (rounds (Over Stopped) n (tested tq l q y))} (tested_meet y) (next_meet _ _ _ (rounds_meet n y))

  later_meet : (n : ℕ) (y : Bool) → Meets (later_copies n (tested tr l r) y tt) (later_copies n (tested tp l p) y tt) (later_copies n (tested tq l q) y tt)
  later_meet zero y = rounds_meet 1 y
  later_meet (suc n) y = then_meets {f = or_stop (later_copies n (tested tr l r) y)} {g = or_stop (later_copies n (tested tp l p) y)} {h = or_stop (later_copies n (tested tq l q) y)} (tested_meet false) (stop_meet _ _ _ (later_meet n y))

  cut_meet : (k : ℕ) (y : Bool) → Meets (loop_of (Cut k br) tr l r y tt) (loop_of (Cut k bp) tp l p y tt) (loop_of (Cut k bq) tq l q y tt)
  cut_meet zero y = record { by = λ s. tt }
  cut_meet (suc n) y = record { by = λ s. (then_meets (same_meets choose) (λ z. either_meets (int_eq z (pos 0)) (rounds_meet (suc n) y) (then_meets (back l) (λ u. later_meet n y)))).by s }

  pub loop_meets : (y : Bool) → Meets (loop_of (Cut k br) tr l r y tt) (loop_of (Cut k bp) tp l p y tt) (loop_of (Cut k bq) tq l q y tt)
  loop_meets y = cut_meet k y
