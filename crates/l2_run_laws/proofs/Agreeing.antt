-- Runs with more tests do the same, or fall.
use Rattle.std.proofs.Common.{◌≡◌, ℕ, zero, suc, pos, Bool, true, false, List, ◌++◌, Option, Some, None, ◌⊎◌, inl, inr, refl, sym, ◌∙◌, subst}
use Rattle.std.specs.Ordering.{int_eq}
use Rattle.l2_runs.specs.declared.outcome.Outcome.TheVariants.{Stopped, OutOfTurns}
use Rattle.l2_runs.specs.Store.{Store}
use Rattle.l2_runs.specs.Runs.{State, End, Over, Fallen, Result, Go, Halt, Run, on_go, and_then, done, either, choose}
use Rattle.l2_runs.specs.Loops.{Limit, Real, Short, Cut, Test, Tests, Turn, events, or_events, tested, or_next, or_stop, rounds, behind, spend, tally, later_copies, limited, loop_of}
use Rattle.l2_run_laws.specs.Watches.{alone, with_watches, HoldAll}
use Rattle.l2_run_laws.proofs.CutRuns.{EndsIn}
use Rattle.l2_run_laws.proofs.Judging.{FailsAt, hold_alone, hold_before, judge}

module _ (Watched : ℕ → ℕ → Type 0) where
  abbrev pub FallsNow : {A : Type 0} → Result A → Type 0
  FallsNow (Go a s) = ⊥
  FallsNow (Halt (Over o) s) = ⊥
  FallsNow (Halt (Fallen l row) s) = Watched l row

  -- r does what p does, or falls where failures count
  abbrev pub Alike : {A : Type 0} → Bool → Result A → Result A → Type 0
  Alike y x x' = (x ≡ x') ⊎ ((y ≡ true) × FallsNow x)

  pub record Agrees {A : Type 0} (y : Bool) (r p : Run A) : Type 0 where
    pub by : (s : State) → Alike y (r s) (p s)

  falls_on : {A B : Type 0} (x : Result A) (f : A → Run B) → FallsNow x → FallsNow (on_go x f)
  falls_on (Go a s) f h = absurd h
  falls_on (Halt (Over o) s) f h = absurd h
  falls_on (Halt (Fallen l row) s) f h = h

  same_on : {A B : Type 0} (y : Bool) (x : Result A) (f g : A → Run B) → ((a : A) → Agrees y (f a) (g a)) → Alike y (on_go x f) (on_go x g)
  same_on y (Go a s) f g next = (next a).by s
  same_on y (Halt e s) f g next = inl refl

  then_alike : {A B : Type 0} (y : Bool) (x x' : Result A) (f g : A → Run B) → Alike y x x' → ((a : A) → Agrees y (f a) (g a)) → Alike y (on_go x f) (on_go x' g)
  then_alike y x x' f g (inl e) next = subst (λ z. Alike y (on_go x f) (on_go z g)) e (same_on y x f g next)
  then_alike y x x' f g (inr h) next = inr (h.0, falls_on x f h.1)

  pub then_agrees : {A B : Type 0} {y : Bool} {r p : Run A} {f g : A → Run B} → Agrees y r p → ((a : A) → Agrees y (f a) (g a)) → Agrees y (and_then r f) (and_then p g)
  then_agrees {y = y} {r = r} {p = p} {f = f} {g = g} first next = record { by = λ s. then_alike y (r s) (p s) f g (first.by s) next }

  pub same_agrees : {A : Type 0} (y : Bool) (r : Run A) → Agrees y r r
  same_agrees y r = record { by = λ s. inl refl }

  pub either_agrees : {A : Type 0} {y : Bool} (b : Bool) {r r' p p' : Run A} → Agrees y r p → Agrees y r' p' → Agrees y (either b r r') (either b p p')
  either_agrees true h k = record { by = λ s. h.by s }
  either_agrees false h k = record { by = λ s. k.by s }

  counted_agrees : {A : Type 0} (y : Bool) {r p : Run A} → Agrees false r p → Agrees y r p
  counted_agrees false h = h
  counted_agrees {A = A} true {r = r} {p = p} h = record { by = λ s. wider (r s) (p s) (h.by s) }
    where
      wider : (x x' : Result A) → Alike false x x' → Alike true x x'
      wider x x' (inl e) = inl e
      wider x x' (inr h) = inr (refl, h.1)

  -- ---- loops

  module _ (F : Type 0) where
    next_agrees : (y : Bool) (f g : Unit {0} → Run (Unit {0} × F)) → Agrees y (f tt) (g tt) → (x : Unit {0} × Option F) → Agrees y (or_next f x) (or_next g x)
    next_agrees y f g h (c, None) = record { by = λ s. h.by s }
    next_agrees y f g h (c, Some v) = record { by = λ s. inl refl }

    stop_agrees : (y : Bool) (f g : Unit {0} → Run (Unit {0} × F)) → Agrees y (f tt) (g tt) → (x : Unit {0} × Option F) → Agrees y (or_stop f x) (or_stop g x)
    stop_agrees y f g h (c, None) = record { by = λ s. h.by s }
    stop_agrees y f g h (c, Some v) = record { by = λ s. inl refl }

    rounds_agrees : (y : Bool) (e : End) (n : ℕ) (f g : Turn (Unit {0}) F) → Agrees y (f tt) (g tt) → Agrees y (rounds e n f tt) (rounds e n g tt)
    rounds_agrees y e zero f g h = record { by = λ s. inl refl }
    rounds_agrees y e (suc n) f g h = then_agrees {f = or_next (rounds e n f)} {g = or_next (rounds e n g)} h (next_agrees y (rounds e n f) (rounds e n g) (rounds_agrees y e n f g h))

    module _ (f g : Bool → Turn (Unit {0}) F) (agrees : (y : Bool) → Agrees y (f y tt) (g y tt)) where
      later_agrees : (y : Bool) (n : ℕ) → Agrees y (later_copies n f y tt) (later_copies n g y tt)
      later_agrees y zero = rounds_agrees y (Over Stopped) 1 (f y) (g y) (agrees y)
      later_agrees y (suc n) = then_agrees {f = or_stop (later_copies n f y)} {g = or_stop (later_copies n g y)} (counted_agrees y (agrees false)) (stop_agrees y (later_copies n f y) (later_copies n g y) (later_agrees y n))

      behind_agrees : (y : Bool) (arrive : Run (Unit {0})) → Agrees y (behind arrive (f y) tt) (behind arrive (g y) tt)
      behind_agrees y arrive = then_agrees (same_agrees y arrive) (λ u. agrees y)

      limited_agrees : (limit : Limit) (l : ℕ) (y : Bool) → Agrees y (limited limit l f y tt) (limited limit l g y tt)
      limited_agrees Real l y = record { by = λ s. (rounds_agrees y (Over OutOfTurns) s.turns (behind spend (f y)) (behind spend (g y)) (behind_agrees y spend)).by s }
      limited_agrees (Short k) l y = record { by = λ s. (rounds_agrees y (Over Stopped) k (behind tally (f y)) (behind tally (g y)) (behind_agrees y tally)).by s }
      limited_agrees (Cut zero back) l y = record { by = λ s. inl refl }
      limited_agrees (Cut (suc k) back) l y = record {
        by = λ s. (then_agrees (same_agrees y choose) (λ z. either_agrees (int_eq z (pos 0)) (rounds_agrees y (Over Stopped) (suc k) (f y) (g y) (agrees y)) (then_agrees (same_agrees y (back l)) (λ u. later_agrees y k)))).by s;
      }

  -- these tests are those, or fail where failures count
  abbrev pub TestsAgree : Tests → Tests → Type 0
  TestsAgree more fewer = (y : Bool) (l : ℕ) (a : Store) (s : State) → Alike y (events y l (more y l) a s) (events y l (fewer y l) a s)

  module _ (more fewer : Tests) (agree : TestsAgree more fewer) where
    or_events_agrees : {F : Type 0} (y : Bool) (l : ℕ) (a : Store) (x : Unit {0} × Option F) → Agrees y (or_events y l (more y l) a x) (or_events y l (fewer y l) a x)
    or_events_agrees y l a (c, None) = record { by = λ s. then_alike y (events y l (more y l) a s) (events y l (fewer y l) a s) (λ u. done (c, None)) (λ u. done (c, None)) (agree y l a s) (λ u. same_agrees y (done (c, None))) }
    or_events_agrees y l a (c, Some v) = record { by = λ s. inl refl }

    pub loop_agrees : {F : Type 0} (limit : Limit) (l : ℕ) (f g : Bool → Turn (Unit {0}) F) → ((y : Bool) → Agrees y (f y tt) (g y tt)) → (y : Bool) → Agrees y (loop_of limit more l f y tt) (loop_of limit fewer l g y tt)
    loop_agrees {F = F} limit l f g agrees y =
        limited_agrees F (tested more l f) (tested fewer l g)
        (λ y. record { by = λ s. then_alike y (f y tt s) (g y tt s) (or_events y l (more y l) s.store) (or_events y l (fewer y l) s.store) ((agrees y).by s) (or_events_agrees y l s.store) }) limit l y

-- ---- rows and watches against rows

abbrev pub Any : ℕ → ℕ → Type 0
Any l row = Unit {0}

abbrev pub NoneOf : ℕ → ℕ → Type 0
NoneOf l row = ⊥

pub more_agree : (rows watches : ℕ → List Test) → TestsAgree Any (with_watches rows watches) (alone rows)
more_agree rows watches false l a s = inl refl
more_agree rows watches true l a s = by_rows (judge l a s.store (rows l)) (judge l a s.store (watches l))
  where
    by_rows : HoldAll (rows l) a s.store ⊎ FailsAt l a s.store (rows l) → HoldAll (watches l) a s.store ⊎ FailsAt l a s.store (watches l) → Alike Any true (events true l (rows l ++ watches l) a s) (events true l (rows l) a s)
    by_rows (inr f) j = inl (f.before (watches l) s.choices s ∙ sym (f.alone s.choices s))
    by_rows (inl h) (inl k) = inl (hold_before l a s.store true (rows l) (watches l) h s.choices s ∙ hold_alone l a s.store true (watches l) k s.choices s ∙ sym (hold_alone l a s.store true (rows l) h s.choices s))
    by_rows (inl h) (inr f) = inr (refl, subst (λ r. FallsNow Any r) (sym (hold_before l a s.store true (rows l) (watches l) h s.choices s ∙ f.alone s.choices s)) tt)

pub twice_agree : (rows : ℕ → List Test) → TestsAgree NoneOf (with_watches rows rows) (alone rows)
twice_agree rows false l a s = inl refl
twice_agree rows true l a s = by_rows (judge l a s.store (rows l))
  where
    by_rows : HoldAll (rows l) a s.store ⊎ FailsAt l a s.store (rows l) → Alike NoneOf true (events true l (rows l ++ rows l) a s) (events true l (rows l) a s)
    by_rows (inr f) = inl (f.before (rows l) s.choices s ∙ sym (f.alone s.choices s))
    by_rows (inl h) = inl (hold_before l a s.store true (rows l) (rows l) h s.choices s)

-- ---- what agreeing results say

pub falls_so : {A : Type 0} (x x' : Result A) (l row : ℕ) → Alike NoneOf true x x' → EndsIn x (Fallen l row) → EndsIn x' (Fallen l row)
falls_so x x' l row (inl e) h = subst (λ r. EndsIn r (Fallen l row)) e h
falls_so (Go a s) x' l row (inr k) h = absurd h
falls_so (Halt (Over o) s) x' l row (inr k) h = absurd k.1
falls_so (Halt (Fallen l' row') s) x' l row (inr k) h = absurd k.1

pub falls_too : {A : Type 0} (x x' : Result A) (l row : ℕ) → Alike Any true x x' → EndsIn x' (Fallen l row) → (l' : ℕ) × (row' : ℕ) × EndsIn x (Fallen l' row')
falls_too x x' l row (inl e) h = (l, row, subst (λ r. EndsIn r (Fallen l row)) (sym e) h)
falls_too (Go a s) x' l row (inr k) h = absurd k.1
falls_too (Halt (Over o) s) x' l row (inr k) h = absurd k.1
falls_too (Halt (Fallen l' row') s) x' l row (inr k) h = (l', row', refl)

pub same_or : {A : Type 0} (x x' : Result A) → Alike Any true x x' → ((l row : ℕ) → EndsIn x (Fallen l row) → ⊥) → x ≡ x'
same_or x x' (inl e) none = e
same_or (Go a s) x' (inr k) none = absurd k.1
same_or (Halt (Over o) s) x' (inr k) none = absurd k.1
same_or (Halt (Fallen l row) s) x' (inr k) none = absurd (none l row refl)
