-- How many turns a real run takes, where each turn of a loop lowers its rank.
use Rattle.std.proofs.Common.{◌≡◌, ℕ, zero, suc, ◌+◌, ◌*◌, ◌<◌, ◌≤◌, ℤ, Bool, true, false, List, [], ◌∷◌, Option, Some, None, ◌⊎◌, inl, inr, sym, subst, arith}
use Rattle.std.specs.Prelude.{◌||◌, ◌==◌}
use Rattle.std.proofs.Math.Nat.{suc-mul, zero-mul}
use Rattle.l2_runs.specs.declared.cells.CellValue.{CellValue}
use Rattle.l2_runs.specs.declared.outcome.Outcome.TheVariants.{Ended, Stopped, Broken, OutOfChoices, OutOfTurns}
use Rattle.l2_runs.specs.Store.{Store, Address}
use Rattle.l2_runs.specs.Runs.{State, End, Over, Fallen, Result, Go, Halt, Run, on_go, and_then, done, over, either, take_choice, choose, read, write, enliven, bury, bury_all, demand, check}
use Rattle.l2_runs.specs.Loops.{Real, Tests, Turn, events, or_events, tested, or_next, rounds, behind, spend_of, spend, loop_of}
use Rattle.l2_run_laws.specs.Watches.{HoldAll}
use Rattle.l2_run_laws.proofs.CutRuns.{EndsIn}
use Rattle.l2_run_laws.proofs.Judging.{FailsAt, hold_alone, judge}
use Rattle.l2_run_laws.proofs.Kept.{KeptAt, Kept, Turned}

-- with t turns at hand, of which n suffice, and none are added
abbrev pub BoundedAt : {A : Type 0} → ℕ → ℕ → Result A → Type 0
BoundedAt n t (Go a s) = (t ≤ s.turns + n) × (s.turns ≤ t)
BoundedAt n t (Halt (Over Ended) s) = Unit {0}
BoundedAt n t (Halt (Over Stopped) s) = Unit {0}
BoundedAt n t (Halt (Over (Broken c)) s) = Unit {0}
BoundedAt n t (Halt (Over OutOfChoices) s) = Unit {0}
BoundedAt n t (Halt (Over OutOfTurns) s) = ⊥
BoundedAt n t (Halt (Fallen l row) s) = Unit {0}

-- so many turns suffice to a run from such stores
pub record Bounded {A : Type 0} (Pre : Store → Type 0) (n : ℕ) (r : Run A) : Type 0 where
  pub by : (s : State) → Pre s.store → n ≤ s.turns → BoundedAt n s.turns (r s)

halted : (A B : Type 0) (n m t u : ℕ) (e : End) (s : State) → BoundedAt {A = A} n t (Halt e s) → BoundedAt {A = B} m u (Halt e s)
halted A B n m t u (Over Ended) s k = tt
halted A B n m t u (Over Stopped) s k = tt
halted A B n m t u (Over (Broken c)) s k = tt
halted A B n m t u (Over OutOfChoices) s k = tt
halted A B n m t u (Over OutOfTurns) s k = absurd k
halted A B n m t u (Fallen l row) s k = tt

-- what comes after m turns more
later_bounded : {A : Type 0} (n m t u : ℕ) (x : Result A) → t ≤ u + n → u ≤ t → BoundedAt m u x → BoundedAt (n + m) t x
later_bounded n m t u (Go a s) h g k = (omega (arith, h, g, k.0, k.1), omega (arith, g, k.1))
later_bounded {A = A} n m t u (Halt e s) h g k = halted A A m (n + m) u t e s k

then_at : {A B : Type 0} {Mid : Store → Type 0} {P : A → Type 0} (n m t : ℕ) (x : Result A) (f : A → Run B) → n + m ≤ t → KeptAt Mid P x → BoundedAt n t x → ((a : A) → P a → Bounded Mid m (f a)) → BoundedAt (n + m) t (on_go x f)
then_at n m t (Go a s) f h g k next = later_bounded n m t s.turns (f a s) k.0 k.1 ((next a g.0).by s g.1 (omega (arith, h, k.0, k.1)))
then_at {A = A} {B = B} n m t (Halt e s) f h g k next = halted A B n (n + m) t t e s k

pub then_bounded : {A B : Type 0} {Pre Mid : Store → Type 0} {P : A → Type 0} {n m : ℕ} {r : Run A} {f : A → Run B} → Kept Pre Mid P r → Bounded Pre n r → ((a : A) → P a → Bounded Mid m (f a)) → Bounded Pre (n + m) (and_then r f)
then_bounded {n = n} {m = m} {r = r} {f = f} kept h next = record { by = λ s g le. then_at n m s.turns (r s) f le (kept.by s g) (h.by s g (omega (arith, le))) next }

wider : {A : Type 0} (n m t : ℕ) (x : Result A) → n ≤ m → BoundedAt n t x → BoundedAt m t x
wider n m t (Go a s) h k = (omega (arith, h, k.0), k.1)
wider {A = A} n m t (Halt e s) h k = halted A A n m t t e s k

-- more turns suffice too
pub more_suffice : {A : Type 0} {Pre : Store → Type 0} (n m : ℕ) {r : Run A} → n ≤ m → Bounded Pre n r → Bounded Pre m r
more_suffice n m {r = r} h b = record { by = λ s g le. wider n m s.turns (r s) h (b.by s g (omega (arith, h, le))) }

-- a run that spends none
pub record Free {A : Type 0} (r : Run A) : Type 0 where
  pub by : (n : ℕ) (s : State) → BoundedAt n s.turns (r s)

pub free : {A : Type 0} {Pre : Store → Type 0} {n : ℕ} {r : Run A} → Free r → Bounded Pre n r
free {n = n} h = record { by = λ s g le. h.by n s }

free_on : {A B : Type 0} (n t : ℕ) (x : Result A) (f : A → Run B) → BoundedAt 0 t x → ((a : A) → Free (f a)) → BoundedAt n t (on_go x f)
free_on n t (Go a s) f h next = later n t s.turns (f a s) h.0 h.1 ((next a).by n s)
  where
    later : {B : Type 0} (n t u : ℕ) (x : Result B) → t ≤ u + 0 → u ≤ t → BoundedAt n u x → BoundedAt n t x
    later n t u (Go a s) h g k = (omega (arith, h, k.0), omega (arith, g, k.1))
    later {B = B} n t u (Halt e s) h g k = halted B B n n u t e s k
free_on {A = A} {B = B} n t (Halt e s) f h next = halted A B 0 n t t e s h

pub then_free : {A B : Type 0} {r : Run A} {f : A → Run B} → Free r → ((a : A) → Free (f a)) → Free (and_then r f)
then_free {r = r} {f = f} h next = record { by = λ n s. free_on n s.turns (r s) f (h.by 0 s) next }

pub done_free : {A : Type 0} (a : A) → Free (done a)
done_free a = record { by = λ n s. (omega arith, omega arith) }

pub ended_free : {A : Type 0} → Free (over {A = A} (Over Ended))
ended_free = record { by = λ n s. tt }

pub choose_free : Free choose
choose_free = record { by = λ n s. at_choices n s s.choices }
  where
    at_choices : (n : ℕ) (s : State) (cs : List ℤ) → BoundedAt n s.turns (take_choice cs s)
    at_choices n s [] = tt
    at_choices n s (c ∷ cs) = (omega arith, omega arith)

pub read_free : (a : Address) → Free (read a)
read_free a = record { by = λ n s. (omega arith, omega arith) }

pub write_free : (a : Address) (v : CellValue) → Free (write a v)
write_free a v = record { by = λ n s. (omega arith, omega arith) }

pub enliven_free : (m : ℕ) → Free (enliven m)
enliven_free m = record { by = λ n s. (omega arith, omega arith) }

pub bury_free : (ms : List ℕ) → Free (bury_all ms)
bury_free [] = record { by = λ n s. (omega arith, omega arith) }
bury_free (m ∷ ms) = then_free {r = bury m} (record { by = λ n s. (omega arith, omega arith) }) (λ u. bury_free ms)

pub check_free : (c : ℕ) (ok : Bool) → Free (check true c ok)
check_free c ok = record { by = λ n s. by_test n s (c == 0 || ok) }
  where
    by_test : (n : ℕ) (s : State) (ok : Bool) → BoundedAt n s.turns (demand true (Over (Broken c)) ok s)
    by_test n s true = (omega arith, omega arith)
    by_test n s false = tt

pub either_free : {A : Type 0} (b : Bool) {r p : Run A} → Free r → Free p → Free (either b r p)
either_free true h k = record { by = λ n s. h.by n s }
either_free false h k = record { by = λ n s. k.by n s }

pub either_bounded : {A : Type 0} {Pre : Store → Type 0} {n m : ℕ} (b : Bool) {r p : Run A} → Bounded Pre n r → Bounded Pre m p → Bounded Pre (n + m) (either b r p)
either_bounded {n = n} {m = m} true {r = r} h k = record { by = λ s g le. wider n (n + m) s.turns (r s) (omega arith) (h.by s g (omega (arith, le))) }
either_bounded {n = n} {m = m} false {p = p} h k = record { by = λ s g le. wider m (n + m) s.turns (p s) (omega arith) (k.by s g (omega (arith, le))) }

-- ---- a loop

-- so many turns for k values of a rank, where a turn's own part takes m
abbrev pub budget : ℕ → ℕ → ℕ
budget m zero = 0
budget m (suc k) = suc (m + budget m k)

pub budget_is : (m k : ℕ) → budget m k ≡ k * suc m
budget_is m zero = sym (zero-mul (suc m))
budget_is m (suc k) = let e = budget_is m k in let d = suc-mul k (suc m) in omega (arith, e, d)

module _ {F : Type 0} (Pre : Store → Type 0) (Q : F → Type 0) (l : ℕ) (tests : Tests) (rank : Store → ℕ) (lower : (a b : Store) → Pre a → Pre b → HoldAll (tests true l) a b → rank b < rank a) (m : ℕ) (turn : Bool → Turn (Unit {0}) F) (kept : Kept Pre Pre (Turned Pre Q) (turn true tt)) (turn_bounded : Bounded Pre m (turn true tt)) where
  abbrev rest : ℕ → Unit {0} → Run (Unit {0} × F)
  rest j = rounds (Over OutOfTurns) j (behind spend (tested tests l turn true))

  turned : (j k t : ℕ) (a : Store) (x : Result (Unit {0} × Option F)) → Pre a → m + budget m k ≤ t → rank a < suc k → KeptAt Pre (Turned Pre Q) x → BoundedAt m t x → ((s : State) → Pre s.store → rank s.store < k → budget m k ≤ s.turns → s.turns ≤ t → BoundedAt (budget m k) s.turns (rest j tt s)) → BoundedAt (m + budget m k) t (on_go (on_go x (or_events true l (tests true l) a)) (or_next (rest j)))
  turned j k t a (Go (u, Some f) s) g h below q b next = (omega (arith, b.0), b.1)
  turned j k t a (Go (u, None) s) g h below q b next = by_test (judge l a s.store (tests true l))
    where
      by_test : HoldAll (tests true l) a s.store ⊎ FailsAt l a s.store (tests true l) → BoundedAt (m + budget m k) t (on_go (on_go (events true l (tests true l) a s) (λ u. done (tt, None))) (or_next (rest j)))
      by_test (inl e) =
          let low = lower a s.store g q.1 e in
          subst (λ r. BoundedAt (m + budget m k) t (on_go (on_go r (λ u. done {A = Unit {0} × Option F} (tt, None))) (or_next (rest j)))) (sym (hold_alone l a s.store true (tests true l) e s.choices s))
          (later_bounded m (budget m k) t s.turns (rest j tt s) b.0 b.1 (next s q.1 (omega (arith, low, below)) (omega (arith, b.0, h)) b.1))
      by_test (inr f) = subst (λ r. BoundedAt (m + budget m k) t (on_go (on_go r (λ u. done {A = Unit {0} × Option F} (tt, None))) (or_next (rest j)))) (sym (f.alone s.choices s)) tt
  turned j k t a (Halt e s) g h below q b next = halted (Unit {0} × Option F) (Unit {0} × F) m (m + budget m k) t t e s b

  arrived : (j k left : ℕ) (s : State) → Pre s.store → rank s.store < suc k → budget m (suc k) ≤ left → ((s' : State) → Pre s'.store → rank s'.store < k → budget m k ≤ s'.turns → suc s'.turns ≤ left → BoundedAt (budget m k) s'.turns (rest j tt s')) → BoundedAt (budget m (suc k)) left (on_go (on_go (spend_of left s) (λ u. tested tests l turn true tt)) (or_next (rest j)))
  arrived j k zero s g below le next = absurd (omega (arith, le))
  arrived j k (suc left) s g below le next =
      let s' : State = record s { turns = left } in
      let x : Result (Unit {0} × F) = on_go (tested tests l turn true tt s') (or_next (rest j)) in
      let b : BoundedAt (m + budget m k) left x = turned j k left s.store (turn true tt s') g (omega (arith, le)) below (kept.by s' g) (turn_bounded.by s' g (omega (arith, le))) (λ r g' below' le' less. next r g' below' le' (omega (arith, less))) in
      let more = later_bounded 1 (m + budget m k) (suc left) left x (omega arith) (omega arith) b in
      subst (λ n. BoundedAt n (suc left) x) (omega arith) more

  loop_at : (j k : ℕ) (s : State) → Pre s.store → rank s.store < k → budget m k ≤ s.turns → s.turns ≤ j → BoundedAt (budget m k) s.turns (rest j tt s)
  loop_at j zero s g below le fuel = absurd (omega (arith, below))
  loop_at zero (suc k) s g below le fuel = absurd (omega (arith, le, fuel))
  loop_at (suc j) (suc k) s g below le fuel = arrived j k s.turns s g below le (λ r g' below' le' less. loop_at j k r g' below' le' (omega (arith, less, fuel)))

  pub loop_bounded : (k : ℕ) → ((a : Store) → Pre a → rank a < k) → Bounded Pre (budget m k) (loop_of Real tests l turn true tt)
  loop_bounded k below = record { by = λ s g le. loop_at s.turns k s g (below s.store g) le (omega arith) }

pub not_out : {A : Type 0} (n t : ℕ) (x : Result A) → BoundedAt n t x → EndsIn x (Over OutOfTurns) → ⊥
not_out n t (Go a s) b h = h
not_out {A = A} n t (Halt e s) b h = subst (λ e. BoundedAt {A = A} n t (Halt e s)) h b
