-- A short run's arrivals are turns enough for the real run.
use Rattle.std.proofs.Common.{◌≡◌, ◌≢◌, ℕ, zero, suc, ◌+◌, ℤ, Bool, true, false, List, [], ◌∷◌, Option, Some, None, refl, sym, ap, ◌∙◌, arith}
use Rattle.std.specs.Prelude.{◌||◌, ◌==◌}
use Rattle.l2_runs.specs.declared.cells.CellValue.{CellValue}
use Rattle.l2_runs.specs.declared.outcome.Outcome.TheVariants.{Stopped, Broken, OutOfTurns}
use Rattle.l2_runs.specs.Store.{Store, Address}
use Rattle.l2_runs.specs.Runs.{State, End, Over, Result, Go, Halt, Run, on_go, and_then, done, over, either, take_choice, choose, read, write, enliven, bury, demand, check}
use Rattle.l2_runs.specs.Loops.{Real, Short, no_tests, Turn, or_events, tested, or_next, rounds, behind, spend, tally, loop_of}

abbrev pub plus : ℕ → ℕ → ℕ
plus zero n = n
plus (suc m) n = suc (plus m n)

plus_is : (m n : ℕ) → plus m n ≡ m + n
plus_is zero n = omega arith
plus_is (suc m) n = let e = plus_is m n in omega arith

plus_zero : (m : ℕ) → plus m zero ≡ m
plus_zero zero = refl
plus_zero (suc m) = ap suc (plus_zero m)

plus_plus : (a b c : ℕ) → plus (plus a b) c ≡ plus a (plus b c)
plus_plus zero b c = refl
plus_plus (suc a) b c = ap suc (plus_plus a b c)

-- a state with these turns and arrivals
abbrev pub moved : State → ℕ → ℕ → State
moved s t n = record s { turns = t; arrivals = n }

-- with so many turns more, the real run comes to this
pub record Takes {A : Type 0} (s s' : State) (x : ℕ → ℕ → Result A) (p : Run A) : Type 0 where
  pub more : ℕ
  pub count : s'.arrivals ≡ plus more s.arrivals
  pub runs : (t n : ℕ) → p (moved s (plus more t) n) ≡ x t n

-- the real run does what the short run does, where that isn't stopped
abbrev pub Shorted : {A : Type 0} → State → Result A → Run A → Type 0
Shorted s (Go a s') p = Takes s s' (λ t n. Go a (moved s' t n)) p
Shorted s (Halt e s') p = e ≢ Over Stopped → Takes s s' (λ t n. Halt e (moved s' t n)) p

pub record Shorts {A : Type 0} (r p : Run A) : Type 0 where
  pub by : (s : State) → Shorted s (r s) p

takes_on : {A B : Type 0} (s s1 s' : State) (a : A) (p : Run A) (g : A → Run B) (x : ℕ → ℕ → Result B) → Takes s s1 (λ t n. Go a (moved s1 t n)) p → Takes s1 s' x (g a) → Takes s s' x (and_then p g)
takes_on s s1 s' a p g x h k = record {
  more = plus h.more k.more;
  count = omega (arith, h.count, k.count, plus_is h.more s.arrivals, plus_is k.more s1.arrivals, plus_is h.more k.more, plus_is (plus h.more k.more) s.arrivals);
  runs = λ t n. ap (λ z. on_go (p (moved s z n)) g) (plus_plus h.more k.more t) ∙ ap (λ z. on_go z g) (h.runs (plus k.more t) n) ∙ k.runs t n;
}

after : {A B : Type 0} (s s1 : State) (a : A) (p : Run A) (g : A → Run B) (y : Result B) → Takes s s1 (λ t n. Go a (moved s1 t n)) p → Shorted s1 y (g a) → Shorted s y (and_then p g)
after s s1 a p g (Go b s') h k = takes_on s s1 s' a p g (λ t n. Go b (moved s' t n)) h k
after s s1 a p g (Halt e s') h k = λ live. takes_on s s1 s' a p g (λ t n. Halt e (moved s' t n)) h (k live)

then_at : {A B : Type 0} (s : State) (x : Result A) (p : Run A) (f g : A → Run B) → Shorted s x p → ((a : A) → Shorts (f a) (g a)) → Shorted s (on_go x f) (and_then p g)
then_at s (Go a s1) p f g h next = after s s1 a p g (f a s1) h ((next a).by s1)
then_at s (Halt e s1) p f g h next = λ live. let k = h live in record { more = k.more; count = k.count; runs = λ t n. ap (λ z. on_go z g) (k.runs t n) }

pub then_shorts : {A B : Type 0} {r p : Run A} {f g : A → Run B} → Shorts r p → ((a : A) → Shorts (f a) (g a)) → Shorts (and_then r f) (and_then p g)
then_shorts {r = r} {p = p} {f = f} {g = g} first next = record { by = λ s. then_at s (r s) p f g (first.by s) next }

pub done_shorts : {A : Type 0} (a : A) → Shorts (done a) (done a)
done_shorts a = record { by = λ s. record { more = zero; count = refl; runs = λ t n. refl } }

pub over_shorts : {A : Type 0} (e : End) → Shorts (over {A = A} e) (over e)
over_shorts e = record { by = λ s live. record { more = zero; count = refl; runs = λ t n. refl } }

pub choose_shorts : Shorts choose choose
choose_shorts = record { by = λ s. at_choices s s.choices refl }
  where
    at_choices : (s : State) (cs : List ℤ) → s.choices ≡ cs → Shorted s (take_choice cs s) choose
    at_choices s [] e = λ live. record { more = zero; count = refl; runs = λ t n. ap (λ c. take_choice c (moved s t n)) e }
    at_choices s (c ∷ cs) e = record { more = zero; count = refl; runs = λ t n. ap (λ c. take_choice c (moved s t n)) e }

pub read_shorts : (a : Address) → Shorts (read a) (read a)
read_shorts a = record { by = λ s. record { more = zero; count = refl; runs = λ t n. refl } }

pub write_shorts : (a : Address) (v : CellValue) → Shorts (write a v) (write a v)
write_shorts a v = record { by = λ s. record { more = zero; count = refl; runs = λ t n. refl } }

pub enliven_shorts : (m : ℕ) → Shorts (enliven m) (enliven m)
enliven_shorts m = record { by = λ s. record { more = zero; count = refl; runs = λ t n. refl } }

pub bury_shorts : (m : ℕ) → Shorts (bury m) (bury m)
bury_shorts m = record { by = λ s. record { more = zero; count = refl; runs = λ t n. refl } }

demand_shorts : (e : End) (ok : Bool) → Shorts (demand true e ok) (demand true e ok)
demand_shorts e true = done_shorts tt
demand_shorts e false = over_shorts e

pub check_shorts : (c : ℕ) (ok : Bool) → Shorts (check true c ok) (check true c ok)
check_shorts c ok = demand_shorts (Over (Broken c)) (c == 0 || ok)

pub same_runs : {A : Type 0} (s : State) (x : Result A) (p q : Run A) → ((r : State) → p r ≡ q r) → Shorted s x p → Shorted s x q
same_runs s (Go a s') p q e k = record { more = k.more; count = k.count; runs = λ t n. sym (e (moved s (plus k.more t) n)) ∙ k.runs t n }
same_runs s (Halt f s') p q e k = λ live. let j = k live in record { more = j.more; count = j.count; runs = λ t n. sym (e (moved s (plus j.more t) n)) ∙ j.runs t n }

pub either_shorts : {A : Type 0} (b : Bool) {r r' p p' : Run A} → Shorts r p → Shorts r' p' → Shorts (either b r r') (either b p p')
either_shorts true {r = r} {p = p} {p' = p'} h k = record { by = λ s. same_runs s (r s) p (either true p p') (λ q. refl) (h.by s) }
either_shorts false {r' = r'} {p = p} {p' = p'} h k = record { by = λ s. same_runs s (r' s) p' (either false p p') (λ q. refl) (k.by s) }

-- ---- a loop

module _ {F : Type 0} (l : ℕ) (f g : Bool → Turn (Unit {0}) F) (turn : Shorts (f true tt) (g true tt)) where
  abbrev T : Turn (Unit {0}) F
  T = tested no_tests l f true

  abbrev B : Turn (Unit {0}) F
  B = behind spend (tested no_tests l g true)

  abbrev short_rest : ℕ → Unit {0} → Run (Unit {0} × F)
  short_rest k = rounds (Over Stopped) k (behind tally T)

  events_shorts : (a : Store) (x : Unit {0} × Option F) → Shorts (or_events true l [] a x) (or_events true l [] a x)
  events_shorts a (c, None) = record { by = λ s. record { more = zero; count = refl; runs = λ t n. refl } }
  events_shorts a (c, Some v) = record { by = λ s. record { more = zero; count = refl; runs = λ t n. refl } }

  tested_at : (s : State) (x : Result (Unit {0} × Option F)) → Shorted s x (and_then (g true tt) (or_events true l [] s.store)) → Shorted s x (tested no_tests l g true tt)
  tested_at s (Go a s') h = record { more = h.more; count = h.count; runs = λ t n. h.runs t n }
  tested_at s (Halt e s') h = λ live. let k = h live in record { more = k.more; count = k.count; runs = λ t n. k.runs t n }

  tested_shorts : (s : State) → Shorted s (T tt s) (tested no_tests l g true tt)
  tested_shorts s = tested_at s (T tt s) (then_at s (f true tt s) (g true tt) (or_events true l [] s.store) (or_events true l [] s.store) (turn.by s) (events_shorts s.store))

  -- with so many turns more, and a bound that is no less
  record Loops (s s' : State) (x : ℕ → ℕ → Result (Unit {0} × F)) : Type 0 where
    more : ℕ
    count : s'.arrivals ≡ plus more s.arrivals
    runs : (d t n : ℕ) → rounds (Over OutOfTurns) (plus (plus more t) d) B tt (moved s (plus more t) n) ≡ x t n

  abbrev Looped : State → Result (Unit {0} × F) → Type 0
  Looped s (Go a s') = Loops s s' (λ t n. Go a (moved s' t n))
  Looped s (Halt e s') = e ≢ Over Stopped → Loops s s' (λ t n. Halt e (moved s' t n))

  abbrev arrived : State → State
  arrived s = record s { arrivals = suc s.arrivals }

  again : (s s1 s' : State) (x : ℕ → ℕ → Result (Unit {0} × F)) → Takes (arrived s) s1 (λ t n. Go (tt, None) (moved s1 t n)) (tested no_tests l g true tt) → Loops s1 s' x → Loops s s' x
  again s s1 s' x h k =
      let same : (t : ℕ) → plus (plus h.more k.more) t ≡ plus h.more (plus k.more t) = λ t. plus_plus h.more k.more t in
      let bound : (d t : ℕ) → plus (plus (plus h.more k.more) t) d ≡ plus (plus k.more t) (plus h.more d) = λ d t.
      omega (arith, plus_is h.more k.more, plus_is (plus h.more k.more) t, plus_is (plus (plus h.more k.more) t) d, plus_is k.more t, plus_is h.more d, plus_is (plus k.more t) (plus h.more d)) in
      record {
        more = suc (plus h.more k.more);
        count = omega (arith, h.count, k.count, plus_is h.more (suc s.arrivals), plus_is k.more s1.arrivals, plus_is h.more k.more, plus_is (plus h.more k.more) s.arrivals);
        runs = λ d t n.
            ap (λ z. on_go (tested no_tests l g true tt (moved s z n)) (or_next (rounds (Over OutOfTurns) (plus (plus (plus h.more k.more) t) d) B))) (same t)
            ∙ ap (λ z. on_go z (or_next (rounds (Over OutOfTurns) (plus (plus (plus h.more k.more) t) d) B))) (h.runs (plus k.more t) n)
            ∙ ap (λ z. rounds (Over OutOfTurns) z B tt (moved s1 (plus k.more t) n)) (bound d t)
            ∙ k.runs (plus h.more d) t n;
      }

  again_at : (s s1 : State) (y : Result (Unit {0} × F)) → Takes (arrived s) s1 (λ t n. Go (tt, None) (moved s1 t n)) (tested no_tests l g true tt) → Looped s1 y → Looped s y
  again_at s s1 (Go a s') h k = again s s1 s' (λ t n. Go a (moved s' t n)) h k
  again_at s s1 (Halt e s') h k = λ live. again s s1 s' (λ t n. Halt e (moved s' t n)) h (k live)

  turned : (k : ℕ) (s : State) (x : Result (Unit {0} × Option F)) → Shorted (arrived s) x (tested no_tests l g true tt) → ((r : State) → Looped r (short_rest k tt r)) → Looped s (on_go x (or_next (short_rest k)))
  turned k s (Go (u, None) s1) h go = again_at s s1 (short_rest k tt s1) h (go s1)
  turned k s (Go (u, Some v) s1) h go = record {
    more = suc h.more;
    count = omega (arith, h.count, plus_is h.more (suc s.arrivals), plus_is h.more s.arrivals);
    runs = λ d t n. ap (λ z. on_go z (or_next (rounds (Over OutOfTurns) (plus (plus h.more t) d) B))) (h.runs t n);
  }
  turned k s (Halt e s1) h go = λ live. let j = h live in record {
    more = suc j.more;
    count = omega (arith, j.count, plus_is j.more (suc s.arrivals), plus_is j.more s.arrivals);
    runs = λ d t n. ap (λ z. on_go z (or_next (rounds (Over OutOfTurns) (plus (plus j.more t) d) B))) (j.runs t n);
  }

  rounds_at : (k : ℕ) (s : State) → Looped s (short_rest k tt s)
  rounds_at zero s = λ live. absurd (live refl)
  rounds_at (suc k) s = turned k s (T tt (arrived s)) (tested_shorts (arrived s)) (λ r. rounds_at k r)

  loop_at : (s : State) (x : Result (Unit {0} × F)) → Looped s x → Shorted s x (loop_of Real no_tests l g true tt)
  loop_at s (Go a s') h = record { more = h.more; count = h.count; runs = λ t n. ap (λ z. rounds (Over OutOfTurns) z B tt (moved s (plus h.more t) n)) (sym (plus_zero (plus h.more t))) ∙ h.runs zero t n }
  loop_at s (Halt e s') h = λ live. let k = h live in record { more = k.more; count = k.count; runs = λ t n. ap (λ z. rounds (Over OutOfTurns) z B tt (moved s (plus k.more t) n)) (sym (plus_zero (plus k.more t))) ∙ k.runs zero t n }

  pub loop_shorts : (k : ℕ) → Shorts (loop_of (Short k) no_tests l f true tt) (loop_of Real no_tests l g true tt)
  loop_shorts k = record { by = λ s. loop_at s (short_rest k tt s) (rounds_at k s) }
