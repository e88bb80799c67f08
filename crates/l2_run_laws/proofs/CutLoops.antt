-- A cut loop follows a real loop, or falls at a row.
use Rattle.std.proofs.Common.{◌≡◌, ℕ, zero, suc, ◌+◌, ◌-◌, ◌<◌, ℤ, pos, Bool, true, false, List, [], ◌∷◌, Option, Some, None, ◌⊎◌, inl, inr, refl, sym, ap, ◌∙◌, subst, arith}
use native.Mathlib.Decide.{dec_lt}
use Rattle.l2_runs.specs.declared.outcome.Outcome.TheVariants.{Stopped, OutOfTurns}
use Rattle.l2_runs.specs.Store.{Store}
use Rattle.l2_runs.specs.Runs.{State, Over, Fallen, Result, Go, Halt, Run, on_go, and_then, done}
use Rattle.l2_runs.specs.Loops.{Test, Tests, Turn, Real, Cut, events, or_events, tested, or_next, or_stop, rounds, behind, spend_of, spend, copies, later_copies, cut, loop_of}
use Rattle.l2_run_laws.specs.Watches.{HoldAll, cut_tests}
use Rattle.l2_run_laws.proofs.CutRuns.{at, EndsIn, Cuts, Drives, Simulates, Halts, Falls, Meets, Matched, Follows, drives_here, drives_on, drives_falls, drives_meets, falls_first, meets_first}
use Rattle.l2_run_laws.proofs.Judging.{FailsAt, hold_alone, hold_before, judge}

-- m more than n, so that one more is on the other side at once
up : ℕ → ℕ → ℕ
up zero n = n
up (suc m) n = up m (suc n)

plus : ℕ → ℕ → ℕ
plus zero n = n
plus (suc m) n = suc (plus m n)

up_is : (m n : ℕ) → up m n ≡ m + n
unfolding up
up_is zero n = omega arith
up_is (suc m) n = let e = up_is m (suc n) in omega arith

plus_is : (m n : ℕ) → plus m n ≡ m + n
unfolding plus
plus_is zero n = omega arith
plus_is (suc m) n = let e = plus_is m n in omega arith

-- a turn that goes on to the next head changes the store so at most, and keeps what is so of stores
abbrev pub FramedTurn : {F : Type 0} → (Store → Type 0) → (Store → Store → Type 0) → Store → Result (Unit {0} × Option F) → Type 0
FramedTurn Pre Frame a (Go (u, None) s) = Frame a s.store × Pre s.store
FramedTurn Pre Frame a (Go (u, Some f) s) = Unit {0}
FramedTurn Pre Frame a (Halt e s) = Unit {0}

-- ---- a loop

module _ (Pre : Store → Type 0) (l : ℕ) (back : ℕ → Run (Unit {0})) (rows : ℕ → List Test) (tests : Tests) (Frame : Store → Store → Type 0) (frame_refl : (a : Store) → Frame a a) (frame_trans : (a b c : Store) → Frame a b → Frame b c → Frame a c) (comes : (start a b : Store) → Pre start → Frame start b → Pre b → HoldAll (rows l) a b → Simulates (λ y w. back l) start b tt) (F : Type 0) (real : Bool → Turn (Unit {0}) F) (copy : Bool → Bool → Turn (Unit {0}) F) where
  -- the tests of a real turn's end
  abbrev watches : ℕ → List Test
  watches = tests true

  -- the tests of the cut run
  abbrev ends : Bool → Bool → List Test
  ends y w = cut_tests w rows watches y l

  -- one copy with its tests
  abbrev turn_at : Bool → Bool → Turn (Unit {0}) F
  turn_at w = tested (cut_tests w rows watches) l (λ y. copy y w)

  abbrev one : Cuts (Unit {0} × Option F)
  one y w = turn_at w y tt

  abbrev some_copies : ℕ → Cuts (Unit {0} × F)
  some_copies n y w = copies n (turn_at w) y tt

  abbrev last_copies : ℕ → Cuts (Unit {0} × F)
  last_copies n y w = later_copies n (turn_at w) y tt

  abbrev the_cut : ℕ → Cuts (Unit {0} × F)
  the_cut k y w = cut (suc k) (back l) (turn_at w) y tt

  -- one turn to the next head
  record Step (a b : Store) : Type 0 where
    sim : Simulates one a b (tt, None)
    held : HoldAll (rows l) a b
    good : Pre b
    frame : Frame a b

  -- the head that so many turns lead to
  data Heads (start : Store) : ℕ → Store → Type 0 where
    first : Heads start zero start
    next : {n : ℕ} {a b : Store} → Heads start n a → Step a b → Heads start (suc n) b

  heads_frame : {start b : Store} {n : ℕ} → Heads start n b → Frame start b
  heads_frame first = frame_refl _
  heads_frame (next h s) = frame_trans _ _ _ (heads_frame h) s.frame

  copy_step : (n : ℕ) (a b : Store) → Step a b → Drives (some_copies (suc n)) (some_copies n) a b
  copy_step n a b s = record { cs = s.sim.cs; runs = λ y w rest t. ap (λ r. on_go r (or_next (rounds (Over Stopped) n (turn_at w y)))) (s.sim.runs y w rest t) }

  later_step : (n : ℕ) (a b : Store) → Step a b → Drives (last_copies (suc n)) (last_copies n) a b
  later_step n a b s = record { cs = s.sim.cs; runs = λ y w rest t. ap (λ r. on_go r (or_stop (later_copies n (turn_at w) y))) (s.sim.runs false w rest t) }

  -- from the entry
  from_entry : {start b : Store} {t : ℕ} (n : ℕ) → Heads start t b → Drives (some_copies (up t n)) (some_copies n) start b
  unfolding up
  from_entry n first = drives_here _ _
  from_entry n (next h s) = drives_on _ _ _ _ _ _ (from_entry (suc n) h) (copy_step n _ _ s)

  -- the head that so many turns before lead from
  record Earlier (start : Store) (m t : ℕ) (b : Store) : Type 0 where
    head : Store
    heads : Heads start t head
    drives : (n : ℕ) → Drives (last_copies (up m n)) (last_copies n) head b

  earlier : {start b : Store} (m t : ℕ) → Heads start (plus m t) b → Earlier start m t b
  unfolding up plus
  earlier zero t h = record { head = _; heads = h; drives = λ n. drives_here _ _ }
  earlier (suc m) t (next h s) =
      let e = earlier m t h in
      record { head = e.head; heads = e.heads; drives = λ n. drives_on _ _ _ _ _ _ (e.drives (suc n)) (later_step n _ _ s) }

  -- a back start at a head that a turn led to
  from_back : (k : ℕ) {start a : Store} {t : ℕ} → Pre start → Heads start (suc t) a → Drives (the_cut k) (last_copies k) start a
  from_back k g (next h s) =
      let c = comes _ _ _ g (frame_trans _ _ _ (heads_frame h) s.frame) s.good s.held in
      record { cs = pos 1 ∷ c.cs; runs = λ y w rest t. ap (λ r. on_go r (λ u. later_copies k (turn_at w) y tt)) (c.runs y w rest t) }

  -- an entry
  from_start : (k : ℕ) (start : Store) → Drives (the_cut k) (some_copies (suc k)) start start
  from_start k start = record { cs = pos 0 ∷ []; runs = λ y w rest t. refl }

  -- the cut loop comes to each head in a copy that may leave it and counts
  record Ready (k : ℕ) (start b : Store) : Type 0 where
    left : ℕ
    drives : Drives (the_cut k) (some_copies (suc left)) start b

  ready : (k t : ℕ) (start b : Store) → Pre start → Heads start t b → Ready k start b
  ready k t start b g h = elim (dec_lt t (suc k)) [ yes lt ↦ early lt | no ge ↦ late (omega arith) ]
    where
      early : t < suc k → Ready k start b
      early lt =
          let e : up t (suc (k - t)) ≡ suc k = omega (arith, up_is t (suc (k - t))) in
          let d = subst (λ n. Drives (some_copies n) (some_copies (suc (k - t))) start b) e (from_entry (suc (k - t)) h) in
          record { left = k - t; drives = drives_on _ _ _ _ _ _ (from_start k start) d }

      late : k < t → Ready k start b
      late gt =
          let e : t ≡ plus k (suc (t - suc k)) = omega (arith, plus_is k (suc (t - suc k))) in
          let h' = subst (λ n. Heads start n b) e h in
          let p = earlier k (suc (t - suc k)) h' in
          let u : up k zero ≡ k = omega (arith, up_is k zero) in
          let d = subst (λ n. Drives (last_copies n) (last_copies zero) p.head b) u (p.drives zero) in
          record { left = zero; drives = drives_on _ _ _ _ _ _ (from_back k g p.heads) d }

  -- ---- a turn and its tests

  abbrev Turned : Store → Result (Unit {0} × Option F) → Type 0
  Turned a (Go (u, None) s) = Step a s.store
  Turned a (Go (u, Some f) s) = Simulates one a s.store (tt, Some f)
  Turned a (Halt e s) = Meets one a e

  abbrev plain : Cuts (Unit {0} × Option F)
  plain y w = copy y w tt

  -- the tests that the cut run makes
  abbrev tests_at : Store → Cuts (Unit {0} × Option F)
  tests_at a y w = or_events y l (ends y w) a (tt, None)

  to_tests : (a b : Store) → Simulates plain a b (tt, None) → Drives one (tests_at a) a b
  to_tests a b m = record { cs = m.cs; runs = λ y w rest t. ap (λ r. on_go r (or_events y l (ends y w) a)) (m.runs y w rest t) }

  -- where all tests hold
  passes : (a b : Store) → HoldAll (rows l) a b → HoldAll (watches l) a b → Simulates (tests_at a) b b (tt, None)
  passes a b h k = record { cs = []; runs = λ y w rest t. in_way y w rest t }
    where
      in_way : (y w : Bool) (rest : List ℤ) (t : State) → tests_at a y w (at b rest t) ≡ Go (tt, None) (at b rest t)
      in_way y false rest t = ap (λ r. on_go r (λ u. done (tt, None))) (hold_alone l a b y (rows l) h rest t)
      in_way false true rest t = ap (λ r. on_go r (λ u. done (tt, None))) (hold_alone l a b false (rows l) h rest t)
      in_way true true rest t = ap (λ r. on_go r (λ u. done (tt, None))) (hold_before l a b true (rows l) (watches l) h rest t ∙ hold_alone l a b true (watches l) k rest t)

  -- where a row fails
  row_falls : (a b : Store) → FailsAt l a b (rows l) → Falls (tests_at a) b
  row_falls a b f = record { loop = l; row = f.row; by = record { cs = []; runs = λ t. subst (λ (r : Result (Unit {0})). EndsIn {A = Unit {0} × Option F} (on_go r (λ u. done (tt, None))) (Fallen l f.row)) (sym (f.alone [] t)) refl } }

  -- where a watch fails behind rows that hold
  watch_falls : (a b : Store) → HoldAll (rows l) a b → (f : FailsAt l a b (watches l)) → Halts (tests_at a true true) b (Fallen l f.row)
  watch_falls a b h f = record { cs = []; runs = λ t. subst (λ (r : Result (Unit {0})). EndsIn {A = Unit {0} × Option F} (on_go r (λ u. done (tt, None))) (Fallen l f.row)) (sym (hold_before l a b true (rows l) (watches l) h [] t ∙ f.alone [] t)) refl }

  -- at a turn's end
  at_end : (a : Store) (s : State) → Pre s.store → Frame a s.store → Simulates plain a s.store (tt, None) → HoldAll (rows l) a s.store ⊎ FailsAt l a s.store (rows l) → HoldAll (watches l) a s.store ⊎ FailsAt l a s.store (watches l) → Falls one a ⊎ Turned a (on_go (events true l (watches l) a s) (λ u. done (tt, None)))
  at_end a s good frame m (inr f) j = inl (drives_falls one (tests_at a) a s.store (to_tests a s.store m) (row_falls a s.store f))
  at_end a s good frame m (inl h) (inl k) =
      subst (λ r. Falls one a ⊎ Turned a (on_go r (λ u. done (tt, None)))) (sym (hold_alone l a s.store true (watches l) k s.choices s))
      (inr (record { sim = drives_on one (tests_at a) (λ y w. done (tt, None)) a s.store s.store (to_tests a s.store m) (passes a s.store h k); held = h; good = good; frame = frame }))
  at_end a s good frame m (inl h) (inr f) =
      subst (λ r. Falls one a ⊎ Turned a (on_go r (λ u. done (tt, None)))) (sym (f.alone s.choices s))
      (inr (drives_meets one (tests_at a) a s.store (Fallen l f.row) (to_tests a s.store m) (watch_falls a s.store h f)))

  with_tests : (a : Store) (x : Result (Unit {0} × Option F)) → FramedTurn Pre Frame a x → Falls plain a ⊎ Matched plain a x → Falls one a ⊎ Turned a (on_go x (or_events true l (watches l) a))
  with_tests a x frame (inl q) = let z = falls_first plain (λ y w. or_events y l (ends y w) a) a q in inl (record { loop = z.loop; row = z.row; by = record { cs = z.by.cs; runs = z.by.runs } })
  with_tests a (Go (u, None) s) frame (inr m) = at_end a s frame.1 frame.0 m (judge l a s.store (rows l)) (judge l a s.store (watches l))
  with_tests a (Go (u, Some f) s) frame (inr m) =
      inr (record { cs = m.cs; runs = λ y w rest t. ap (λ r. on_go r (or_events y l (ends y w) a)) (m.runs y w rest t) })
  with_tests a (Halt e s) frame (inr m) = inr (drives_meets one (λ y w. and_then (plain y w) (or_events y l (ends y w) a)) a a e (record { cs = []; runs = λ y w rest t. refl }) (meets_first plain (λ y w. or_events y l (ends y w) a) a e m))

  -- ---- each turn of the real loop

  module _ (k : ℕ) (start : Store) (good : Pre start) where
    abbrev Answer : Result (Unit {0} × F) → Type 0
    Answer y = Falls (the_cut k) start ⊎ Matched (the_cut k) start y

    abbrev rest_of : ℕ → Unit {0} → Run (Unit {0} × F)
    rest_of n = rounds (Over OutOfTurns) n (behind spend (tested tests l real true))

    turned : (n t : ℕ) (a : Store) (x : Result (Unit {0} × Option F)) → Heads start t a → Falls one a ⊎ Turned a x → ((s : State) → Pre s.store → Heads start (suc t) s.store → Answer (rest_of n tt s)) → Answer (on_go x (or_next (rest_of n)))
    turned n t a x h (inl q) go =
        let r = ready k t start a good h in
        inl (drives_falls _ _ _ _ r.drives (falls_first one (λ y w. or_next (rounds (Over Stopped) r.left (turn_at w y))) a q))
    turned n t a (Go (u, None) s) h (inr m) go = go s m.good (next h m)
    turned n t a (Go (u, Some f) s) h (inr m) go =
        let r = ready k t start a good h in
        inr (drives_on _ _ _ _ _ _ r.drives (record { cs = m.cs; runs = λ y w rest t. ap (λ r'. on_go r' (or_next (rounds (Over Stopped) r.left (turn_at w y)))) (m.runs y w rest t) }))
    turned n t a (Halt e s) h (inr m) go =
        let r = ready k t start a good h in
        inr (drives_meets _ _ _ _ e r.drives (meets_first one (λ y w. or_next (rounds (Over Stopped) r.left (turn_at w y))) a e m))

    module _ (follows : Follows Pre (real true tt) plain) (frames : (s : State) → Pre s.store → FramedTurn Pre Frame s.store (real true tt s)) where
      arrived : (n t left : ℕ) (s : State) → Pre s.store → Heads start t s.store → ((s' : State) → Pre s'.store → Heads start (suc t) s'.store → Answer (rest_of n tt s')) → Answer (on_go (on_go (spend_of left s) (λ u. tested tests l real true tt)) (or_next (rest_of n)))
      arrived n t zero s g h go = inr tt
      arrived n t (suc left) s g h go =
          let s' : State = record s { turns = left } in
          turned n t s'.store (tested tests l real true tt s') h (with_tests s'.store (real true tt s') (frames s' g) (follows.by s' g)) go

      loop_at : (n t : ℕ) (s : State) → Pre s.store → Heads start t s.store → Answer (rest_of n tt s)
      loop_at zero t s g h = inr tt
      loop_at (suc n) t s g h = arrived n t s.turns s g h (λ s' g h'. loop_at n (suc t) s' g h')

  pub loop_follows : (k : ℕ) → Follows Pre (real true tt) (λ y w. copy y w tt) → ((s : State) → Pre s.store → FramedTurn Pre Frame s.store (real true tt s)) → Follows Pre (loop_of Real tests l real true tt) (λ y w. loop_of (Cut (suc k) back) (cut_tests w rows (tests true)) l (λ c. copy c w) y tt)
  loop_follows k follows frames = record { by = λ s good. loop_at k s.store good follows frames s.turns zero s good first }
