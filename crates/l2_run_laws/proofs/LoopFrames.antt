-- A block ends the lifetimes that it began; a real loop changes what its turns change.
use Rattle.std.proofs.Common.{◌≡◌, ℕ, zero, suc, Bool, true, false, List, [], ◌∷◌, length, Option, Some, None, ◌⊎◌, inl, inr, refl, sym, ◌∙◌, subst}
use native.Mathlib.Decide.{ℕ_discrete}
use Rattle.l2_runs.specs.declared.outcome.Outcome.TheVariants.{OutOfTurns}
use Rattle.l2_runs.specs.Store.{Object, Store, object_at, with_live}
use Rattle.l2_runs.specs.Runs.{State, End, Over, Fallen, Result, Go, Halt, Run, on_go, and_then, done, bury_all, demand}
use Rattle.l2_runs.specs.Loops.{Real, Test, Tests, Turn, events, or_events, tested, or_next, rounds, behind, spend_of, spend, loop_of}
use Rattle.l2_run_laws.proofs.Frames.{at_set, length_set, dead_at, Frame, NoObject, Dead, frame_refl, FramedAt, Frames, then_framed, then_frames, done_frames}

-- ---- blocks

abbrev pub Among : List ℕ → ℕ → Type 0
Among [] n = ⊥
Among (m ∷ ms) n = (n ≡ m) ⊎ Among ms n

-- the store where these objects are dead
abbrev buried : List ℕ → Store → Store
buried [] st = st
buried (m ∷ ms) st = buried ms (with_live st m false)

bury_is : (ms : List ℕ) (s : State) → bury_all ms s ≡ Go tt (record s { store = buried ms s.store })
bury_is [] s = refl
bury_is (m ∷ ms) s = bury_is ms (record s { store = with_live s.store m false })

-- the objects but for their lifetimes
buried_keeps : (ms : List ℕ) (P : ℕ → Object → Type 0) → ((n : ℕ) (o : Object) (live : Bool) → P n o → P n (record o { live = live })) → (st : Store) → ((n : ℕ) → P n (object_at st n)) → (n : ℕ) → P n (object_at (buried ms st) n)
buried_keeps [] P blind st all n = all n
buried_keeps (m ∷ ms) P blind st all n = buried_keeps ms P blind (with_live st m false) (at_set P st m (record (object_at st m) { live = false }) (blind m (object_at st m) false (all m)) all) n

buried_long : (ms : List ℕ) (st : Store) → length (buried ms st) ≡ length st
buried_long [] st = refl
buried_long (m ∷ ms) st = buried_long ms (with_live st m false) ∙ length_set st m (record (object_at st m) { live = false })

buried_live : (ms : List ℕ) (st : Store) (n : ℕ) → (Among ms n → ⊥) → (object_at (buried ms st) n).live ≡ (object_at st n).live
buried_live [] st n out = refl
buried_live (m ∷ ms) st n out =
    buried_live ms (with_live st m false) n (λ a. out (inr a))
    ∙ at_set (λ k x. (k ≡ m → ⊥) → x.live ≡ (object_at st k).live) st m (record (object_at st m) { live = false }) (λ other. absurd (other refl)) (λ k other. refl) n (λ e. out (inl e))

stays_dead : (ms : List ℕ) (st : Store) (n : ℕ) → (object_at st n).live ≡ false → (object_at (buried ms st) n).live ≡ false
stays_dead [] st n e = e
stays_dead (m ∷ ms) st n e =
    stays_dead ms (with_live st m false) n (at_set (λ k x. (object_at st k).live ≡ false → x.live ≡ false) st m (record (object_at st m) { live = false }) (λ h. refl) (λ k h. h) n e)

buried_dead : (ms : List ℕ) (st : Store) (n : ℕ) → Among ms n → (object_at (buried ms st) n).live ≡ false
buried_dead [] st n a = absurd a
buried_dead (m ∷ ms) st n (inl e) = stays_dead ms (with_live st m false) n (subst (λ k. (object_at (with_live st m false) k).live ≡ false) (sym e) (dead_at st m))
buried_dead (m ∷ ms) st n (inr a) = buried_dead ms (with_live st m false) n a

among : (ms : List ℕ) (n : ℕ) → Among ms n ⊎ (Among ms n → ⊥)
among [] n = inr (λ a. a)
among (m ∷ ms) n = go (ℕ_discrete n m) (among ms n)
  where
    go : Dec (n ≡ m) → Among ms n ⊎ (Among ms n → ⊥) → Among (m ∷ ms) n ⊎ (Among (m ∷ ms) n → ⊥)
    go (yes e) r = inl (inl e)
    go (no ne) (inl a) = inl (inr a)
    go (no ne) (inr out) = inr (λ a. elim a [ inl e ↦ ne e | inr b ↦ out b ])

module _ (Changed : ℕ → Type 0) where
  -- what was opened is dead again
  closed : {D O : ℕ → Type 0} (ms : List ℕ) (a b : Store) → ((n : ℕ) → O n → Among ms n) → ((n : ℕ) → Among ms n → D n) → Dead D a → Frame Changed O a b → Frame Changed NoObject a (buried ms b)
  closed ms a b opened dead d f = record {
    long = f.long ∙ sym (buried_long ms b);
    wide = buried_keeps ms (λ n x. length (object_at a n).cells ≡ length x.cells) (λ n o live h. h) b f.wide;
    same = λ n out. buried_keeps ms (λ n x. (Changed n → ⊥) → (object_at a n).cells ≡ x.cells) (λ n o live h. h) b f.same n out;
    live = λ n out. by_case n (among ms n);
  }
    where
      by_case : (n : ℕ) → Among ms n ⊎ (Among ms n → ⊥) → (object_at a n).live ≡ (object_at (buried ms b) n).live
      by_case n (inl m) = d n (dead n m) ∙ sym (buried_dead ms b n m)
      by_case n (inr out) = f.live n (λ o. out (opened n o)) ∙ sym (buried_live ms b n out)

  pub block_frames : {A : Type 0} {D O : ℕ → Type 0} (ms : List ℕ) {r : Run A} → ((n : ℕ) → O n → Among ms n) → ((n : ℕ) → Among ms n → D n) → Frames Changed D O r → Frames Changed D NoObject (and_then r (λ e. and_then (bury_all ms) (λ u. done e)))
  block_frames {A = A} {D = D} {O = O} ms {r = r} opened dead h = record { by = λ s d. go s.store d (r s) (h.by s d) }
    where
      go : (st : Store) → Dead D st → (x : Result A) → FramedAt Changed O st x → FramedAt Changed NoObject st (on_go x (λ e. and_then (bury_all ms) (λ u. done e)))
      go st d (Go e s) f = subst (λ (y : Result (Unit {0})). FramedAt Changed {A = A} NoObject st (on_go y (λ u. done e))) (sym (bury_is ms s)) (closed ms st s.store opened dead d f)
      go st d (Halt e s) f = tt

  -- ---- a real loop

  module _ (D : ℕ → Type 0) where
    spend_frames : Frames Changed D NoObject spend
    spend_frames = record { by = λ s d. spent s s.turns }
      where
        spent : (s : State) (left : ℕ) → FramedAt Changed NoObject s.store (spend_of left s)
        spent s zero = tt
        spent s (suc left) = frame_refl Changed NoObject s.store

    demand_frames : (e : End) (ok : Bool) → Frames Changed D NoObject (demand true e ok)
    demand_frames e true = record { by = λ s d. frame_refl Changed NoObject s.store }
    demand_frames e false = record { by = λ s d. tt }

    on_frames : {A B : Type 0} (st : Store) (x : Result A) (f : A → Run B) → Dead D st → FramedAt Changed NoObject st x → ((a : A) → Frames Changed D NoObject (f a)) → FramedAt Changed NoObject st (on_go x f)
    on_frames st x f d h next = then_framed Changed st x f (λ n o. absurd o) (λ n o. o) (λ n d. d) (λ n d o. o) d h next

    events_frames : (l : ℕ) (tests : List Test) (a : Store) → Frames Changed D NoObject (events true l tests a)
    events_frames l [] a = record { by = λ s d. frame_refl Changed NoObject s.store }
    events_frames l (t ∷ ts) a = record {
      by = λ s d. on_frames s.store (demand true (Fallen l t.row) (t.holds a s.store) s) (λ u. events true l ts a) d ((demand_frames (Fallen l t.row) (t.holds a s.store)).by s d) (λ u. events_frames l ts a);
    }

    module _ {F : Type 0} where
      or_events_frames : (l : ℕ) (tests : List Test) (a : Store) (x : Unit {0} × Option F) → Frames Changed D NoObject (or_events true l tests a x)
      or_events_frames l tests a (c, None) = then_frames Changed {f = λ u. done (c, None)} (events_frames l tests a) (λ u. done_frames Changed (c, None))
      or_events_frames l tests a (c, Some f) = record { by = λ s d. frame_refl Changed NoObject s.store }

      tested_frames : (tests : Tests) (l : ℕ) (turn : Bool → Turn (Unit {0}) F) → Frames Changed D NoObject (turn true tt) → Frames Changed D NoObject (tested tests l turn true tt)
      tested_frames tests l turn h = record { by = λ s d. on_frames s.store (turn true tt s) (or_events true l (tests true l) s.store) d (h.by s d) (or_events_frames l (tests true l) s.store) }

      or_next_frames : (next : Unit {0} → Run (Unit {0} × F)) → Frames Changed D NoObject (next tt) → (x : Unit {0} × Option F) → Frames Changed D NoObject (or_next next x)
      or_next_frames next h (c, None) = record { by = λ s d. h.by s d }
      or_next_frames next h (c, Some f) = record { by = λ s d. frame_refl Changed NoObject s.store }

      rounds_frames : (e : End) (turn : Turn (Unit {0}) F) → Frames Changed D NoObject (turn tt) → (n : ℕ) → Frames Changed D NoObject (rounds e n turn tt)
      rounds_frames e turn h zero = record { by = λ s d. tt }
      rounds_frames e turn h (suc n) = then_frames Changed {f = or_next (rounds e n turn)} h (or_next_frames (rounds e n turn) (rounds_frames e turn h n))

      pub loop_frames : (tests : Tests) (l : ℕ) (turn : Bool → Turn (Unit {0}) F) → Frames Changed D NoObject (turn true tt) → Frames Changed D NoObject (loop_of Real tests l turn true tt)
      loop_frames tests l turn h = record {
        by = λ s d. (rounds_frames (Over OutOfTurns) (behind spend (tested tests l turn true)) (then_frames Changed {f = λ u. tested tests l turn true tt} spend_frames (λ u. tested_frames tests l turn h)) s.turns).by s d;
      }
