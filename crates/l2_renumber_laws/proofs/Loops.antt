-- Loops under renumbered tests.
use Rattle.std.proofs.Common.{◌≡◌, ℕ, zero, suc, ℤ, pos, Bool, true, false, List, [], ◌∷◌, Option, Some, None, refl, sym, ap, ◌∙◌}
use Rattle.std.specs.Prelude.{◌||◌, ◌&&◌, ◌==◌}
use Rattle.std.specs.Ordering.{int_eq}
use Rattle.l2_runs.specs.declared.outcome.Outcome.{Outcome}
use Rattle.l2_runs.specs.declared.outcome.Outcome.TheVariants.{Stopped, Broken, OutOfTurns}
use Rattle.l2_runs.specs.Store.{Store}
use Rattle.l2_runs.specs.Runs.{State, Over, Fallen, Result, Go, Halt, Run, on_go, and_then, done, either, take_choice, choose, demand, check}
use Rattle.l2_runs.specs.Loops.{Limit, Real, Short, Cut, Test, Tests, Turn, events, or_events, tested, or_next, or_stop, rounds, behind, spend_of, spend, tally, later_copies, limited, loop_of}
use Rattle.l2_renumber_laws.specs.Renumbered.{renumbered_end, AreRenumbered, nothing, same, extra, never, all_hold}

module _ (number : ℕ → ℕ → ℕ) where
  abbrev pub renumbered : {A : Type 0} → Result A → Result A
  renumbered (Go a s) = Go a s
  renumbered (Halt e s) = Halt (renumbered_end number e) s

  -- the second run does what the first does, and falls at the other number
  pub record Renames {A : Type 0} (r p : Run A) : Type 0 where
    pub by : (s : State) → p s ≡ renumbered (r s)

  on_same : {A B : Type 0} (x : Result A) (f g : A → Run B) → ((a : A) → Renames (f a) (g a)) → on_go (renumbered x) g ≡ renumbered (on_go x f)
  on_same (Go a s) f g next = (next a).by s
  on_same (Halt e s) f g next = refl

  on_result : {A B : Type 0} (x y : Result A) (f g : A → Run B) → y ≡ renumbered x → ((a : A) → Renames (f a) (g a)) → on_go y g ≡ renumbered (on_go x f)
  on_result x y f g e next = ap (λ z. on_go z g) e ∙ on_same x f g next

  pub then_renames : {A B : Type 0} {r p : Run A} {f g : A → Run B} → Renames r p → ((a : A) → Renames (f a) (g a)) → Renames (and_then r f) (and_then p g)
  then_renames {r = r} {p = p} {f = f} {g = g} h next = record { by = λ s. on_result (r s) (p s) f g (h.by s) next }

  pub done_renames : {A : Type 0} (a : A) → Renames (done a) (done a)
  done_renames a = record { by = λ s. refl }

  pub choose_renames : Renames choose choose
  choose_renames = record { by = λ s. at_choices s s.choices }
    where
      at_choices : (s : State) (cs : List ℤ) → take_choice cs s ≡ renumbered (take_choice cs s)
      at_choices s [] = refl
      at_choices s (c ∷ cs) = refl

  spend_renames : Renames spend spend
  spend_renames = record { by = λ s. spent s s.turns }
    where
      spent : (s : State) (left : ℕ) → spend_of left s ≡ renumbered (spend_of left s)
      spent s zero = refl
      spent s (suc left) = refl

  demand_same : (y : Bool) (c : ℕ) (ok : Bool) (s : State) → demand y (Over (Broken c)) ok s ≡ renumbered (demand y (Over (Broken c)) ok s)
  demand_same y c true s = refl
  demand_same true c false s = refl
  demand_same false c false s = refl

  pub check_renames : (y : Bool) (c : ℕ) (ok : Bool) → Renames (check y c ok) (check y c ok)
  check_renames y c ok = record { by = λ s. demand_same y c (c == 0 || ok) s }

  pub either_renames : {A : Type 0} (b : Bool) {r r' p p' : Run A} → Renames r p → Renames r' p' → Renames (either b r r') (either b p p')
  either_renames true h k = record { by = λ s. h.by s }
  either_renames false h k = record { by = λ s. k.by s }

  -- ---- tests

  events_same : (y : Bool) (l : ℕ) (ts us : List Test) → AreRenumbered (number l) ts us → (a : Store) (s : State) → events y l us a s ≡ renumbered (events y l ts a s)
  events_same y l [] [] nothing a s = refl
  events_same y l (t ∷ ts) [] h a s = elim h [ ]
  events_same y l (t ∷ ts) (u ∷ us) (same row holds rest) a s =
      ap (λ ok. on_go (demand y (Fallen l u.row) ok s) (λ v. events y l us a)) (holds a s.store) ∙ by_test (t.holds a s.store) (events_same y l ts us rest a)
    where
      by_test : (ok : Bool) → ((s : State) → events y l us a s ≡ renumbered (events y l ts a s)) → on_go (demand y (Fallen l u.row) ok s) (λ v. events y l us a) ≡ renumbered (on_go (demand y (Fallen l t.row) ok s) (λ v. events y l ts a))
      by_test true go = go s
      by_test false go = failed y
        where
          failed : (w : Bool) → on_go (demand w (Fallen l u.row) false s) (λ v. events y l us a) ≡ renumbered (on_go (demand w (Fallen l t.row) false s) (λ v. events y l ts a))
          failed true = ap (λ n. Halt (Fallen l n) s) row
          failed false = refl
  events_same y l ts (u ∷ us) (extra holds rest) a s =
      ap (λ ok. on_go (demand y (Fallen l u.row) ok s) (λ v. events y l us a)) (holds a s.store) ∙ events_same y l ts us rest a s
  events_same y l (t ∷ ts) (u ∷ us) (never row first second) a s =
      ap (λ ok. on_go (demand y (Fallen l u.row) ok s) (λ v. events y l us a)) (second a s.store)
      ∙ failed y
      ∙ sym (ap (λ ok. renumbered (on_go (demand y (Fallen l t.row) ok s) (λ v. events y l ts a))) (first a s.store))
    where
      failed : (w : Bool) → on_go (demand w (Fallen l u.row) false s) (λ v. events y l us a) ≡ renumbered (on_go (demand w (Fallen l t.row) false s) (λ v. events y l ts a))
      failed true = ap (λ n. Halt (Fallen l n) s) row
      failed false = refl

  -- ---- loops

  -- how loops start back falls nowhere
  abbrev pub StartsQuiet : Limit → Type 0
  StartsQuiet Real = Unit {0}
  StartsQuiet (Short k) = Unit {0}
  StartsQuiet (Cut k back) = (l : ℕ) → Renames (back l) (back l)

  module _ (F : Type 0) where
    next_renames : (f g : Unit {0} → Run (Unit {0} × F)) → Renames (f tt) (g tt) → (x : Unit {0} × Option F) → Renames (or_next f x) (or_next g x)
    next_renames f g h (c, None) = record { by = λ s. h.by s }
    next_renames f g h (c, Some v) = record { by = λ s. refl }

    stop_renames : (f g : Unit {0} → Run (Unit {0} × F)) → Renames (f tt) (g tt) → (x : Unit {0} × Option F) → Renames (or_stop f x) (or_stop g x)
    stop_renames f g h (c, None) = record { by = λ s. h.by s }
    stop_renames f g h (c, Some v) = record { by = λ s. refl }

    rounds_renames : (o : Outcome) (n : ℕ) (f g : Turn (Unit {0}) F) → Renames (f tt) (g tt) → Renames (rounds (Over o) n f tt) (rounds (Over o) n g tt)
    rounds_renames o zero f g h = record { by = λ s. refl }
    rounds_renames o (suc n) f g h = then_renames {f = or_next (rounds (Over o) n f)} {g = or_next (rounds (Over o) n g)} h (next_renames (rounds (Over o) n f) (rounds (Over o) n g) (rounds_renames o n f g h))

    module _ (f g : Bool → Turn (Unit {0}) F) (renames : (y : Bool) → Renames (f y tt) (g y tt)) where
      later_renames : (y : Bool) (n : ℕ) → Renames (later_copies n f y tt) (later_copies n g y tt)
      later_renames y zero = rounds_renames Stopped 1 (f y) (g y) (renames y)
      later_renames y (suc n) = then_renames {f = or_stop (later_copies n f y)} {g = or_stop (later_copies n g y)} (renames false) (stop_renames (later_copies n f y) (later_copies n g y) (later_renames y n))

      behind_renames : (y : Bool) (arrive : Run (Unit {0})) → Renames arrive arrive → Renames (behind arrive (f y) tt) (behind arrive (g y) tt)
      behind_renames y arrive h = then_renames h (λ u. renames y)

      limited_renames : (limit : Limit) → StartsQuiet limit → (l : ℕ) (y : Bool) → Renames (limited limit l f y tt) (limited limit l g y tt)
      limited_renames Real q l y = record { by = λ s. (rounds_renames OutOfTurns s.turns (behind spend (f y)) (behind spend (g y)) (behind_renames y spend spend_renames)).by s }
      limited_renames (Short k) q l y = record { by = λ s. (rounds_renames Stopped k (behind tally (f y)) (behind tally (g y)) (behind_renames y tally (record { by = λ s. refl }))).by s }
      limited_renames (Cut zero back) q l y = record { by = λ s. refl }
      limited_renames (Cut (suc k) back) q l y = record {
        by = λ s. (then_renames choose_renames (λ z. either_renames (int_eq z (pos 0)) (rounds_renames Stopped (suc k) (f y) (g y) (renames y)) (then_renames (q l) (λ u. later_renames y k)))).by s;
      }

  -- ends of turns do the same, and fall at the other number
  abbrev pub EndsRename : Tests → Tests → Type 0
  EndsRename tests others = (y : Bool) (l : ℕ) (a : Store) (s : State) → events y l (others y l) a s ≡ renumbered (events y l (tests y l) a s)

  pub renumbered_ends : (tests others : Tests) → ((y : Bool) (l : ℕ) → AreRenumbered (number l) (tests y l) (others y l)) → EndsRename tests others
  renumbered_ends tests others are y l = events_same y l (tests y l) (others y l) (are y l)

  -- where an end doesn't count, it's asked alone whether all tests hold
  abbrev goes_if : Bool → Run (Unit {0})
  goes_if true s = Go tt s
  goes_if false s = Halt (Over Stopped) s

  uncounted : (l : ℕ) (ts : List Test) (a : Store) (s : State) → events false l ts a s ≡ goes_if (all_hold ts a s.store) s
  uncounted l [] a s = refl
  uncounted l (t ∷ ts) a s = by_test (t.holds a s.store) (uncounted l ts a s)
    where
      by_test : (ok : Bool) → events false l ts a s ≡ goes_if (all_hold ts a s.store) s → on_go (demand false (Fallen l t.row) ok s) (λ v. events false l ts a) ≡ goes_if (ok && all_hold ts a s.store) s
      by_test true h = h
      by_test false h = refl

  uncounted_same : (l : ℕ) (ts us : List Test) (a : Store) (s : State) → all_hold us a s.store ≡ all_hold ts a s.store → events false l us a s ≡ renumbered (events false l ts a s)
  uncounted_same l ts us a s e =
      uncounted l us a s ∙ ap (λ ok. goes_if ok s) e ∙ same_number (all_hold ts a s.store) ∙ sym (ap renumbered (uncounted l ts a s))
    where
      same_number : (ok : Bool) → goes_if ok s ≡ renumbered (goes_if ok s)
      same_number true = refl
      same_number false = refl

  pub counted_ends : (tests others : Tests) → ((l : ℕ) → AreRenumbered (number l) (tests true l) (others true l)) → ((l : ℕ) (a b : Store) → all_hold (others false l) a b ≡ all_hold (tests false l) a b) → EndsRename tests others
  counted_ends tests others are alike true l = events_same true l (tests true l) (others true l) (are l)
  counted_ends tests others are alike false l = λ a s. uncounted_same l (tests false l) (others false l) a s (alike l a s.store)

  module _ (tests others : Tests) (are : EndsRename tests others) where
    or_events_renames : {F : Type 0} (y : Bool) (l : ℕ) (a : Store) (x : Unit {0} × Option F) → Renames (or_events y l (tests y l) a x) (or_events y l (others y l) a x)
    or_events_renames y l a (c, None) =
        record { by = λ s. on_result (events y l (tests y l) a s) (events y l (others y l) a s) (λ u. done (c, None)) (λ u. done (c, None)) (are y l a s) (λ u. done_renames (c, None)) }
    or_events_renames y l a (c, Some v) = record { by = λ s. refl }

    pub loop_renames : {F : Type 0} (limit : Limit) → StartsQuiet limit → (l : ℕ) (f g : Bool → Turn (Unit {0}) F) → ((y : Bool) → Renames (f y tt) (g y tt)) → (y : Bool) → Renames (loop_of limit tests l f y tt) (loop_of limit others l g y tt)
    loop_renames {F} limit quiet l f g renames y =
        limited_renames F (tested tests l f) (tested others l g) turn limit quiet l y
      where
        turn : (y : Bool) → Renames (tested tests l f y tt) (tested others l g y tt)
        turn y = record { by = λ s. on_result (f y tt s) (g y tt s) (or_events y l (tests y l) s.store) (or_events y l (others y l) s.store) ((renames y).by s) (or_events_renames y l s.store) }
