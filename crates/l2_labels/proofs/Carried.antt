-- Runs that do the same and give what a function makes of the other's answer.
use Rattle.std.proofs.Common.{◌≡◌, refl, ap, ◌∙◌, ℕ, zero, suc, pos, Bool, true, false, Option, Some, None}
use Rattle.std.specs.Ordering.{int_eq}
use Rattle.l2_runs.specs.declared.outcome.Outcome.TheVariants.{Stopped, OutOfTurns}
use Rattle.l2_runs.specs.Store.{Store}
use Rattle.l2_runs.specs.Runs.{State, End, Over, Result, Go, Halt, Run, on_go, and_then, done, either, choose}
use Rattle.l2_runs.specs.Loops.{Limit, Real, Short, Cut, Tests, Turn, events, or_events, tested, or_next, or_stop, rounds, behind, spend, tally, later_copies, limited, loop_of}

abbrev pub carried : {A B : Type 0} → (A → B) → Result A → Result B
carried h (Go a s) = Go (h a) s
carried h (Halt e s) = Halt e s

pub record Carries {A B : Type 0} (h : A → B) (r : Run A) (q : Run B) : Type 0 where
  pub at : (s : State) → q s ≡ carried h (r s)

pub done_carries : {A B : Type 0} (h : A → B) (a : A) (b : B) → b ≡ h a → Carries h (done a) (done b)
done_carries h a b e = record { at = λ s. ap (λ x. Go x s) e }

itself : {A : Type 0} (x : Result A) → x ≡ carried (λ a. a) x
itself (Go a s) = refl
itself (Halt e s) = refl

pub same : {A : Type 0} (r : Run A) → Carries (λ a. a) r r
same r = record { at = λ s. itself (r s) }

go_on : {A B C D : Type 0} (h : A → B) (k : C → D) (f : A → Run C) (g : B → Run D) → ((a : A) → Carries k (f a) (g (h a))) → (x : Result A) → on_go (carried h x) g ≡ carried k (on_go x f)
go_on h k f g next (Go a s) = (next a).at s
go_on h k f g next (Halt e s) = refl

pub then_carries : {A B C D : Type 0} (h : A → B) (k : C → D) {r : Run A} {q : Run B} (f : A → Run C) (g : B → Run D)
    → Carries h r q → ((a : A) → Carries k (f a) (g (h a))) → Carries k (and_then r f) (and_then q g)
then_carries h k {r = r} f g first next = record { at = λ s. ap (λ x. on_go x g) (first.at s) ∙ go_on h k f g next (r s) }

either_carries : {A B : Type 0} (h : A → B) (b : Bool) {r u : Run A} {q v : Run B} → Carries h r q → Carries h u v → Carries h (either b r u) (either b q v)
either_carries h true x y = record { at = λ s. x.at s }
either_carries h false x y = record { at = λ s. y.at s }

-- how a turn is left, by what a function makes of it
abbrev pub turned : {C F G : Type 0} → (F → G) → C × Option F → C × Option G
turned h (c, None) = (c, None)
turned h (c, Some f) = (c, Some (h f))

abbrev pub left : {C F G : Type 0} → (F → G) → C × F → C × G
left h r = (r.0, h r.1)

module _ {C F G : Type 0} (h : F → G) where
  next_carries : (f : C → Run (C × F)) (g : C → Run (C × G)) → ((c : C) → Carries (left h) (f c) (g c)) → (x : C × Option F) → Carries (left h) (or_next f x) (or_next g (turned h x))
  next_carries f g all (c, None) = record { at = λ s. (all c).at s }
  next_carries f g all (c, Some v) = record { at = λ s. refl }

  stop_carries : (f : C → Run (C × F)) (g : C → Run (C × G)) → ((c : C) → Carries (left h) (f c) (g c)) → (x : C × Option F) → Carries (left h) (or_stop f x) (or_stop g (turned h x))
  stop_carries f g all (c, None) = record { at = λ s. (all c).at s }
  stop_carries f g all (c, Some v) = record { at = λ s. refl }

  rounds_carries : (e : End) (n : ℕ) (f : Turn C F) (g : Turn C G) → ((c : C) → Carries (turned h) (f c) (g c)) → (c : C) → Carries (left h) (rounds e n f c) (rounds e n g c)
  rounds_carries e zero f g all c = record { at = λ s. refl }
  rounds_carries e (suc n) f g all c =
      then_carries (turned h) (left h) (or_next (rounds e n f)) (or_next (rounds e n g)) (all c) (next_carries (rounds e n f) (rounds e n g) (rounds_carries e n f g all))

  behind_carries : (r : Run (Unit {0})) (f : Turn C F) (g : Turn C G) → ((c : C) → Carries (turned h) (f c) (g c)) → (c : C) → Carries (turned h) (behind r f c) (behind r g c)
  behind_carries r f g all c = then_carries (λ u. u) (turned h) (λ u. f c) (λ u. g c) (same r) (λ u. all c)

  module _ (turn : Bool → Turn C F) (other : Bool → Turn C G) (all : (y : Bool) (c : C) → Carries (turned h) (turn y c) (other y c)) where
    later_carries : (y : Bool) (n : ℕ) (c : C) → Carries (left h) (later_copies n turn y c) (later_copies n other y c)
    later_carries y zero c = rounds_carries (Over Stopped) 1 (turn y) (other y) (all y) c
    later_carries y (suc n) c =
        then_carries (turned h) (left h) (or_stop (later_copies n turn y)) (or_stop (later_copies n other y)) (all false c) (stop_carries (later_copies n turn y) (later_copies n other y) (later_carries y n))

    limited_carries : (limit : Limit) (l : ℕ) (y : Bool) (c : C) → Carries (left h) (limited limit l turn y c) (limited limit l other y c)
    limited_carries Real l y c = record {
      at = λ s. (rounds_carries (Over OutOfTurns) s.turns (behind spend (turn y)) (behind spend (other y)) (behind_carries spend (turn y) (other y) (all y)) c).at s;
    }
    limited_carries (Short n) l y c = record {
      at = λ s. (rounds_carries (Over Stopped) n (behind tally (turn y)) (behind tally (other y)) (behind_carries tally (turn y) (other y) (all y)) c).at s;
    }
    limited_carries (Cut zero back) l y c = record { at = λ s. refl }
    limited_carries (Cut (suc n) back) l y c = record {
      at = λ s. (then_carries (λ z. z) (left h)
          (λ z. either (int_eq z (pos 0)) (rounds (Over Stopped) (suc n) (turn y) c) (and_then (back l) (λ u. later_copies n turn y c)))
          (λ z. either (int_eq z (pos 0)) (rounds (Over Stopped) (suc n) (other y) c) (and_then (back l) (λ u. later_copies n other y c)))
          (same choose)
          (λ z. either_carries (left h) (int_eq z (pos 0)) (rounds_carries (Over Stopped) (suc n) (turn y) (other y) (all y) c)
          (then_carries (λ u. u) (left h) (λ u. later_copies n turn y c) (λ u. later_copies n other y c) (same (back l)) (λ u. later_carries y n c)))).at s;
    }

  tested_end : (y : Bool) (l : ℕ) (ts : Tests) (a : Store) (x : C × Option F) → Carries (turned h) (or_events y l (ts y l) a x) (or_events y l (ts y l) a (turned h x))
  tested_end y l ts a (c, None) = record { at = λ s. go (events y l (ts y l) a s) }
    where
      go : (x : Result (Unit {0})) → on_go x (λ u. done (c, None)) ≡ carried (turned h) (on_go x (λ u. done (c, None)))
      go (Go u s) = refl
      go (Halt e s) = refl
  tested_end y l ts a (c, Some f) = record { at = λ s. refl }

  tested_carries : (tests : Tests) (l : ℕ) (turn : Bool → Turn C F) (other : Bool → Turn C G) (y : Bool) (c : C) → Carries (turned h) (turn y c) (other y c) → Carries (turned h) (tested tests l turn y c) (tested tests l other y c)
  tested_carries tests l turn other y c e = record { at = λ s. (then_carries (turned h) (turned h) (or_events y l (tests y l) s.store) (or_events y l (tests y l) s.store) e (tested_end y l tests s.store)).at s }

  pub loop_carries : (limit : Limit) (tests : Tests) (l : ℕ) (turn : Bool → Turn C F) (other : Bool → Turn C G) → ((y : Bool) (c : C) → Carries (turned h) (turn y c) (other y c))
      → (y : Bool) (c : C) → Carries (left h) (loop_of limit tests l turn y c) (loop_of limit tests l other y c)
  loop_carries limit tests l turn other all y c =
      limited_carries (tested tests l turn) (tested tests l other) (λ y c. tested_carries tests l turn other y c (all y c)) limit l y c
