-- Runs that lead from stores of which something is so to values and stores of which something is so.
use Rattle.std.proofs.Common.{ℕ, zero, suc, ℤ, Bool, true, false, List, [], ◌∷◌, Option, Some, None}
use Rattle.std.specs.Prelude.{◌||◌, ◌==◌}
use Rattle.l2_runs.specs.declared.outcome.Outcome.TheVariants.{Broken, OutOfTurns}
use Rattle.l2_runs.specs.Store.{Store}
use Rattle.l2_runs.specs.Runs.{State, End, Over, Fallen, Result, Go, Halt, Run, on_go, and_then, done, over, either, take_choice, choose, demand, check}
use Rattle.l2_runs.specs.Loops.{Real, Test, Tests, Turn, events, or_events, tested, or_next, rounds, behind, spend_of, spend, loop_of}

abbrev pub KeptAt : {A : Type 0} → (Store → Type 0) → (A → Type 0) → Result A → Type 0
KeptAt Post P (Go a s) = P a × Post s.store
KeptAt Post P (Halt e s) = Unit {0}

pub record Kept {A : Type 0} (Pre Post : Store → Type 0) (P : A → Type 0) (r : Run A) : Type 0 where
  pub by : (s : State) → Pre s.store → KeptAt Post P (r s)

abbrev pub Always : {A : Type 0} → A → Type 0
Always a = Unit {0}

pub then_kept_at : {A B : Type 0} {Mid Post : Store → Type 0} {P : A → Type 0} {Q : B → Type 0} (x : Result A) (f : A → Run B) → KeptAt Mid P x → ((a : A) → P a → Kept Mid Post Q (f a)) → KeptAt Post Q (on_go x f)
then_kept_at (Go a s) f (p, g) next = (next a p).by s g
then_kept_at (Halt e s) f h next = tt

pub then_kept : {A B : Type 0} {Pre Mid Post : Store → Type 0} {P : A → Type 0} {Q : B → Type 0} {r : Run A} {f : A → Run B} → Kept Pre Mid P r → ((a : A) → P a → Kept Mid Post Q (f a)) → Kept Pre Post Q (and_then r f)
then_kept {r = r} {f = f} h next = record { by = λ s g. then_kept_at (r s) f (h.by s g) next }

pub done_kept : {A : Type 0} {Pre : Store → Type 0} {P : A → Type 0} (a : A) → P a → Kept Pre Pre P (done a)
done_kept a p = record { by = λ s g. (p, g) }

pub over_kept : {A : Type 0} {Pre Post : Store → Type 0} {P : A → Type 0} (e : End) → Kept Pre Post P (over {A = A} e)
over_kept e = record { by = λ s g. tt }

pub either_kept : {A : Type 0} {Pre Post : Store → Type 0} {P : A → Type 0} (b : Bool) {r q : Run A} → Kept Pre Post P r → Kept Pre Post P q → Kept Pre Post P (either b r q)
either_kept true h k = record { by = λ s g. h.by s g }
either_kept false h k = record { by = λ s g. k.by s g }

pub choose_kept : {Pre : Store → Type 0} → Kept Pre Pre Always choose
choose_kept {Pre} = record { by = λ s g. at_choices s.choices s g } where
  at_choices : (cs : List ℤ) (s : State) → Pre s.store → KeptAt Pre Always (take_choice cs s)
  at_choices [] s g = tt
  at_choices (c ∷ cs) s g = (tt, g)

demand_kept : (Pre : Store → Type 0) (y : Bool) (e : End) (ok : Bool) (s : State) → Pre s.store → KeptAt Pre Always (demand y e ok s)
demand_kept Pre y e true s g = (tt, g)
demand_kept Pre true e false s g = tt
demand_kept Pre false e false s g = tt

pub check_kept : {Pre : Store → Type 0} (y : Bool) (c : ℕ) (ok : Bool) → Kept Pre Pre Always (check y c ok)
check_kept {Pre} y c ok = record { by = λ s g. demand_kept Pre y (Over (Broken c)) (c == 0 || ok) s g }

-- ---- a real loop

events_kept : (Pre : Store → Type 0) (y : Bool) (l : ℕ) (ts : List Test) (a : Store) (s : State) → Pre s.store → KeptAt Pre Always (events y l ts a s)
events_kept Pre y l [] a s g = (tt, g)
events_kept Pre y l (t ∷ ts) a s g = then_kept_at (demand y (Fallen l t.row) (t.holds a s.store) s) (λ u. events y l ts a) (demand_kept Pre y (Fallen l t.row) (t.holds a s.store) s g) (λ u p. record { by = λ s g. events_kept Pre y l ts a s g })

module _ {F : Type 0} (Pre : Store → Type 0) (Q : F → Type 0) where
  -- how a turn leaves the loop
  abbrev pub Turned : Unit {0} × Option F → Type 0
  Turned (u, None) = Unit {0}
  Turned (u, Some f) = Q f

  abbrev pub Left : Unit {0} × F → Type 0
  Left (u, f) = Q f

  tested_kept : (y : Bool) (l : ℕ) (ts : List Test) (a : Store) (x : Unit {0} × Option F) → Turned x → (s : State) → Pre s.store → KeptAt Pre Turned (or_events y l ts a x s)
  tested_kept y l ts a (u, None) p s g = then_kept_at (events y l ts a s) (λ u. done (tt, None)) (events_kept Pre y l ts a s g) (λ u q. done_kept (tt, None) tt)
  tested_kept y l ts a (u, Some f) p s g = (p, g)

  module _ (tests : Tests) (l : ℕ) (turn : Bool → Turn (Unit {0}) F) (h : Kept Pre Pre Turned (turn true tt)) where
    turn_kept : Kept Pre Pre Turned (tested tests l turn true tt)
    turn_kept = record { by = λ s g. then_kept_at (turn true tt s) (or_events true l (tests true l) s.store) (h.by s g) (λ x p. record { by = λ t f. tested_kept true l (tests true l) s.store x p t f }) }

    spend_kept : Kept Pre Pre Always spend
    spend_kept = record { by = λ s g. at_turns s.turns s g } where
      at_turns : (left : ℕ) (s : State) → Pre s.store → KeptAt Pre Always (spend_of left s)
      at_turns zero s g = tt
      at_turns (suc left) s g = (tt, g)

    next_kept : (n : ℕ) → ((s : State) → Pre s.store → KeptAt Pre Left (rounds (Over OutOfTurns) n (behind spend (tested tests l turn true)) tt s)) → (x : Unit {0} × Option F) → Turned x → Kept Pre Pre Left (or_next (rounds (Over OutOfTurns) n (behind spend (tested tests l turn true))) x)
    next_kept n go (u, None) p = record { by = λ s g. go s g }
    next_kept n go (u, Some f) p = record { by = λ s g. (p, g) }

    rounds_kept : (n : ℕ) (s : State) → Pre s.store → KeptAt Pre Left (rounds (Over OutOfTurns) n (behind spend (tested tests l turn true)) tt s)
    rounds_kept zero s g = tt
    rounds_kept (suc n) s g = (then_kept {f = or_next (rounds (Over OutOfTurns) n (behind spend (tested tests l turn true)))} (then_kept {f = λ u. tested tests l turn true tt} spend_kept (λ u p. turn_kept)) (next_kept n (rounds_kept n))).by s g

    pub loop_kept : Kept Pre Pre Left (loop_of Real tests l turn true tt)
    loop_kept = record { by = λ s g. rounds_kept s.turns s g }
