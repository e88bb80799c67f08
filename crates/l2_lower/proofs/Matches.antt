-- Two runs that do the same step by step, where each hands on values of its own.
use Rattle.std.proofs.Common.{◌≡◌, ℕ, ℤ, Bool, true, false, List, [], ◌∷◌, refl, subst}
use Rattle.l2_runs.specs.declared.cells.CellValue.{CellValue}
use Rattle.l2_runs.specs.declared.outcome.Outcome.TheVariants.{Ended, Stopped, Broken, OutOfChoices, OutOfTurns}
use Rattle.l2_runs.specs.Store.{Address}
use Rattle.l2_runs.specs.Fits.{Layout, FitsAt, StoreFits}
use Rattle.l2_runs.specs.Runs.{State, End, Over, Fallen, Result, Go, Halt, Run, on_go, and_then, done, over, either, take_choice, choose, write, enliven, bury, demand}
use Rattle.l2_runs.proofs.Stores.{fits_live, fits_cell}
use Rattle.l2_lower.specs.Alike.{AreAlike}

pub same_alike : (e : End) (s : State) → AreAlike e s s
same_alike (Over Ended) s = record { choices = refl; turns = refl; arrivals = refl }
same_alike (Over Stopped) s = refl
same_alike (Over (Broken c)) s = refl
same_alike (Over OutOfChoices) s = refl
same_alike (Over OutOfTurns) s = refl
same_alike (Fallen l row) s = refl

abbrev pub AnyTwo : Unit {0} → Unit {0} → Type 0
AnyTwo a b = Unit {0}

module _ (layout : Layout) (Fine : End → Type 0) where
  -- where two runs have come to: values that stand for the same, and the same state, whose cells hold values of their types; or alike to an end that is fine
  abbrev pub Match : {A B : Type 0} → (A → B → Type 0) → Result A → Result B → Type 0
  Match Same (Go a s) (Go b t) = Same a b × (s ≡ t) × StoreFits layout s.store
  Match Same (Go a s) (Halt f t) = ⊥
  Match Same (Halt e s) (Go b t) = ⊥
  Match Same (Halt e s) (Halt f t) = (e ≡ f) × AreAlike e s t × Fine e

  pub record Matches {A B : Type 0} (Same : A → B → Type 0) (r : Run A) (q : Run B) : Type 0 where
    pub by : (s : State) → StoreFits layout s.store → Match Same (r s) (q s)

  pub then_match : {A B A' B' : Type 0} {S : A → B → Type 0} {T : A' → B' → Type 0} (x : Result A) (y : Result B) (f : A → Run A') (g : B → Run B') → Match S x y → ((a : A) (b : B) → S a b → Matches T (f a) (g b)) → Match T (on_go x f) (on_go y g)
  then_match {T = T} (Go a s) (Go b t) f g (p, e, k) next = subst (λ z. Match T (f a s) (g b z)) e ((next a b p).by s k)
  then_match (Go a s) (Halt e t) f g h next = absurd h
  then_match (Halt e s) (Go b t) f g h next = absurd h
  then_match (Halt e s) (Halt d t) f g h next = h

  pub then_matches : {A B A' B' : Type 0} {S : A → B → Type 0} {T : A' → B' → Type 0} {r : Run A} {q : Run B} {f : A → Run A'} {g : B → Run B'} → Matches S r q → ((a : A) (b : B) → S a b → Matches T (f a) (g b)) → Matches T (and_then r f) (and_then q g)
  then_matches {r = r} {q = q} {f = f} {g = g} h next = record { by = λ s k. then_match (r s) (q s) f g (h.by s k) next }

  pub weaker_match : {A B : Type 0} {S T : A → B → Type 0} (x : Result A) (y : Result B) → Match S x y → ((a : A) (b : B) → S a b → T a b) → Match T x y
  weaker_match (Go a s) (Go b t) (p, e, k) next = (next a b p, e, k)
  weaker_match (Go a s) (Halt e t) h next = absurd h
  weaker_match (Halt e s) (Go b t) h next = absurd h
  weaker_match (Halt e s) (Halt d t) h next = h

  pub weaker_matches : {A B : Type 0} {S T : A → B → Type 0} {r : Run A} {q : Run B} → Matches S r q → ((a : A) (b : B) → S a b → T a b) → Matches T r q
  weaker_matches {r = r} {q = q} h next = record { by = λ s k. weaker_match (r s) (q s) (h.by s k) next }

  pub done_matches : {A B : Type 0} {S : A → B → Type 0} (a : A) (b : B) → S a b → Matches S (done a) (done b)
  done_matches a b p = record { by = λ s k. (p, refl, k) }

  pub over_matches : {A B : Type 0} {S : A → B → Type 0} (e : End) → Fine e → Matches S (over {A = A} e) (over {A = B} e)
  over_matches e p = record { by = λ s k. (refl, same_alike e s, p) }

  pub either_matches : {A B : Type 0} {S : A → B → Type 0} (b : Bool) {r r' : Run A} {q q' : Run B} → Matches S r q → Matches S r' q' → Matches S (either b r r') (either b q q')
  either_matches true h k = record { by = λ s f. h.by s f }
  either_matches false h k = record { by = λ s f. k.by s f }

  -- what is handed on is told in other terms
  pub told_match : {A A' B : Type 0} {S : A → B → Type 0} (T : A' → B → Type 0) (x : Result A) (y : Result B) (h : A → A') → Match S x y → ((a : A) (b : B) → S a b → T (h a) b) → Match T (on_go x (λ a. done (h a))) y
  told_match T (Go a s) (Go b t) h (p, e, k) next = (next a b p, e, k)
  told_match T (Go a s) (Halt e t) h m next = absurd m
  told_match T (Halt e s) (Go b t) h m next = absurd m
  told_match T (Halt e s) (Halt d t) h m next = m

  pub told_matches : {A A' B : Type 0} {S : A → B → Type 0} {T : A' → B → Type 0} {r : Run A} {q : Run B} (h : A → A') → Matches S r q → ((a : A) (b : B) → S a b → T (h a) b) → Matches T (and_then r (λ a. done (h a))) q
  told_matches {T = T} {r = r} {q = q} h m next = record { by = λ s k. told_match T (r s) (q s) h (m.by s k) next }

  -- one side goes on, where the other has come to its end
  pub alone_match : {A B B' : Type 0} {S : A → B → Type 0} {T : A → B' → Type 0} (x : Result A) (y : Result B) (g : B → Run B') → Match S x y → ((a : A) (b : B) → S a b → Matches T (done a) (g b)) → Match T x (on_go y g)
  alone_match {T = T} (Go a s) (Go b t) g (p, e, k) next = subst (λ z. Match T (Go a s) (g b z)) e ((next a b p).by s k)
  alone_match (Go a s) (Halt e t) g m next = absurd m
  alone_match (Halt e s) (Go b t) g m next = absurd m
  alone_match (Halt e s) (Halt d t) g m next = m

  pub alone_matches : {A B B' : Type 0} {S : A → B → Type 0} {T : A → B' → Type 0} {r : Run A} {q : Run B} {g : B → Run B'} → Matches S r q → ((a : A) (b : B) → S a b → Matches T (done a) (g b)) → Matches T r (and_then q g)
  alone_matches {r = r} {q = q} {g = g} m next = record { by = λ s k. alone_match (r s) (q s) g (m.by s k) next }

  -- ---- what both sides do

  pub demand_match : (y : Bool) (e : End) (ok : Bool) → Fine e → Fine (Over Stopped) → (s : State) → StoreFits layout s.store → Match AnyTwo (demand y e ok s) (demand y e ok s)
  demand_match y e true p q s k = (tt, refl, k)
  demand_match true e false p q s k = (refl, same_alike e s, p)
  demand_match false e false p q s k = (refl, refl, q)

  pub choose_matches : Fine (Over OutOfChoices) → Matches (λ y z. y ≡ z) choose choose
  choose_matches p = record { by = λ s k. at s.choices s k } where
    at : (cs : List ℤ) (s : State) → StoreFits layout s.store → Match (λ y z. y ≡ z) (take_choice cs s) (take_choice cs s)
    at [] s k = (refl, refl, p)
    at (c ∷ cs) s k = (refl, refl, k)

  pub write_matches : (a : Address) (v : CellValue) → FitsAt layout (layout a.object) a.offset v → Matches AnyTwo (write a v) (write a v)
  write_matches a v h = record { by = λ s k. (tt, refl, fits_cell layout s.store a v k h) }

  pub enliven_matches : (n : ℕ) → Matches AnyTwo (enliven n) (enliven n)
  enliven_matches n = record { by = λ s k. (tt, refl, fits_live layout s.store n true k) }

  pub bury_matches : (n : ℕ) → Matches AnyTwo (bury n) (bury n)
  bury_matches n = record { by = λ s k. (tt, refl, fits_live layout s.store n false k) }
