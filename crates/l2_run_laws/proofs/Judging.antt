-- Tests at the end of a turn: they all hold, or one is the first to fail.
use Rattle.std.proofs.Common.{◌≡◌, ℕ, ℤ, Bool, true, false, List, [], ◌∷◌, ◌++◌, ◌⊎◌, inl, inr, refl, ap, ◌∙◌}
use Rattle.l2_runs.specs.Store.{Store}
use Rattle.l2_runs.specs.Runs.{State, Fallen, Go, Halt, on_go, demand}
use Rattle.l2_runs.specs.Loops.{Test, events}
use Rattle.l2_run_laws.specs.Watches.{HoldAll}
use Rattle.l2_run_laws.proofs.CutRuns.{at}

module _ (l : ℕ) (a b : Store) where
  -- the first that fails
  pub record FailsAt (ts : List Test) : Type 0 where
    pub row : ℕ
    pub alone : (cs : List ℤ) (s : State) → events true l ts a (at b cs s) ≡ Halt (Fallen l row) (at b cs s)
    pub before : (more : List Test) (cs : List ℤ) (s : State) → events true l (ts ++ more) a (at b cs s) ≡ Halt (Fallen l row) (at b cs s)

  pub hold_alone : (counted : Bool) (ts : List Test) → HoldAll ts a b → (cs : List ℤ) (s : State) → events counted l ts a (at b cs s) ≡ Go tt (at b cs s)
  hold_alone counted [] h cs s = refl
  hold_alone counted (t ∷ ts) h cs s = ap (λ ok. on_go (demand counted (Fallen l t.row) ok (at b cs s)) (λ u. events counted l ts a)) h.0 ∙ hold_alone counted ts h.1 cs s

  pub hold_before : (counted : Bool) (ts more : List Test) → HoldAll ts a b → (cs : List ℤ) (s : State) → events counted l (ts ++ more) a (at b cs s) ≡ events counted l more a (at b cs s)
  hold_before counted [] more h cs s = refl
  hold_before counted (t ∷ ts) more h cs s = ap (λ ok. on_go (demand counted (Fallen l t.row) ok (at b cs s)) (λ u. events counted l (ts ++ more) a)) h.0 ∙ hold_before counted ts more h.1 cs s

  pub judge : (ts : List Test) → HoldAll ts a b ⊎ FailsAt ts
  judge [] = inl tt
  judge (t ∷ ts) = one (t.holds a b) refl (judge ts)
    where
      one : (ok : Bool) → t.holds a b ≡ ok → HoldAll ts a b ⊎ FailsAt ts → HoldAll (t ∷ ts) a b ⊎ FailsAt (t ∷ ts)
      one false e r = inr (record {
        row = t.row;
        alone = λ cs s. ap (λ ok. on_go (demand true (Fallen l t.row) ok (at b cs s)) (λ u. events true l ts a)) e;
        before = λ more cs s. ap (λ ok. on_go (demand true (Fallen l t.row) ok (at b cs s)) (λ u. events true l (ts ++ more) a)) e;
      })
      one true e (inl h) = inl (e, h)
      one true e (inr f) = inr (record {
        row = f.row;
        alone = λ cs s. ap (λ ok. on_go (demand true (Fallen l t.row) ok (at b cs s)) (λ u. events true l ts a)) e ∙ f.alone cs s;
        before = λ more cs s. ap (λ ok. on_go (demand true (Fallen l t.row) ok (at b cs s)) (λ u. events true l (ts ++ more) a)) e ∙ f.before more cs s;
      })
