-- Tests that go by other numbers, and the ends of runs under them.
use Rattle.std.specs.Prelude.{◌≡◌, ◌&&◌, ℕ, Bool, true, false, List, [], ◌∷◌}
use Rattle.l2_runs.specs.Store.{Store}
use Rattle.l2_runs.specs.Runs.{End, Over, Fallen}
use Rattle.l2_runs.specs.Loops.{Test}

abbrev pub renumbered_end : (ℕ → ℕ → ℕ) → End → End
renumbered_end number (Over o) = Over o
renumbered_end number (Fallen l row) = Fallen l (number l row)

-- The second tests are the first ones by these numbers, and others between them that always hold. Behind a test that never
-- holds nothing matters.
pub data AreRenumbered (number : ℕ → ℕ) : List Test → List Test → Type 0 where
  nothing : AreRenumbered number [] []
  same : {t u : Test} {ts us : List Test} → u.row ≡ number t.row → ((a b : Store) → u.holds a b ≡ t.holds a b) → AreRenumbered number ts us → AreRenumbered number (t ∷ ts) (u ∷ us)
  extra : {u : Test} {ts us : List Test} → ((a b : Store) → u.holds a b ≡ true) → AreRenumbered number ts us → AreRenumbered number ts (u ∷ us)
  never : {t u : Test} {ts us : List Test} → u.row ≡ number t.row → ((a b : Store) → t.holds a b ≡ false) → ((a b : Store) → u.holds a b ≡ false) → AreRenumbered number (t ∷ ts) (u ∷ us)

-- all tests hold of a turn from one store to another
abbrev pub all_hold : List Test → Store → Store → Bool
all_hold [] a b = true
all_hold (t ∷ ts) a b = t.holds a b && all_hold ts a b
