-- Rows at the ends of turns, and watches behind them.
use Rattle.std.specs.Prelude.{◌≡◌, ℕ, Bool, true, false, List, [], ◌∷◌, ◌++◌}
use Rattle.l2_runs.specs.declared.cells.CellValue.{CellValue}
use Rattle.l2_runs.specs.declared.member.Member.{Member}
use Rattle.l2_runs.specs.Store.{Store, object_at}
use Rattle.l2_runs.specs.Members.{targets, Within}
use Rattle.l2_runs.specs.Loops.{Test, Tests}

abbrev pub alone : (ℕ → List Test) → Tests
alone rows counted l = rows l

-- the rows, and behind them the watches of the ends that count
abbrev pub with_watches : (ℕ → List Test) → (ℕ → List Test) → Tests
with_watches rows watches true l = rows l ++ watches l
with_watches rows watches false l = rows l

-- the tests of a cut run, with its watches or without
abbrev pub cut_tests : Bool → (ℕ → List Test) → (ℕ → List Test) → Tests
cut_tests false rows watches = alone rows
cut_tests true rows watches = with_watches rows watches

abbrev pub no_rows : ℕ → List Test
no_rows l = []

-- all tests hold of a turn from one store to another
abbrev pub HoldAll : List Test → Store → Store → Type 0
HoldAll [] a b = Unit {0}
HoldAll (t ∷ ts) a b = (t.holds a b ≡ true) × HoldAll ts a b

-- ---- pointers

-- these cells point to members of a set alone
abbrev pub CellsIn : (Member → Bool) → List CellValue → Type 0
CellsIn set [] = Unit {0}
CellsIn set (v ∷ vs) = Within (targets v) set × CellsIn set vs

-- the cells of each object point to members of its set alone
pub record InSets (sets : ℕ → Member → Bool) (store : Store) : Type 0 where
  pub cells : (n : ℕ) → CellsIn (sets n) (object_at store n).cells
