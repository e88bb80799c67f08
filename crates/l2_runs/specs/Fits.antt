-- Stores whose cells hold values of their types.
use Rattle.std.specs.Prelude.{ℕ, zero, suc, ◌<◌, ◌≤◌, List, [], ◌∷◌, length}
use Rattle.l2_bits.specs.Values.{IsValue}
use Rattle.l2_runs.specs.declared.cells.CellType.{CellType}
use Rattle.l2_runs.specs.declared.cells.CellType.TheVariants.{Integer, Pointer}
use Rattle.l2_runs.specs.declared.cells.CellValue.{CellValue}
use Rattle.l2_runs.specs.declared.cells.CellValue.TheVariants.{Number, Null, Invalid, At}
use Rattle.l2_runs.specs.Store.{Store, object_at}

-- the types of the cells of each object, by its number; where there is no such object there are no cells
abbrev pub Layout : Type 0
Layout = ℕ → List CellType

-- an integer cell holds a number of its type; a pointer cell holds Null, Invalid, or an object and an offset from 0 to its cell count
abbrev pub CellFits : Layout → CellType → CellValue → Type 0
CellFits layout (Integer ty) (Number z) = IsValue ty z
CellFits layout (Integer ty) Null = ⊥
CellFits layout (Integer ty) Invalid = ⊥
CellFits layout (Integer ty) (At o f) = ⊥
CellFits layout Pointer (Number z) = ⊥
CellFits layout Pointer Null = Unit {0}
CellFits layout Pointer Invalid = Unit {0}
CellFits layout Pointer (At o f) = (0 < length (layout o)) × (f ≤ length (layout o))

-- as many values as types, and each fits
abbrev pub CellsFit : Layout → List CellType → List CellValue → Type 0
CellsFit layout [] [] = Unit {0}
CellsFit layout [] (v ∷ vs) = ⊥
CellsFit layout (t ∷ types) [] = ⊥
CellsFit layout (t ∷ types) (v ∷ vs) = CellFits layout t v × CellsFit layout types vs

-- a value fits the cell at an offset, where there is one
abbrev pub FitsAt : Layout → List CellType → ℕ → CellValue → Type 0
FitsAt layout [] f v = Unit {0}
FitsAt layout (t ∷ types) zero v = CellFits layout t v
FitsAt layout (t ∷ types) (suc f) v = FitsAt layout types f v

-- each object has its cells, and each holds a value of its type
pub record StoreFits (layout : Layout) (store : Store) : Type 0 where
  pub cells : (n : ℕ) → CellsFit layout (layout n) (object_at store n).cells
