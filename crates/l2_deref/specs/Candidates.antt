-- The cells at which a read or a write may act.
use Rattle.std.specs.Prelude.{ℕ, suc, ◌==◌, Bool, false, ◌||◌, ◌&&◌, if◌then◌else◌, List, [], ◌∷◌, ◌++◌, Option, Some, None}
use Rattle.l2_runs.specs.declared.cells.CellType.{CellType}
use Rattle.l2_runs.specs.declared.member.Member.{Member}
use Rattle.l2_runs.specs.declared.member.Member.TheVariants.{Null, Invalid, Object}
use Rattle.l2_runs.specs.Fits.{Layout}
use Rattle.l2_runs.specs.Store.{Address}
use Rattle.l2_code.specs.declared.action.Operand.{Operand}
use Rattle.l2_code.specs.declared.action.Operand.TheVariants.{Constant, Temp}
use Rattle.l2_code.specs.declared.sets.Sets.{Sets}
use Rattle.l2_code.specs.Values.{same_type, cell_of}
use Rattle.l2_code.specs.Sets.{listed}
use Rattle.l2_deref.specs.declared.candidate.Candidate.{Candidate}

-- the cells of a type in an object, the types of whose cells from this offset on are these
abbrev pub cells_from : CellType → ℕ → ℕ → List CellType → List Candidate
cells_from ty o f [] = []
cells_from ty o f (t ∷ types) = (if same_type ty t then record { object = o; offset = f } ∷ [] else []) ++ cells_from ty o (suc f) types

-- the cells of a type in the objects among these members
abbrev pub cells_of : Layout → CellType → List Member → List Candidate
cells_of cells ty [] = []
cells_of cells ty (Null ∷ rest) = cells_of cells ty rest
cells_of cells ty (Invalid ∷ rest) = cells_of cells ty rest
cells_of cells ty (Object o ∷ rest) = cells_from ty o 0 (cells o) ++ cells_of cells ty rest

abbrev pub single : Option Address → List Candidate
single None = []
single (Some a) = record { object = a.object; offset = a.offset } ∷ []

-- the cells of a type at which a pointer may point, in the order of its set
abbrev pub candidates : Layout → Sets → CellType → Operand → List Candidate
candidates cells s ty (Constant v) = single (cell_of cells ty v)
candidates cells s ty (Temp t) = cells_of cells ty (listed s s.temps t)

-- an address is among candidates
abbrev pub is_among : List Candidate → Address → Bool
is_among [] a = false
is_among (x ∷ rest) a = (x.object == a.object && x.offset == a.offset) || is_among rest a
