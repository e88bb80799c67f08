-- What labels make of objects, part by part.
use Rattle.std.specs.Prelude.{ℕ, suc, List, [], ◌∷◌, ◌++◌}
use Rattle.l2_code.specs.declared.action.Operand.{Operand}
use Rattle.l2_ssa.specs.Walks.{Setting, Slot, Entry, same_operand, merged, next_merge, merged_cells, merge_cells, merge_if, merge_all, outer_if, outer, past}
use Rattle.l2_walker.specs.Made.{State, setting, written}

-- the cells of the objects from a number on
abbrev pub cells_merged : Setting → Operand → Operand → ℕ → ℕ → List Slot → List Slot → List (List Operand)
cells_merged g p h n o [] ys = []
cells_merged g p h n o (x ∷ xs) [] = []
cells_merged g p h n o (x ∷ xs) (y ∷ ys) =
    merged_cells n (g.types.objects o) x.cells y.cells ∷ cells_merged g p h (past n (merge_cells p h (g.types.objects o) x.cells y.cells)) (suc o) xs ys

abbrev pub flags_merged : ℕ → List Slot → List Slot → List Operand
flags_merged m [] ys = []
flags_merged m (x ∷ xs) [] = []
flags_merged m (x ∷ xs) (y ∷ ys) = merged (same_operand x.live y.live) m x.live ∷ flags_merged (next_merge (same_operand x.live y.live) m) xs ys

-- objects of these cells and flags
abbrev pub zipped : List (List Operand) → List Operand → List Slot
zipped [] fs = []
zipped (c ∷ cs) [] = []
zipped (c ∷ cs) (f ∷ fs) = record { cells = c; live = f } ∷ zipped cs fs

-- behind a label at which these entries arrive
abbrev pub landed : State → List Entry → State
landed s es = record (written s (merge_all (setting s) es s.names s.walk)) { entries = λ rest. s.entries (outer es ++ rest) }

-- behind the arrival of one, that is so many blocks away
abbrev pub arrived_by : State → ℕ → Entry → State
arrived_by s d e = record (written s (merge_if (setting s) d e s.names s.walk)) { entries = λ rest. s.entries (outer_if d e rest) }

abbrev pub arrived : State → Entry → State
arrived s e = arrived_by s e.depth e
