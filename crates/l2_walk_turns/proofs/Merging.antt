-- Objects at a label, part by part.
use Rattle.std.proofs.Common.{◌≡◌, ℕ, suc, Bool, true, false, refl, List, [], ◌∷◌}
use Rattle.l2_runs.specs.declared.cells.CellType.{CellType}
use Rattle.l2_code.specs.declared.action.Operand.{Operand}
use Rattle.l2_ssa.specs.Walks.{Setting, Slot, same_operand, merged, merge_step, next_merge, merged_cells, merge_cells, merged_slots, past}
use Rattle.l2_walk_turns.specs.Labels.{cells_merged, flags_merged, zipped}

-- the next name behind what may be a choice
pub next_is : (b : Bool) (n : ℕ) (g h : Operand) (t : CellType) (x y : Operand) → past n (merge_step b g h t x y) ≡ next_merge b n
next_is true n g h t x y = refl
next_is false n g h t x y = refl

pub slots_are : (g : Setting) (p h : Operand) (n m o : ℕ) (xs ys : List Slot) → zipped (cells_merged g p h n o xs ys) (flags_merged m xs ys) ≡ merged_slots g p h n m o xs ys
slots_are g p h n m o [] ys = refl
slots_are g p h n m o (x ∷ xs) [] = refl
slots_are g p h n m o (x ∷ xs) (y ∷ ys) =
    λ i. record { cells = merged_cells n (g.types.objects o) x.cells y.cells; live = merged (same_operand x.live y.live) m x.live }
    ∷ slots_are g p h (past n (merge_cells p h (g.types.objects o) x.cells y.cells)) (next_merge (same_operand x.live y.live) m) (suc o) xs ys i

pub none_zipped : (cs : List (List Operand)) → zipped cs [] ≡ []
none_zipped [] = refl
none_zipped (c ∷ cs) = refl
