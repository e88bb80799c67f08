use Rattle.std.proofs.Common.{◌≡◌, ◌++◌, ◌-◌, drop, length}
use Rattle.l2_ssa.specs.Walks.{merge_cells, merged_cells}
use Rattle.l2_walker.specs.Made.{state_of, extended}
use Rattle.l2_walk_turns.proofs.merges.merged_cells.Given as goal

abbrev pub invariant-loop-i : goal.invariant-loop-i
invariant-loop-i l =
    (l.cells.items ++ merged_cells (state_of l.walker).names (drop l.i l.types) (drop l.i l.brought) (drop l.i l.own) ≡ merged_cells (state_of l.fn.walker).names l.types l.brought l.own)
    × (extended (state_of l.walker) (merge_cells (state_of l.fn.walker).walk.path l.entry (drop l.i l.types) (drop l.i l.brought) (drop l.i l.own))
    ≡ extended (state_of l.fn.walker) (merge_cells (state_of l.fn.walker).walk.path l.entry l.types l.brought l.own))
    × ((state_of l.walker).walk ≡ (state_of l.fn.walker).walk)

abbrev pub decreases-loop-i : goal.decreases-loop-i
decreases-loop-i l = length l.types - l.i
