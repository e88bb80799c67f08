use Rattle.std.proofs.Common.{◌≡◌, ◌++◌, ◌-◌, drop, length}
use Rattle.l2_ssa.specs.Walks.{merge_slots}
use Rattle.l2_walk_turns.specs.Labels.{cells_merged}
use Rattle.l2_walker.specs.Made.{state_of, setting, extended}
use Rattle.l2_walk_turns.proofs.merges.all_cells.Given as goal

abbrev pub invariant-loop-i : goal.invariant-loop-i
invariant-loop-i l =
    (l.all.items ++ cells_merged (setting (state_of l.fn.walker)) (state_of l.fn.walker).walk.path l.entry (state_of l.walker).names l.object (drop l.i l.brought) (drop l.i l.own)
    ≡ cells_merged (setting (state_of l.fn.walker)) (state_of l.fn.walker).walk.path l.entry (state_of l.fn.walker).names 1 l.brought l.own)
    × (extended (state_of l.walker) (merge_slots (setting (state_of l.fn.walker)) (state_of l.fn.walker).walk.path l.entry l.object (drop l.i l.brought) (drop l.i l.own))
    ≡ extended (state_of l.fn.walker) (merge_slots (setting (state_of l.fn.walker)) (state_of l.fn.walker).walk.path l.entry 1 l.brought l.own))
    × ((state_of l.walker).walk ≡ (state_of l.fn.walker).walk)
    × (setting (state_of l.walker) ≡ setting (state_of l.fn.walker))

abbrev pub decreases-loop-i : goal.decreases-loop-i
decreases-loop-i l = length l.brought - l.i
