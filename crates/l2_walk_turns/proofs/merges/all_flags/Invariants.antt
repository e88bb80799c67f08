use Rattle.std.proofs.Common.{◌≡◌, ◌++◌, ◌-◌, drop, length}
use Rattle.l2_ssa.specs.Walks.{merge_flags}
use Rattle.l2_walk_turns.specs.Labels.{flags_merged}
use Rattle.l2_walker.specs.Made.{state_of, extended}
use Rattle.l2_walk_turns.proofs.merges.all_flags.Given as goal

abbrev pub invariant-loop-i : goal.invariant-loop-i
invariant-loop-i l =
    (l.flags.items ++ flags_merged (state_of l.walker).names (drop l.i l.brought) (drop l.i l.own) ≡ flags_merged (state_of l.fn.walker).names l.brought l.own)
    × (extended (state_of l.walker) (merge_flags (state_of l.fn.walker).walk.path l.entry (drop l.i l.brought) (drop l.i l.own))
    ≡ extended (state_of l.fn.walker) (merge_flags (state_of l.fn.walker).walk.path l.entry l.brought l.own))
    × ((state_of l.walker).walk ≡ (state_of l.fn.walker).walk)

abbrev pub decreases-loop-i : goal.decreases-loop-i
decreases-loop-i l = length l.brought - l.i
