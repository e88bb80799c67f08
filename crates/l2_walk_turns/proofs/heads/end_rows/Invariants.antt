use Rattle.std.proofs.Common.{◌≡◌}
use Rattle.l2_ssa.specs.Walks.{end_rows}
use Rattle.l2_walker.specs.Made.{state_of, setting, put}
use Rattle.l2_walk_turns.proofs.heads.end_rows.Given as goal

abbrev pub invariant-loop-left : goal.invariant-loop-left
invariant-loop-left l =
    put (state_of l.walker) (end_rows (setting (state_of l.walker)) l.path l.counting l.l l.row l.left (state_of l.walker).names (state_of l.walker).walk)
    ≡ put (state_of l.fn.walker) (end_rows (setting (state_of l.fn.walker)) l.path l.counting l.l 1 l.rows (state_of l.fn.walker).names (state_of l.fn.walker).walk)

abbrev pub decreases-loop-left : goal.decreases-loop-left
decreases-loop-left l = l.left
