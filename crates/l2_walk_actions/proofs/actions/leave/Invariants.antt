use Rattle.std.proofs.Common.{◌≡◌, length}
use Rattle.l2_ssa.specs.Walks.{leave_path, leave_steps}
use Rattle.l2_walker.specs.Made.{state_of, extended, frames_of}
use Rattle.l2_walk_actions.proofs.actions.leave.Given as goal

abbrev pub invariant-loop-frame : goal.invariant-loop-frame
invariant-loop-frame l =
    (leave_path (frames_of l.frames.items) l.left l.path (state_of l.walker).names ≡ leave_path (state_of l.fn.walker).frames l.fn.blocks l.fn.path (state_of l.fn.walker).names)
    × (extended (state_of l.walker) (leave_steps (frames_of l.frames.items) l.left l.path (state_of l.walker).names)
    ≡ extended (state_of l.fn.walker) (leave_steps (state_of l.fn.walker).frames l.fn.blocks l.fn.path (state_of l.fn.walker).names))

abbrev pub decreases-loop-frame : goal.decreases-loop-frame
decreases-loop-frame l = length l.frames.items
