use Rattle.std.proofs.Common.{◌≡◌, ◌++◌}
use Rattle.l2_code.specs.Sets.{may_be}
use Rattle.l2_ssa.specs.Walks.{flags_of}
use Rattle.l2_ssa.specs.Views as views
use Rattle.l2_walker.specs.Made.{state_of, setting}
use Rattle.l2_walker.proofs.walker.Walker.flags.Given as goal

abbrev pub invariant-loop-left : goal.invariant-loop-left
invariant-loop-left l =
    views.flags_of l.list.items ++ flags_of (may_be (setting (state_of l.self)).family l.pointer) (state_of l.self).walk.slots l.object l.left
    ≡ flags_of (may_be (setting (state_of l.self)).family l.pointer) (state_of l.self).walk.slots 1 l.initial.left

abbrev pub decreases-loop-left : goal.decreases-loop-left
decreases-loop-left l = l.left
