use Rattle.std.proofs.Common.{◌≡◌, ◌++◌}
use Rattle.l2_ssa.specs.Walks.{candidates}
use Rattle.l2_walker.specs.Made.{state_of, setting}
use Rattle.l2_walker.proofs.walker.Walker.candidates.Given as goal

abbrev pub invariant-loop-left : goal.invariant-loop-left
invariant-loop-left l =
    l.list.items ++ candidates (setting (state_of l.self)) ((setting (state_of l.self)).family.temp l.temp) l.ty l.object l.left
    ≡ candidates (setting (state_of l.self)) ((setting (state_of l.self)).family.temp l.temp) l.ty 1 l.initial.left

abbrev pub decreases-loop-left : goal.decreases-loop-left
decreases-loop-left l = l.left
