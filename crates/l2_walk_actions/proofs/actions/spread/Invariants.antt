use Rattle.std.proofs.Common.{◌≡◌, drop}
use Rattle.l2_ssa.specs.Walks.{write_steps}
use Rattle.l2_walker.specs.Made.{state_of, written}
use Rattle.l2_walk_actions.proofs.actions.spread.Given as goal

abbrev pub invariant-loop-place : goal.invariant-loop-place
invariant-loop-place l =
    (written (state_of l.walker) (write_steps l.pointer l.ty l.value (drop l.place-index l.places) (state_of l.walker).names (state_of l.walker).walk)
    ≡ written (state_of l.fn.walker) (write_steps l.pointer l.ty l.value l.places (state_of l.fn.walker).names (state_of l.fn.walker).walk))
    × (l.path ≡ (state_of l.walker).walk.path)
