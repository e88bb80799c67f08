use Rattle.std.proofs.Common.{◌≡◌, drop}
use Rattle.l2_ssa.specs.Walks.{read_steps}
use Rattle.l2_walker.specs.Made.{state_of, extended}
use Rattle.l2_walk_actions.proofs.actions.picked.Given as goal

abbrev pub invariant-loop-place : goal.invariant-loop-place
invariant-loop-place l =
    ((read_steps (state_of l.fn.walker).walk l.pointer l.ty (drop l.place-index l.places) l.value (state_of l.walker).names).value
    ≡ (read_steps (state_of l.fn.walker).walk l.pointer l.ty l.places l.fn.first (state_of l.fn.walker).names).value)
    × (extended (state_of l.walker) (read_steps (state_of l.fn.walker).walk l.pointer l.ty (drop l.place-index l.places) l.value (state_of l.walker).names).steps
    ≡ extended (state_of l.fn.walker) (read_steps (state_of l.fn.walker).walk l.pointer l.ty l.places l.fn.first (state_of l.fn.walker).names).steps)
    × ((state_of l.walker).walk ≡ (state_of l.fn.walker).walk)
    × (l.path ≡ (state_of l.fn.walker).walk.path)
