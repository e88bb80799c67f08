use Rattle.std.proofs.Common.{◌≡◌, drop}
use Rattle.l2_ssa.specs.Walks.{scatter_cells}
use Rattle.l2_walker.specs.Made.{state_of, setting, moved}
use Rattle.l2_walk_turns.proofs.heads.scatter_cells.Given as goal

abbrev pub invariant-loop-ty : goal.invariant-loop-ty
invariant-loop-ty l =
    moved (state_of l.walker) (scatter_cells (setting (state_of l.walker)) l.path l.back l.object l.offset (drop l.ty-index l.types) (state_of l.walker).names (state_of l.walker).walk)
    ≡ moved (state_of l.fn.walker) (scatter_cells (setting (state_of l.fn.walker)) l.path l.back l.object 0 l.types (state_of l.fn.walker).names (state_of l.fn.walker).walk)
