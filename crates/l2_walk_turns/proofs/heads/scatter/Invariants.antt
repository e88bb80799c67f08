use Rattle.std.proofs.Common.{◌≡◌, drop}
use Rattle.l2_ssa.specs.Walks.{scatter}
use Rattle.l2_walker.specs.Made.{state_of, setting, moved}
use Rattle.l2_walk_turns.proofs.heads.scatter.Given as goal

abbrev pub invariant-loop-object : goal.invariant-loop-object
invariant-loop-object l =
    moved (state_of l.walker) (scatter (setting (state_of l.walker)) l.path l.back (drop l.object-index l.mods) (state_of l.walker).names (state_of l.walker).walk)
    ≡ moved (state_of l.fn.walker) (scatter (setting (state_of l.fn.walker)) l.path l.back l.mods (state_of l.fn.walker).names (state_of l.fn.walker).walk)
