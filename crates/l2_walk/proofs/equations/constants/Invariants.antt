use Rattle.std.proofs.Common.{◌≡◌, ◌++◌, drop}
use Rattle.l2_ssa.specs.Law.{constants}
use Rattle.l2_walk.proofs.equations.constants.Given as goal

abbrev pub invariant-loop-value : goal.invariant-loop-value
invariant-loop-value l = l.list.items ++ constants (drop l.value-index l.values) ≡ constants l.values
