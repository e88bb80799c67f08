use Rattle.std.proofs.Common.{◌≡◌, ◌++◌, drop}
use Rattle.l2_ssa.specs.Walks.{vars_now}
use Rattle.l2_walker.proofs.loops.vars_now.Given as goal

abbrev pub invariant-loop-object : goal.invariant-loop-object
invariant-loop-object l = l.values.items ++ vars_now l.slots (drop l.object-index l.vars) ≡ vars_now l.slots l.vars
