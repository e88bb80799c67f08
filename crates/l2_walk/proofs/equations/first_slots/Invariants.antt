use Rattle.std.proofs.Common.{◌≡◌, ◌++◌, drop}
use Rattle.l2_ssa.specs.Law.{first_slots}
use Rattle.l2_walk.proofs.equations.first_slots.Given as goal

abbrev pub invariant-loop-object : goal.invariant-loop-object
invariant-loop-object l = l.slots.items ++ first_slots (drop l.object-index l.objects) ≡ first_slots l.objects
