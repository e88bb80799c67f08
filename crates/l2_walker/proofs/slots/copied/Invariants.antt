use Rattle.std.proofs.Common.{◌≡◌, ◌++◌, drop}
use Rattle.l2_walker.proofs.slots.copied.Given as goal

abbrev pub invariant-loop-slot : goal.invariant-loop-slot
invariant-loop-slot l = l.copy.items ++ drop l.slot-index l.slots ≡ l.slots
