use Rattle.std.proofs.Common.{◌≡◌, ◌++◌, drop}
use Rattle.l2_walk_turns.specs.Labels.{zipped}
use Rattle.l2_walk_turns.proofs.merges.zipped.Given as goal

abbrev pub invariant-loop-list : goal.invariant-loop-list
invariant-loop-list l = l.slots.items ++ zipped l.list-iterator.rest.items (drop l.index l.flags) ≡ zipped l.fn.cells.items l.flags
