use Rattle.std.proofs.Common.{◌≡◌}
use Rattle.l2_walk_turns.specs.Labels.{landed}
use Rattle.l2_walker.specs.Made.{state_of}
use Rattle.l2_walk_turns.proofs.merges.label.Given as goal

abbrev pub invariant-loop-entry : goal.invariant-loop-entry
invariant-loop-entry l = landed (state_of l.walker) l.entry-iterator.rest.items ≡ landed (state_of l.fn.walker) l.fn.entries.items
