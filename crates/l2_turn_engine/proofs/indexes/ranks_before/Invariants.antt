use Rattle.std.proofs.Common.{◌≡◌}
use Rattle.l2_turn_engine.specs.Lists.{ranks_before}
use Rattle.l2_turn_engine.proofs.indexes.ranks_before.Given as goal

abbrev pub invariant-loop-i : goal.invariant-loop-i
invariant-loop-i l = l.before ≡ ranks_before l.point l.i
