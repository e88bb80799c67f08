use Rattle.std.proofs.Common.{◌≡◌}
use Rattle.l2_row_engine.specs.Indexes.{goals_before}
use Rattle.l2_row_engine.proofs.indexes.goals_before.Given as goal

abbrev pub invariant-loop-i : goal.invariant-loop-i
invariant-loop-i l = l.before ≡ goals_before l.point l.i
