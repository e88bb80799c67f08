use Rattle.std.proofs.Common.{◌≡◌, ◌++◌, drop, map}
use Rattle.l2_goals.specs.Numbers.{row_count, row_counts}
use Rattle.l2_goals.proofs.numbering.row_counts.Given as goal

abbrev pub invariant-loop-i : goal.invariant-loop-i
invariant-loop-i l = l.counts.items ++ map row_count (drop l.i l.point) ≡ row_counts l.point
