use Rattle.std.proofs.Common.{take}
use Rattle.l2_inclusions.specs.Inclusions.{IsClosed}
use Rattle.l2_inclusions.specs.Rows.{set_at}
use Rattle.l2_inclusions.specs.Closing.{AreParts}
use Rattle.l2_inclusions.proofs.closed.first_open.Given as goal

abbrev pub invariant-loop-i : goal.invariant-loop-i
invariant-loop-i l = record {
  pairs : AreParts l.rows l.pairs.items;
  closed : IsClosed (set_at l.rows) (take l.i l.inclusions);
}
