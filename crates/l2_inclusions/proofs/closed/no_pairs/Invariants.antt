use Rattle.l2_inclusions.specs.Rows.{RowsValue}
use Rattle.l2_inclusions.specs.Closing.{AreParts}
use Rattle.l2_inclusions.proofs.closed.no_pairs.Given as goal

abbrev pub invariant-loop : goal.invariant-loop
invariant-loop l = (r : RowsValue) → AreParts r l.pairs.items
