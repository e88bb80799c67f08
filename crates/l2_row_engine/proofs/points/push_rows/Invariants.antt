use Rattle.std.proofs.Common.{◌≡◌, ◌++◌, take}
use Rattle.l2_row_engine.proofs.points.push_rows.Given as goal

abbrev pub invariant-loop-row : goal.invariant-loop-row
invariant-loop-row l = l.list ≡ l.fn.list ++ take l.row-index l.rows
