use Rattle.std.proofs.Common.{◌≡◌, ◌++◌, drop, map}
use Rattle.l2_goals.specs.Kept.{kept_kind, kept_kinds}
use Rattle.l2_row_engine.proofs.points.kinds.Given as goal

abbrev pub invariant-loop-i : goal.invariant-loop-i
invariant-loop-i l = l.kinds.items ++ map kept_kind (drop l.i l.point) ≡ kept_kinds l.point
