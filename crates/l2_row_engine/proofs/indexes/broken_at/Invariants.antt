use Rattle.std.proofs.Common.{◌≡◌, ◌+◌, drop}
use Rattle.std.specs.Prelude.{slice_get}
use Rattle.l2_ssa_points.specs.Goals.{row_goals}
use Rattle.l2_row_engine.proofs.indexes.broken_at.Given as goal

abbrev pub invariant-loop-l : goal.invariant-loop-l
invariant-loop-l l = slice_get (row_goals (l.l + 1) (drop l.l l.point)) l.left ≡ slice_get (row_goals 1 l.point) l.i
