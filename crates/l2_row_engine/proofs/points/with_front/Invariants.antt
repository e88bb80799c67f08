use Rattle.std.proofs.Common.{◌≡◌, suc, take}
use Rattle.l2_front_laws.specs.Front.{with_front}
use Rattle.l2_row_engine.proofs.points.with_front.Given as goal

abbrev pub invariant-loop-i : goal.invariant-loop-i
invariant-loop-i l = l.all ≡ take l.i (with_front l.point (suc l.l) l.row)
