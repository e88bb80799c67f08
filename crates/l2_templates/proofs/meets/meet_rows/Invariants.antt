use Rattle.std.proofs.Common.{◌≡◌, ◌-◌, ◌++◌, drop, length}
use Rattle.l2_templates.specs.Points.{meet_rows}
use Rattle.l2_templates.proofs.meets.meet_rows.Given as goal

abbrev pub invariant-loop-i : goal.invariant-loop-i
invariant-loop-i l = meet_rows l.a l.b ≡ l.all ++ meet_rows (drop l.i l.a) (drop l.i l.b)

abbrev pub decreases-loop-i : goal.decreases-loop-i
decreases-loop-i l = length l.a - l.i
