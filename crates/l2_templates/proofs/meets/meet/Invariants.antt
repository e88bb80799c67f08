use Rattle.std.proofs.Common.{◌≡◌, ◌++◌, drop}
use Rattle.l2_templates.specs.Points.{meet}
use Rattle.l2_templates.proofs.meets.meet.Given as goal

abbrev pub invariant-loop-i : goal.invariant-loop-i
invariant-loop-i l = meet l.a l.b ≡ l.all ++ meet (drop l.i l.a) (drop l.i l.b)
