use Rattle.std.proofs.Common.{◌≡◌, drop}
use Rattle.l2_ssa_points.specs.Places.{place}
use Rattle.l2_goals.specs.Kept.{behind}
use Rattle.l2_goals.proofs.filling.place.Given as goal

abbrev pub invariant-loop-i : goal.invariant-loop-i
invariant-loop-i l = place l.vars l.variable ≡ behind l.i (place (drop l.i l.vars) l.variable)
