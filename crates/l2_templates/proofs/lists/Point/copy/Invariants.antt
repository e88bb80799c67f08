use Rattle.std.proofs.Common.{◌≡◌, take}
use Rattle.l2_templates.proofs.lists.Point.copy.Given as goal

abbrev pub invariant-loop-i : goal.invariant-loop-i
invariant-loop-i l = l.all ≡ take l.i l.self
