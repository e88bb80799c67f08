use Rattle.std.specs.Prelude.{◌≡◌, length}
use Rattle.l2_refute.proofs.All.{Before}
use Rattle.l2_refute.proofs.refuting.refute_goals.Given as goal

abbrev pub invariant-loop-i : goal.invariant-loop-i
invariant-loop-i l = (length l.all.items ≡ l.i) × Before l.variables l.base l.last l.all.items l.i
