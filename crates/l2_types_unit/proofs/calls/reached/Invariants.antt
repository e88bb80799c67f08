use Rattle.std.proofs.Common.{◌≡◌, ◌∷◌, []}
use Rattle.l2_types_unit.specs.Calls.{reached}
use Rattle.l2_types_unit.proofs.calls.reached.Given as goal

abbrev pub invariant-loop-left : goal.invariant-loop-left
invariant-loop-left l = reached l.left l.calls l.functions.items ≡ reached l.times l.calls (l.function ∷ [])

abbrev pub decreases-loop-left : goal.decreases-loop-left
decreases-loop-left l = l.left
