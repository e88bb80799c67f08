use Rattle.std.proofs.Common.{◌≡◌, []}
use Rattle.l2_types_unit.specs.Units.{numbers}
use Rattle.l2_types_unit.proofs.external.numbers.Given as goal

abbrev pub invariant-loop-left : goal.invariant-loop-left
invariant-loop-left l = numbers l.all.items l.number l.left ≡ numbers [] l.from l.count

abbrev pub decreases-loop-left : goal.decreases-loop-left
decreases-loop-left l = l.left
