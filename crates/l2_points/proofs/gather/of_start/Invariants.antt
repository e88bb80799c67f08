use Rattle.std.proofs.Common.{◌≡◌, ◌++◌, drop}
use Rattle.l2_points.specs.Gathering.{of_start}
use Rattle.l2_points.proofs.gather.of_start.Given as goal

abbrev pub invariant-loop-value : goal.invariant-loop-value
invariant-loop-value l = l.list.items ++ of_start l.object (drop l.value-index l.start) ≡ l.initial.list.items ++ of_start l.object l.start
