use Rattle.std.proofs.Common.{◌≡◌, ◌++◌, suc, drop}
use Rattle.l2_points.specs.Gathering.{of_objects}
use Rattle.l2_points.proofs.gather.of_objects.Given as goal

abbrev pub invariant-loop-object : goal.invariant-loop-object
invariant-loop-object l = l.list.items ++ of_objects (suc l.number) (drop l.object-index l.objects) ≡ l.initial.list.items ++ of_objects 1 l.objects
