use Rattle.std.proofs.Common.{◌≡◌, ◌++◌, drop}
use Rattle.l2_labels.proofs.copies.objects.Given as goal

abbrev pub invariant-loop-item : goal.invariant-loop-item
invariant-loop-item l = l.all.items ++ drop l.item-index l.list ≡ l.list
