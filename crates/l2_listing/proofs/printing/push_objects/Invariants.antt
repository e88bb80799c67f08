use Rattle.std.proofs.Common.{◌≡◌, ◌+◌, ◌++◌, drop}
use Rattle.l2_listing.specs.Texts.{object_line, lines_from}
use Rattle.l2_listing.proofs.printing.push_objects.Given as goal

abbrev pub invariant-loop-i : goal.invariant-loop-i
invariant-loop-i l = l.out.items ++ lines_from object_line (l.i + 1) (drop l.i l.objects) ≡ l.initial.out.items ++ lines_from object_line 1 l.objects
