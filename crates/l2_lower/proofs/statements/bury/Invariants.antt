use Rattle.std.proofs.Common.{◌≡◌, drop}
use Rattle.l2_lower.specs.Emitting.{part}
use Rattle.l2_lower.specs.Statements.{deads}
use Rattle.l2_lower.specs.Output.{output}
use Rattle.l2_lower.proofs.Outputs.{Leaves}
use Rattle.l2_lower.proofs.statements.bury.Given as goal

abbrev pub invariant-loop-o : goal.invariant-loop-o
invariant-loop-o l =
    Leaves (output l.initial.out.items l.initial.at) (part l.initial.at.next (deads l.initial.objects)) (output l.out.items l.at) (part l.initial.at.next (deads (drop l.o-index l.objects))) × (l.at.next ≡ l.initial.at.next)
