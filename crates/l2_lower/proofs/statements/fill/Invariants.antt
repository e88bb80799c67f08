use Rattle.std.proofs.Common.{drop}
use Rattle.l2_lower.specs.Statements.{filled}
use Rattle.l2_lower.specs.Output.{output}
use Rattle.l2_lower.proofs.Outputs.{Leaves}
use Rattle.l2_lower.proofs.statements.fill.Given as goal

abbrev pub invariant-loop-i : goal.invariant-loop-i
invariant-loop-i l =
    Leaves (output l.initial.out.items l.initial.at) (filled l.initial.at.next l.initial.o 0 l.initial.types) (output l.out.items l.at) (filled l.at.next l.o l.i (drop l.i l.types))
