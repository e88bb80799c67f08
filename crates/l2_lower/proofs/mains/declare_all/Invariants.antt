use Rattle.std.proofs.Common.{drop}
use Rattle.l2_program.specs.Programs.{program_tree}
use Rattle.l2_meaning.specs.Execution.{cells_of}
use Rattle.l2_lower.specs.Code.{declarations}
use Rattle.l2_lower.specs.Output.{output}
use Rattle.l2_lower.proofs.Lists.{Declares}
use Rattle.l2_lower.proofs.mains.declare_all.Given as goal

abbrev pub invariant-loop-i : goal.invariant-loop-i
invariant-loop-i l =
    Declares (cells_of (program_tree l.p)) (output l.initial.out.items l.initial.at) (declarations (cells_of (program_tree l.p)) l.initial.at.next l.initial.objects) (output l.out.items l.at) (drop l.i l.objects)
