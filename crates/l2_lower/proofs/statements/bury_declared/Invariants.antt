use Rattle.std.proofs.Common.{◌≡◌, drop}
use Rattle.l2_program.specs.Checked.{checked_trees}
use Rattle.l2_meaning.specs.Meaning.{declared}
use Rattle.l2_lower.specs.Emitting.{part}
use Rattle.l2_lower.specs.Statements.{deads}
use Rattle.l2_lower.specs.Output.{output}
use Rattle.l2_lower.proofs.Outputs.{Leaves}
use Rattle.l2_lower.proofs.statements.bury_declared.Given as goal

abbrev pub invariant-loop-s : goal.invariant-loop-s
invariant-loop-s l =
    Leaves (output l.initial.out.items l.initial.at) (part l.initial.at.next (deads (declared (checked_trees l.initial.all)))) (output l.out.items l.at) (part l.initial.at.next (deads (declared (checked_trees (drop l.s-index l.all))))) × (l.at.next ≡ l.initial.at.next)
