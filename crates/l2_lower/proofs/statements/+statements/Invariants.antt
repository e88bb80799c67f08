use Rattle.std.proofs.Common.{◌≡◌, ◌+◌, ◌*◌, ◌++◌, drop}
use Rattle.l2_program.specs.Checked.{checked_tree, checked_trees}
use Rattle.l2_program.specs.Programs.{program_tree}
use Rattle.l2_meaning.specs.Execution.{cells_of}
use Rattle.l2_meaning.specs.Meaning.{declared}
use Rattle.l2_lower.specs.Statements.{statements}
use Rattle.l2_lower.specs.Output.{output}
use Rattle.l2_lower.proofs.Outputs.{Leaves}
use Rattle.l2_lower.proofs.Weights.{size, sizes}
use Rattle.l2_lower.proofs.statements.+statements.Given as goal

abbrev pub decreases-statement : goal.decreases-statement
decreases-statement l = 5 * size (checked_tree l.s.now)

abbrev pub decreases-guarded : goal.decreases-guarded
decreases-guarded l = 5 * size (checked_tree l.s.now) + 1

abbrev pub decreases-one_side : goal.decreases-one_side
decreases-one_side l = 5 * size (checked_tree l.s.now) + 2

abbrev pub decreases-first_side : goal.decreases-first_side
decreases-first_side l = 5 * size (checked_tree l.s.now) + 2

abbrev pub decreases-both_sides : goal.decreases-both_sides
decreases-both_sides l = 5 * (size (checked_tree l.s.now) + size (checked_tree l.t.now)) + 3

abbrev pub decreases-two_sides : goal.decreases-two_sides
decreases-two_sides l = 5 * (size (checked_tree l.s.now) + size (checked_tree l.t.now)) + 3 + 1

abbrev pub decreases-repeat : goal.decreases-repeat
decreases-repeat l = 5 * size (checked_tree l.s.now) + 2

abbrev pub decreases-items : goal.decreases-items
decreases-items l = 5 * sizes (checked_trees l.all.now) + 1

abbrev pub decreases-block : goal.decreases-block
decreases-block l = 5 * sizes (checked_trees l.all.now) + 2

abbrev pub invariant-items-loop-s : goal.invariant-items-loop-s
invariant-items-loop-s l =
    Leaves (output l.initial.out.items l.initial.at) (statements (cells_of (program_tree l.p)) l.initial.scope.items l.initial.at.next (checked_trees l.initial.all)) (output l.out.items l.at) (statements (cells_of (program_tree l.p)) l.scope.items l.at.next (checked_trees (drop l.s-index l.all)))
    × (l.scope.items ++ declared (checked_trees (drop l.s-index l.all)) ≡ l.initial.scope.items ++ declared (checked_trees l.initial.all))
