use Rattle.std.proofs.Common.{◌+◌, ◌*◌}
use Rattle.l2_program.specs.Checked.{typed_tree}
use Rattle.l2_lower.proofs.Weights.{weight}
use Rattle.l2_lower.proofs.expressions.+expressions.Given as goal

abbrev pub decreases-expression : goal.decreases-expression
decreases-expression l = 3 * weight (typed_tree l.e.now)

abbrev pub decreases-number : goal.decreases-number
decreases-number l = 3 * weight (typed_tree l.e.now) + 1

abbrev pub decreases-condition : goal.decreases-condition
decreases-condition l = 3 * weight (typed_tree l.e.now) + 2
