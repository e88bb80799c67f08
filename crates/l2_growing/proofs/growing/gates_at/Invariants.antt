use Rattle.std.proofs.Common.{◌≡◌, ◌≤◌, ◌-◌}
use Rattle.l2_growing.specs.Models.{at_variables}
use Rattle.l2_growing.proofs.growing.gates_at.Given as goal

abbrev pub invariant-loop-gates : goal.invariant-loop-gates
invariant-loop-gates l = (l.gates ≡ at_variables l.gates.next) × (l.gates.next ≤ l.variables)

abbrev pub decreases-loop-gates : goal.decreases-loop-gates
decreases-loop-gates l = l.variables - l.gates.next
