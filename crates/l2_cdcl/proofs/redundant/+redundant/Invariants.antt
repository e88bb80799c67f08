use Rattle.std.proofs.Common.{◌+◌, ◌*◌}
use Rattle.l2_cdcl.proofs.redundant.+redundant.Given as goal

abbrev pub decreases-is_implied : goal.decreases-is_implied
decreases-is_implied l = 2 * l.reach.depth

abbrev pub decreases-is_redundant : goal.decreases-is_redundant
decreases-is_redundant l = 2 * l.reach.depth + 1
