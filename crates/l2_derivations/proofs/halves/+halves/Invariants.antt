use Rattle.std.proofs.Common.{◌+◌, ◌*◌}
use Rattle.l2_derivations.proofs.halves.+halves.Given as goal

abbrev pub decreases-check_halves : goal.decreases-check_halves
decreases-check_halves g l = l.jobs * 2

abbrev pub decreases-back : goal.decreases-back
decreases-back g l = l.high * 2 + 1

abbrev pub decreases-front : goal.decreases-front
decreases-front g l = l.low * 2 + 1
