use Rattle.std.proofs.Common.{◌≡◌, length}
use Rattle.l2_dimacs.specs.Reading.{left}
use Rattle.l2_dimacs.proofs.cursor.Tokens.first.Given as goal

abbrev pub invariant-loop-cut : goal.invariant-loop-cut
invariant-loop-cut l = left l.self ≡ left l.at

abbrev pub decreases-loop-cut : goal.decreases-loop-cut
decreases-loop-cut l = length l.at.rest.now
