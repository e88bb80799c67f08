use Rattle.std.proofs.Common.{◌-◌}
use Rattle.l2_strategy.proofs.Steps.{IsHalving}
use Rattle.l2_strategy.proofs.search.least.Given as goal

abbrev pub invariant-loop-low : goal.invariant-loop-low
invariant-loop-low g l =
    IsHalving (g.A.Asks.exceeds (g.A.Asks.problem l.fn.engine) l.point l.broken.at l.broken.row) (g.A.Asks.problem l.fn.engine) (g.A.Asks.problem l.engine) (g.A.Asks.asked l.fn.engine) (g.A.Asks.asked l.engine) l.bounds l.from l.low l.high

abbrev pub decreases-loop-low : goal.decreases-loop-low
decreases-loop-low g l = l.high - l.low
