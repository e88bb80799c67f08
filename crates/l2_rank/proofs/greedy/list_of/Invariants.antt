use Rattle.std.proofs.Common.{◌≡◌}
use Rattle.l2_rank.specs.Search.{left, AreMarked, IsBegun}
use Rattle.l2_rank.proofs.greedy.list_of.Given as goal

abbrev pub invariant-loop-used : goal.invariant-loop-used
invariant-loop-used g l =
    (g.T.Turns.problem l.engine ≡ g.T.Turns.problem l.fn.engine) × AreMarked l.candidates l.list.items l.used.items
    × IsBegun (g.T.Turns.moves (g.T.Turns.problem l.fn.engine) l.point l.at) (g.T.Turns.stays (g.T.Turns.problem l.fn.engine) l.point l.at) l.candidates l.list.items

abbrev pub decreases-loop-used : goal.decreases-loop-used
decreases-loop-used g l = left l.used.items
