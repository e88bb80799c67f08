use Rattle.std.proofs.Common.{◌≡◌}
use Rattle.l2_rank.proofs.Searching.{AreRanked}
use Rattle.l2_rank.proofs.greedy.rankings.Given as goal

abbrev pub invariant-loop-i : goal.invariant-loop-i
invariant-loop-i g l =
    (g.T.Turns.problem l.engine ≡ g.T.Turns.problem l.fn.engine)
    × AreRanked (g.T.Turns.moves (g.T.Turns.problem l.fn.engine) l.point) (g.T.Turns.stays (g.T.Turns.problem l.fn.engine) l.point) l.loops l.i l.ranks
