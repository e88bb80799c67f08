use Rattle.std.proofs.Common.{◌≡◌}
use Rattle.l2_rank.proofs.Searching.{IsPassed}
use Rattle.l2_rank.proofs.greedy.first_serving.Given as goal

abbrev pub invariant-loop-i : goal.invariant-loop-i
invariant-loop-i g l =
    (g.T.Turns.problem l.engine ≡ g.T.Turns.problem l.fn.engine) × IsPassed (g.T.Turns.moves (g.T.Turns.problem l.fn.engine) l.point l.at) l.list l.candidates l.i
