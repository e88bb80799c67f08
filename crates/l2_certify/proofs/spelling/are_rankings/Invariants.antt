use Rattle.l2_certify.proofs.Spelt.{RankBefore}
use Rattle.l2_certify.proofs.spelling.are_rankings.Given as goal

abbrev pub invariant-loop-i : goal.invariant-loop-i
invariant-loop-i l = RankBefore l.point l.ranks l.i
