use Rattle.l2_rank_verdict_laws.proofs.Meaning.{unranked}
use Rattle.l2_rank_verdict_laws.proofs.laws.unranked_law.Goals as goal

pub returns : goal.returns
returns c = unranked (record { infers = c.meet_law.ensures.infers; stronger = c.meet_law.ensures.ranks; ranks = c.rank_law.ensures; stuck = c.stuck_law.ensures })
