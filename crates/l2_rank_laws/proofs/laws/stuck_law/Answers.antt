use Rattle.l2_rank_laws.proofs.Lists.{stuck}
use Rattle.l2_rank_laws.proofs.laws.stuck_law.Goals as goal

pub returns : goal.returns
returns c = stuck
