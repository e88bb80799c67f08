use Rattle.l2_rank_laws.proofs.Lists.{ranks_too}
use Rattle.l2_rank_laws.proofs.laws.greedy_law.Goals as goal

pub returns : goal.returns
returns c = ranks_too
