use Rattle.l2_rank_laws.proofs.Lists.{kept}
use Rattle.l2_rank_laws.proofs.laws.kept_law.Goals as goal

pub returns : goal.returns
returns c = kept
