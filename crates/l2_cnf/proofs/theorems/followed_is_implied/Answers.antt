use Rattle.l2_cnf.proofs.Laws.{Follows-implied}
use Rattle.l2_cnf.proofs.theorems.followed_is_implied.Goals as goal

pub returns : goal.returns
returns c = Follows-implied
