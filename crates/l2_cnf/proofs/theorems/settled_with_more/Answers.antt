use Rattle.l2_cnf.proofs.Growth.{Settles-more}
use Rattle.l2_cnf.proofs.theorems.settled_with_more.Goals as goal

pub returns : goal.returns
returns c = Settles-more
