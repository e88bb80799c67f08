use Rattle.l2_cnf.proofs.Growth.{Settles-append}
use Rattle.l2_cnf.proofs.theorems.settled_is_kept.Goals as goal

pub returns : goal.returns
returns c = Settles-append
