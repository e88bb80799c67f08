use Rattle.l2_cnf.proofs.Growth.{IsAbsorbed-append}
use Rattle.l2_cnf.proofs.theorems.absorbed_is_kept.Goals as goal

pub returns : goal.returns
returns c = IsAbsorbed-append
