use Rattle.l2_cnf.proofs.Growth.{IsAbsorbed-member}
use Rattle.l2_cnf.proofs.theorems.member_is_absorbed.Goals as goal

pub returns : goal.returns
returns c = IsAbsorbed-member
