use Rattle.l2_cnf.proofs.Derivations.{IsDerivation-over}
use Rattle.l2_cnf.proofs.theorems.derived_over_more.Goals as goal

pub returns : goal.returns
returns c = IsDerivation-over
