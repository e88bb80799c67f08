use Rattle.l2_cnf.proofs.Derivations.{IsDerivation-implied}
use Rattle.l2_cnf.proofs.theorems.derived_is_implied.Goals as goal

pub returns : goal.returns
returns c = IsDerivation-implied
