use Rattle.l2_constant_laws.proofs.Small.{constants_law}
use Rattle.l2_constant_laws.proofs.laws.constants_law.Goals as goal

pub returns : goal.returns
returns c = constants_law
