use Rattle.l2_constant_laws.proofs.Near.{thresholds_law}
use Rattle.l2_constant_laws.proofs.laws.thresholds_law.Goals as goal

pub returns : goal.returns
returns c = thresholds_law
