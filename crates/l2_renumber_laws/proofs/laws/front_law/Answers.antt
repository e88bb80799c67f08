use Rattle.l2_renumber_laws.proofs.Fronts.{fronting}
use Rattle.l2_renumber_laws.proofs.laws.front_law.Goals as goal

pub returns : goal.returns
returns c = fronting
