use Rattle.l2_well_formed.proofs.Units.{well_formed}
use Rattle.l2_well_formed.proofs.laws.well_formed_law.Goals as goal

pub returns : goal.returns
returns c = well_formed
