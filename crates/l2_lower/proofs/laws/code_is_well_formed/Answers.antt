use Rattle.l2_lower.proofs.WellFormedCode.{code_well_formed}
use Rattle.l2_lower.proofs.laws.code_is_well_formed.Goals as goal

pub returns : goal.returns
returns c = code_well_formed
