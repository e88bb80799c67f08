use Rattle.l2_cut_laws.proofs.Consequences.{cut_law_of_check}
use Rattle.l2_cut_laws.proofs.laws.cut_law_of_check.Goals as goal

pub returns : goal.returns
returns c = cut_law_of_check
