use Rattle.l2_labels.proofs.Kept.{well_formed_law}
use Rattle.l2_labels.proofs.laws.stays_well_formed.Goals as goal

-- src/laws.rt:1:1
pub returns : goal.returns
returns c = well_formed_law
