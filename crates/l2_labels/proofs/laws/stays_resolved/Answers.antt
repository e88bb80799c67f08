use Rattle.l2_labels.proofs.Kept.{resolved_law}
use Rattle.l2_labels.proofs.laws.stays_resolved.Goals as goal

-- src/laws.rt:1:1
pub returns : goal.returns
returns c = resolved_law
