use Rattle.l2_text_laws.proofs.Thresholds.{text_thresholds}
use Rattle.l2_text_laws.proofs.laws.thresholds_of_a_text.Goals as goal

pub returns : goal.returns
returns c = text_thresholds
