use Rattle.l2_check.proofs.Sole.{one_refusal}
use Rattle.l2_check.proofs.laws.one_refusal.Goals as goal

pub returns : goal.returns
returns c = one_refusal
