use Rattle.l2_answer_laws.proofs.Decided.{decides}
use Rattle.l2_answer_laws.proofs.laws.decided_law.Goals as goal

pub returns : goal.returns
returns c = decides
