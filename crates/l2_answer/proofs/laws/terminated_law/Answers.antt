use Rattle.l2_answer.proofs.Headline.{terminated}
use Rattle.l2_answer.proofs.laws.terminated_law.Goals as goal

pub returns : goal.returns
returns c = terminated c.terminated_law.ensures
