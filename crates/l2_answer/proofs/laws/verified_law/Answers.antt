use Rattle.l2_answer.proofs.Headline.{verified}
use Rattle.l2_answer.proofs.laws.verified_law.Goals as goal

pub returns : goal.returns
returns c = verified c.verified_law.ensures
