use Rattle.l2_answer.proofs.Headline.{headline}
use Rattle.l2_answer.proofs.laws.checked_law.Goals as goal

pub returns : goal.returns
returns c = headline c.accepted_law.ensures
