use Rattle.l2_templates.proofs.Holding.{is_lower, lower_is}
use Rattle.l2_templates.proofs.laws.lower_law.Goals as goal

pub returns : goal.returns
returns c = λ r before after. (lower_is r before after, is_lower r before after)
