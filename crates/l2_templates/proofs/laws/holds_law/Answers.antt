use Rattle.l2_templates.proofs.Holding.{holds_decides}
use Rattle.l2_templates.proofs.laws.holds_law.Goals as goal

pub returns : goal.returns
returns c = holds_decides
