use Rattle.l2_short_laws.proofs.Finding.{solutions_break}
use Rattle.l2_short_laws.proofs.laws.solutions_break.Goals as goal

-- src/laws.rt:14:1
pub returns : goal.returns
returns c = solutions_break
