use Rattle.l2_found_laws.proofs.Few.{turns_few}
use Rattle.l2_found_laws.proofs.laws.turns_few.Goals as goal

-- src/laws.rt:18:1
pub returns : goal.returns
returns c = turns_few
