use Rattle.l2_found_laws.proofs.Programs.{solutions_find}
use Rattle.l2_found_laws.proofs.laws.solutions_find.Goals as goal

-- src/laws.rt:7:1
pub returns : goal.returns
returns c = solutions_find
