use Rattle.l2_found_laws.proofs.Programs.{shorts_found}
use Rattle.l2_found_laws.proofs.laws.shorts_found.Goals as goal

-- src/laws.rt:13:1
pub returns : goal.returns
returns c = shorts_found
