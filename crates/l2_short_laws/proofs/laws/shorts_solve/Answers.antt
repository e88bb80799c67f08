use Rattle.l2_short_laws.proofs.Breaking.{shorts_solve}
use Rattle.l2_short_laws.proofs.laws.shorts_solve.Goals as goal

-- src/laws.rt:7:1
pub returns : goal.returns
returns c = shorts_solve
