use Rattle.l2_row_laws.proofs.Strongest.{strongest}
use Rattle.l2_row_laws.proofs.laws.strongest_law.Goals as goal

pub returns : goal.returns
returns c = strongest
