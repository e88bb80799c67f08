use Rattle.l2_renumber_laws.proofs.Trees.{renumbering}
use Rattle.l2_renumber_laws.proofs.laws.renumber_law.Goals as goal

pub returns : goal.returns
returns c = renumbering
