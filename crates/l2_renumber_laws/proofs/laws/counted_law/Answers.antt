use Rattle.l2_renumber_laws.proofs.Trees.{counted_alike}
use Rattle.l2_renumber_laws.proofs.laws.counted_law.Goals as goal

pub returns : goal.returns
returns c = counted_alike
