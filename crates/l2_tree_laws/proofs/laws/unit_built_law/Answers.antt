use Rattle.l2_tree_laws.proofs.Built.{unit_is_built}
use Rattle.l2_tree_laws.proofs.laws.unit_built_law.Goals as goal

pub returns : goal.returns
returns c = unit_is_built
