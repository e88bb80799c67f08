use Rattle.l2_tree_laws.proofs.Built.{expression_is_built}
use Rattle.l2_tree_laws.proofs.laws.expression_built_law.Goals as goal

pub returns : goal.returns
returns c = expression_is_built
