use Rattle.l2_tree_laws.proofs.Unique.{unique_tree}
use Rattle.l2_tree_laws.proofs.laws.unique_tree_law.Goals as goal

pub returns : goal.returns
returns c = unique_tree
