use Rattle.l2_tree_names.proofs.Names.{name_first}
use Rattle.l2_tree_names.proofs.laws.name_law.Goals as goal

pub returns : goal.returns
returns c = name_first
