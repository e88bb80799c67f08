use Rattle.l2_tree_laws.proofs.Types.{other_found}
use Rattle.l2_tree_laws.proofs.specifiers.other_type_law.Goals as goal

pub returns : goal.returns
returns c = other_found
