use Rattle.l2_tree_laws.proofs.Types.{storage_found}
use Rattle.l2_tree_laws.proofs.specifiers.storage_law.Goals as goal

pub returns : goal.returns
returns c = storage_found
