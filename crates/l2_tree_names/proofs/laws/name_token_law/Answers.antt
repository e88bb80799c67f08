use Rattle.l2_tree_names.proofs.Names.{name_token}
use Rattle.l2_tree_names.proofs.laws.name_token_law.Goals as goal

pub returns : goal.returns
returns c = name_token
