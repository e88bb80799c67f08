use Rattle.l2_tree_laws.proofs.Types.{declaration_type}
use Rattle.l2_tree_laws.proofs.specifiers.declaration_type_law.Goals as goal

pub returns : goal.returns
returns c = declaration_type
