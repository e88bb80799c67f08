use Rattle.l2_tree_names.proofs.BasePlaces.{base_some}
use Rattle.l2_tree_names.proofs.laws.base_place_law.Goals as goal

pub returns : goal.returns
returns c = base_some c.declaration_type_law.ensures
