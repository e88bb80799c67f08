use Rattle.l2_parse_unit.proofs.Unique.{unique}
use Rattle.l2_parse_unit.proofs.laws.unique_unit_law.Goals as goal

pub unique_tree_law-requires : goal.unique_tree_law-requires
unique_tree_law-requires c = tt

pub returns : goal.returns
returns c = unique c.unique_tree_law.ensures
