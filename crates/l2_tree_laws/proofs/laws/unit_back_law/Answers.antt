use Rattle.l2_tree_laws.proofs.BackStatements.{of_unit}
use Rattle.l2_tree_laws.proofs.laws.unit_back_law.Goals as goal

pub returns : goal.returns
returns c = of_unit
