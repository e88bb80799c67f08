use Rattle.l2_tree_laws.proofs.Built.{unit_has_run}
use Rattle.l2_tree_laws.proofs.laws.unit_run_law.Goals as goal

pub returns : goal.returns
returns c = unit_has_run
