use Rattle.l2_tree_laws.proofs.Unique.{unique_run}
use Rattle.l2_tree_laws.proofs.laws.unique_run_law.Goals as goal

pub returns : goal.returns
returns c = unique_run
