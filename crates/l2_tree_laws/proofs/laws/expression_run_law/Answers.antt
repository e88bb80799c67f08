use Rattle.l2_tree_laws.proofs.Built.{expression_has_run}
use Rattle.l2_tree_laws.proofs.laws.expression_run_law.Goals as goal

pub returns : goal.returns
returns c = expression_has_run
