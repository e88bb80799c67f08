use Rattle.l2_ssa.proofs.Solutions.{solutions_run}
use Rattle.l2_ssa.proofs.laws.solutions_run.Goals as goal

-- src/laws.rt:5:1
pub returns : goal.returns
returns c = solutions_run
