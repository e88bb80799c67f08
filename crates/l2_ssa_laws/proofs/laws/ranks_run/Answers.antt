use Rattle.l2_ssa_laws.proofs.Solved.{ranks_run}
use Rattle.l2_ssa_laws.proofs.laws.ranks_run.Goals as goal

-- src/laws.rt:14:1
pub returns : goal.returns
returns c = ranks_run
