use Rattle.l2_ssa_laws.proofs.Solved.{rows_run}
use Rattle.l2_ssa_laws.proofs.laws.rows_run.Goals as goal

-- src/laws.rt:8:1
pub returns : goal.returns
returns c = rows_run
