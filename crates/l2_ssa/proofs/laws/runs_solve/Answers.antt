use Rattle.l2_ssa.proofs.Solutions.{runs_solve}
use Rattle.l2_ssa.proofs.laws.runs_solve.Goals as goal

-- src/laws.rt:11:1
pub returns : goal.returns
returns c = runs_solve
