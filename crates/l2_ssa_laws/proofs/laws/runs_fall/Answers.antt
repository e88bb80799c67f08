use Rattle.l2_ssa_laws.proofs.Solved.{runs_fall}
use Rattle.l2_ssa_laws.proofs.laws.runs_fall.Goals as goal

-- src/laws.rt:20:1
pub returns : goal.returns
returns c = runs_fall
