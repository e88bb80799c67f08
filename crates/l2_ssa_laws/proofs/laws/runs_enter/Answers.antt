use Rattle.l2_ssa_laws.proofs.Safe.{runs_enter}
use Rattle.l2_ssa_laws.proofs.laws.runs_enter.Goals as goal

-- src/laws.rt:31:1
pub returns : goal.returns
returns c = runs_enter
