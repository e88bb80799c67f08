use Rattle.l2_supply.proofs.Runs.{nodes_agree}
use Rattle.l2_supply.proofs.laws.runs_agree.Goals as goal

-- src/laws.rt:6:1
pub returns : goal.returns
returns c = nodes_agree
