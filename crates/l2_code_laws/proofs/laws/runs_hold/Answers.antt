use Rattle.l2_code_laws.proofs.Starts.{nodes_do, limits_hold, runs_do}
use Rattle.l2_code_laws.proofs.laws.runs_hold.Goals as goal

-- src/laws.rt:5:1
pub returns-clause-nodes : goal.returns-clause-nodes
returns-clause-nodes c = nodes_do

-- src/laws.rt:5:1
pub returns-clause-limits : goal.returns-clause-limits
returns-clause-limits c = limits_hold

-- src/laws.rt:5:1
pub returns-clause-runs : goal.returns-clause-runs
returns-clause-runs c = runs_do
