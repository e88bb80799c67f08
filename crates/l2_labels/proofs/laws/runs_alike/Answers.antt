use Rattle.l2_labels.proofs.Runs.{runs_law}
use Rattle.l2_labels.proofs.laws.runs_alike.Goals as goal

-- src/laws.rt:1:1
pub returns : goal.returns
returns c = runs_law
