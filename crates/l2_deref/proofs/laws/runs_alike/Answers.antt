use Rattle.l2_deref.proofs.Alike.{runs_law}
use Rattle.l2_deref.proofs.laws.runs_alike.Goals as goal

pub returns : goal.returns
returns c = runs_law
