use Rattle.l2_labels.proofs.Weights.{weights_law}
use Rattle.l2_labels.proofs.laws.weighs_alike.Goals as goal

pub returns : goal.returns
returns c = weights_law
