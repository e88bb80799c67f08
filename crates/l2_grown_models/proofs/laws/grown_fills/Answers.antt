use Rattle.l2_grown_models.proofs.Filling.{grown_fills as proved}
use Rattle.l2_grown_models.proofs.laws.grown_fills.Goals as goal

pub returns : goal.returns
returns c = proved
