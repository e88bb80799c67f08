use Rattle.l2_blast_laws.proofs.Given.{circuits}
use Rattle.l2_blast_laws.proofs.Folds.{steps_made_behind as proved}
use Rattle.l2_blast_laws.proofs.laws.blasting_makes_behind.Goals as goal

pub returns : goal.returns
returns c = λ s fill m so xs. proved circuits s fill m so xs
