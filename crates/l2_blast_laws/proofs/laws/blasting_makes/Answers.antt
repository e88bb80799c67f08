use Rattle.l2_blast_laws.proofs.Given.{circuits}
use Rattle.l2_blast_laws.proofs.Folds.{steps_made as proved}
use Rattle.l2_blast_laws.proofs.laws.blasting_makes.Goals as goal

pub returns : goal.returns
returns c = λ s fill xs. proved circuits s fill xs
