use Rattle.l2_blast_laws.proofs.Given.{circuits}
use Rattle.l2_blast_laws.proofs.Solving.{models_solve_behind as proved}
use Rattle.l2_blast_laws.proofs.laws.models_solve_behind.Goals as goal

pub returns : goal.returns
returns c = proved circuits
