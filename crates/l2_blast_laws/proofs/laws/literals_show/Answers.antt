use Rattle.l2_blast_laws.proofs.Given.{circuits}
use Rattle.l2_blast_laws.proofs.Solving.{literals_show as proved}
use Rattle.l2_blast_laws.proofs.laws.literals_show.Goals as goal

pub returns : goal.returns
returns c = proved circuits
