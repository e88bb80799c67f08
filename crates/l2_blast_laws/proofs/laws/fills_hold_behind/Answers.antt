use Rattle.l2_blast_laws.proofs.Given.{circuits}
use Rattle.l2_blast_laws.proofs.Solving.{fills_hold_behind as proved}
use Rattle.l2_blast_laws.proofs.laws.fills_hold_behind.Goals as goal

pub returns : goal.returns
returns c = proved circuits
