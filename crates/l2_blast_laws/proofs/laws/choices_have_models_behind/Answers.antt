use Rattle.l2_blast_laws.proofs.Given.{circuits}
use Rattle.l2_blast_laws.proofs.Choosing.{choices_have_models_behind as proved}
use Rattle.l2_blast_laws.proofs.laws.choices_have_models_behind.Goals as goal

pub returns : goal.returns
returns c = proved circuits
