use Rattle.l2_number_circuits.proofs.Testing as lemmas
use Rattle.l2_number_circuits.proofs.laws.divisions_are.Goals as goal

pub returns : goal.returns
returns c = lemmas.divisions_are
