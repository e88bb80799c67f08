use Rattle.l2_number_circuits.proofs.Overflows as lemmas
use Rattle.l2_number_circuits.proofs.laws.overflows_are.Goals as goal

pub returns : goal.returns
returns c = lemmas.overflows_are
