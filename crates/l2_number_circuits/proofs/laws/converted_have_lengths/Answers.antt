use Rattle.l2_number_circuits.proofs.Lengths as lemmas
use Rattle.l2_number_circuits.proofs.laws.converted_have_lengths.Goals as goal

pub returns : goal.returns
returns c = lemmas.converted_have_lengths
