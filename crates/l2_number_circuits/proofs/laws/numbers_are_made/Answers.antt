use Rattle.l2_number_circuits.proofs.Making as lemmas
use Rattle.l2_number_circuits.proofs.laws.numbers_are_made.Goals as goal

pub returns : goal.returns
returns c = lemmas.numbers_are_made
