use Rattle.l2_number_circuits.proofs.Showing as lemmas
use Rattle.l2_number_circuits.proofs.laws.numbers_show.Goals as goal

pub returns : goal.returns
returns c = lemmas.numbers_show
