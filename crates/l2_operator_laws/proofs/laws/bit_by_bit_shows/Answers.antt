use Rattle.l2_operator_laws.proofs.BitByBit as lemmas
use Rattle.l2_operator_laws.proofs.laws.bit_by_bit_shows.Goals as goal

pub returns : goal.returns
returns c = lemmas.bit_by_bit_shows
