use Rattle.l2_bits.proofs.BitLaws.{same_by_bits}
use Rattle.l2_bits.proofs.laws.bits_tell_a_value.Goals as goal

pub returns : goal.returns
returns c = same_by_bits
