use Rattle.l2_bits.proofs.Quotients.{floor_at_most, floor_next}
use Rattle.l2_bits.proofs.laws.floor_rounds_down.Goals as goal

pub returns-clause-at_most : goal.returns-clause-at_most
returns-clause-at_most c = floor_at_most

pub returns-clause-next : goal.returns-clause-next
returns-clause-next c = floor_next
