use Rattle.l2_bits.proofs.Quotients.{remainder_parts, remainder_smaller, remainder_above, remainder_below}
use Rattle.l2_bits.proofs.laws.quotient_truncates.Goals as goal

pub returns-clause-parts : goal.returns-clause-parts
returns-clause-parts c = remainder_parts

pub returns-clause-smaller : goal.returns-clause-smaller
returns-clause-smaller c = remainder_smaller

pub returns-clause-above : goal.returns-clause-above
returns-clause-above c = remainder_above

pub returns-clause-below : goal.returns-clause-below
returns-clause-below c = remainder_below
