use Rattle.l2_bits.proofs.Wraps.{wrap_is, wrap_only}
use Rattle.l2_bits.proofs.laws.wrap_is_the_only_value.Goals as goal

pub returns-clause-exists : goal.returns-clause-exists
returns-clause-exists c = wrap_is

pub returns-clause-only : goal.returns-clause-only
returns-clause-only c = wrap_only
