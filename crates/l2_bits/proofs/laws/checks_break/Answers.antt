use Rattle.l2_bits.proofs.Checks.{division_breaks, shift_breaks}
use Rattle.l2_bits.proofs.laws.checks_break.Goals as goal

pub returns-clause-division : goal.returns-clause-division
returns-clause-division c = division_breaks

pub returns-clause-shift : goal.returns-clause-shift
returns-clause-shift c = shift_breaks
