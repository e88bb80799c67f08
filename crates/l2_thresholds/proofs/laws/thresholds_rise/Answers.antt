use Rattle.l2_thresholds.proofs.Order.{rise, has_zero}
use Rattle.l2_thresholds.proofs.laws.thresholds_rise.Goals as goal

pub returns-clause-rise : goal.returns-clause-rise
returns-clause-rise c = rise

pub returns-clause-zero : goal.returns-clause-zero
returns-clause-zero c = has_zero
