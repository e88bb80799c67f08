use Rattle.l2_row_laws.proofs.Failing.{lower, below, failed}
use Rattle.l2_row_laws.proofs.laws.row_law.Goals as goal

pub returns-clause-lower : goal.returns-clause-lower
returns-clause-lower c = lower

pub returns-clause-below : goal.returns-clause-below
returns-clause-below c = below

pub returns-clause-failed : goal.returns-clause-failed
returns-clause-failed c = failed
