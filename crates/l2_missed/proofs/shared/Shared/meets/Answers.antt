use Rattle.l2_missed.proofs.Asking.{tells}
use Rattle.l2_missed.proofs.shared.Shared.meets.Goals as goal

pub returns-clause-is : goal.returns-clause-is
returns-clause-is c = tells _ c.in_ok-values.values c.is_some.result c.is_some.ensures c.in_ok-values.ensures.is
