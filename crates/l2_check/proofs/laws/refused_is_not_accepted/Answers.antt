use Rattle.l2_check.proofs.Refusing.{refused}
use Rattle.l2_check.proofs.laws.refused_is_not_accepted.Goals as goal

pub returns : goal.returns
returns c = refused
