use Rattle.l2_check.proofs.Verdict.{accepted_true}
use Rattle.l2_check.proofs.laws.accepted_is_true.Goals as goal

pub returns : goal.returns
returns c = accepted_true c.derived_is_implied.ensures c.points_prove.ensures c.ranks_prove.ensures
