use Rattle.l2_cut_laws.proofs.Consequences.{turn_bound, terminating}
use Rattle.l2_cut_laws.proofs.laws.turn_bound.Goals as goal

pub returns-clause-turns : goal.returns-clause-turns
returns-clause-turns c = turn_bound

pub returns-clause-terminating : goal.returns-clause-terminating
returns-clause-terminating c = terminating
