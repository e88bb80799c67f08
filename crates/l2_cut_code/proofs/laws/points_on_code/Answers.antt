use Rattle.l2_cut_code.proofs.Ties.{same_executions, same_limit}
use Rattle.l2_cut_code.proofs.laws.points_on_code.Goals as goal

pub returns-clause-limits : goal.returns-clause-limits
returns-clause-limits c = same_limit

pub returns-clause-executions : goal.returns-clause-executions
returns-clause-executions c = same_executions
