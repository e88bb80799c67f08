use Rattle.l2_point_laws.proofs.Greedy.{greedy_ranks}
use Rattle.l2_point_laws.proofs.laws.rank_law.Goals as goal

pub returns : goal.returns
returns c = greedy_ranks
