use Rattle.l2_reading_laws.proofs.Once.{read_once}
use Rattle.l2_reading_laws.proofs.laws.expression_read_law.Goals as goal

pub returns : goal.returns
returns c = read_once c.expression_law.ensures c.expression_back_law.ensures
