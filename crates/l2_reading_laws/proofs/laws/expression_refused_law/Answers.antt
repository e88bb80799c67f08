use Rattle.l2_reading_laws.proofs.Once.{not_refused}
use Rattle.l2_reading_laws.proofs.laws.expression_refused_law.Goals as goal

pub returns : goal.returns
returns c = not_refused c.expression_law.ensures c.expression_nesting_law.ensures c.expression_syntax_law.ensures
