use Rattle.l2_reading_laws.proofs.Once.{once}
use Rattle.l2_reading_laws.proofs.laws.unique_expression_refusal_law.Goals as goal

pub returns : goal.returns
returns c = once c.expression_nesting_law.ensures c.expression_syntax_law.ensures
