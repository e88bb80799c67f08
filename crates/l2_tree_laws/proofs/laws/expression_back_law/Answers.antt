use Rattle.std.proofs.Common.{[]}
use Rattle.l2_tree_laws.proofs.BackExpressions.{of_expr}
use Rattle.l2_tree_laws.proofs.laws.expression_back_law.Goals as goal

pub returns : goal.returns
returns c = λ s e. (of_expr s e).goes []
